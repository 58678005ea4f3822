use Rattle.std.proofs.Common.{sym, subst}
use Rattle.ritas_base.specs.declared.event.Event.{Event}
use Rattle.world_model.specs.declared.player.Player.TheVariants.{Correct, Face}
use Rattle.world_model.specs.Players.{Carry}
use Rattle.schedule_replay.specs.Layers.{layers_by}
use Rattle.schedule_stage.specs.Stepping.{Happens}
use Rattle.schedule_stage.specs.Worlds.{world_in}
use Rattle.schedule_stage.proofs.Steps.{frame_happens, none_happens}
use Rattle.schedule_stage.proofs.stage.Stage.show.Goals as goal

pub returns-in_ok-event-in-Some : goal.returns-in_ok-event-in-Some
returns-in_ok-event-in-Some g c = λ p what steps stands from to apart.
    let m = layers_by g.S.Service.stands g.S.Service.rules g.S.Service.shown g.E.Broadcast.stands g.E.Broadcast.rules g.E.Broadcast.shown in
    let w = world_in m p in
    let a = c.args.a in
    let j = c.args.j in
    let k = c.args.number in
    let within = stands.world.replicas.within in
    let made = c.in_ok-bytes.ensures p what steps stands from (within j to) apart in
    c.happen.ensures p what steps (Carry (Face a) (Correct j) k) stands
    (subst (λ (e : Event). Happens w p steps (Carry (Face a) (Correct j) k) e) (sym c.in_ok-event-in-Some.ensures.0)
    (frame_happens w p steps within a j k c.in-Some.bytes c.in_ok-bytes.field-0 from to apart made c.in-Some.is))

pub returns-in-None : goal.returns-in-None
returns-in-None g c = λ p what steps stands from to apart.
    let m = layers_by g.S.Service.stands g.S.Service.rules g.S.Service.shown g.E.Broadcast.stands g.E.Broadcast.rules g.E.Broadcast.shown in
    let w = world_in m p in
    let a = c.args.a in
    let j = c.args.j in
    let k = c.args.number in
    let made = c.in_ok-bytes.ensures p what steps stands from (stands.world.replicas.within j to) apart in
    c.rest.ensures p what steps (Carry (Face a) (Correct j) k) stands (none_happens w p steps a j k c.in_ok-bytes.field-0 from to apart made c.in-None.is)
