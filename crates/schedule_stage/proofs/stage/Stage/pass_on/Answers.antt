use Rattle.std.proofs.Common.{ℕ, sym, subst}
use Rattle.ritas_base.specs.declared.event.Event.TheVariants as events
use Rattle.world_model.specs.declared.player.Player.TheVariants.{Correct}
use Rattle.world_model.specs.Players.{Carry}
use Rattle.schedule_replay.specs.Layers.{layers_by}
use Rattle.schedule_stage.specs.Stepping.{Happens}
use Rattle.schedule_stage.specs.Worlds.{world_in}
use Rattle.schedule_stage.proofs.Steps.{pass_happens}
use Rattle.schedule_stage.proofs.stage.Stage.pass_on.Goals as goal

pub returns : goal.returns
returns g c = λ p what steps stands from to apart.
    let m = layers_by g.S.Service.stands g.S.Service.rules g.S.Service.shown g.E.Broadcast.stands g.E.Broadcast.rules g.E.Broadcast.shown in
    let w = world_in m p in
    let i = c.args.i in
    let j = c.args.j in
    let step = Carry (Correct i) (Correct j) c.args.number in
    c.happen.ensures p what steps step stands
    (subst (λ (k : ℕ). Happens w p steps step (events.Pass i j k)) (sym c.in_ok-m.ensures)
    (pass_happens w p steps stands.world.replicas.within i j c.args.number from to apart))
