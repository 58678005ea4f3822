use Rattle.world_model.specs.declared.player.Player.TheVariants.{Face}
use Rattle.world_model.specs.Players.{Carry}
use Rattle.schedule_replay.specs.Layers.{layers_by}
use Rattle.schedule_stage.specs.Worlds.{world_in}
use Rattle.schedule_stage.proofs.Steps.{frame_comes, none_comes}
use Rattle.schedule_stage.proofs.stage.Stage.bring.Goals as goal

pub returns-in-Some : goal.returns-in-Some
returns-in-Some g c = λ p what steps stands from to apart.
    let m = layers_by g.S.Service.stands g.S.Service.rules g.S.Service.shown g.E.Broadcast.stands g.E.Broadcast.rules g.E.Broadcast.shown in
    let w = world_in m p in
    let x = c.args.x in
    let a = c.args.a in
    let k = c.args.number in
    let made = c.in_ok-bytes.ensures p what steps stands from to.1 apart in
    c.tell.ensures p what steps (Carry x (Face a) k) stands (frame_comes w p steps x a k c.in-Some.bytes c.in_ok-bytes.field-0 from to apart made c.in-Some.is)

pub returns-in-None : goal.returns-in-None
returns-in-None g c = λ p what steps stands from to apart.
    let m = layers_by g.S.Service.stands g.S.Service.rules g.S.Service.shown g.E.Broadcast.stands g.E.Broadcast.rules g.E.Broadcast.shown in
    let w = world_in m p in
    let x = c.args.x in
    let a = c.args.a in
    let k = c.args.number in
    let made = c.in_ok-bytes.ensures p what steps stands from to.1 apart in
    c.rest.ensures p what steps (Carry x (Face a) k) stands (none_comes w p steps x a k c.in_ok-bytes.field-0 from to apart made c.in-None.is)
