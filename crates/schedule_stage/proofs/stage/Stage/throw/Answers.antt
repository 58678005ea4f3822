use Rattle.world_model.specs.Players.{Throw}
use Rattle.schedule_replay.specs.Layers.{layers_by}
use Rattle.schedule_stage.specs.Worlds.{world_in}
use Rattle.schedule_stage.proofs.Steps.{throw_happens}
use Rattle.schedule_stage.proofs.stage.Stage.throw.Goals as goal

pub returns : goal.returns
returns g c = λ what steps stands from to.
    let m = layers_by g.S.Service.stands g.S.Service.rules g.S.Service.shown g.E.Broadcast.stands g.E.Broadcast.rules g.E.Broadcast.shown in
    let p = c.args.plan.now in
    let within = stands.world.replicas.within in
    c.happen.ensures p what steps (Throw c.args.from c.args.to c.args.rest.now) stands
    (throw_happens (world_in m p) p steps within c.args.from c.args.to c.args.rest.now c.in_ok-bytes.bytes from to c.in_ok-bytes.ensures.is)
