use Rattle.schedule_replay.specs.Layers.{layers_by}
use Rattle.schedule_stage.specs.Worlds.{world_in}
use Rattle.schedule_stage.proofs.Staging.{rests_so}
use Rattle.schedule_stage.proofs.stage.Stage.rest.Goals as goal

pub returns : goal.returns
returns g c = λ p what steps step stands rests.
    let m = layers_by g.S.Service.stands g.S.Service.rules g.S.Service.shown g.E.Broadcast.stands g.E.Broadcast.rules g.E.Broadcast.shown in
    rests_so m p what c.args.self.now _ step steps c.pass.result stands rests stands.world c.pass.ensures.counts stands.faces
    (c.pass.ensures.tapes (world_in m p) p what steps step stands.tape rests.events)
