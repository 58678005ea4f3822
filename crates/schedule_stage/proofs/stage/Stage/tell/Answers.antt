use Rattle.std.proofs.Common.{Ok}
use Rattle.schedule_replay.specs.Layers.{layers_by}
use Rattle.schedule_stage.specs.Worlds.{world_in}
use Rattle.schedule_stage.proofs.Staging.{halts_so, no_memory, stays, tells_of}
use Rattle.schedule_stage.proofs.stage.Stage.tell.Goals as goal

pub returns-in_err-pass : goal.returns-in_err-pass
returns-in_err-pass g c = λ p what steps step stands comes.
    let m = layers_by g.S.Service.stands g.S.Service.rules g.S.Service.shown g.E.Broadcast.stands g.E.Broadcast.rules g.E.Broadcast.shown in
    halts_so m p what _ _ c.in_err-pass.field-0.0 c.from_residual.result c.from_residual.ensures.1
    (c.in_err-pass.ensures.tapes (world_in m p) p what steps step stands.tape comes.events)

pub returns-in_err-tell : goal.returns-in_err-tell
returns-in_err-tell g c = λ p what steps step stands comes.
    let m = layers_by g.S.Service.stands g.S.Service.rules g.S.Service.shown g.E.Broadcast.stands g.E.Broadcast.rules g.E.Broadcast.shown in
    no_memory m p what _ _ c.from_residual-in_err-tell.result c.from_residual-in_err-tell.ensures.1

pub returns : goal.returns
returns g c = λ p what steps step stands comes.
    let m = layers_by g.S.Service.stands g.S.Service.rules g.S.Service.shown g.E.Broadcast.stands g.E.Broadcast.rules g.E.Broadcast.shown in
    stays m p what c.args.self.now _ step steps (Ok tt) stands comes.is comes.events stands.world c.in_ok-pass.ensures.counts
    (c.in_ok-tell.ensures p steps step stands.faces (tells_of m p what c.args.self.now step steps c.args.a c.args.event.now stands comes))
    (c.in_ok-pass.ensures.tapes (world_in m p) p what steps step stands.tape comes.events)
