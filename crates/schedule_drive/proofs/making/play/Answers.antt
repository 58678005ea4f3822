use Rattle.std.proofs.lemmas.Result.{err_from_is_err_and}
use Rattle.schedule_replay.specs.Layers.{layers_by}
use Rattle.schedule_stage.specs.Worlds.{world_in}
use Rattle.schedule_drive.proofs.FirstSteps.{inputs_halt}
use Rattle.schedule_drive.proofs.making.play.Goals as goal

pub returns-in_err-give_inputs : goal.returns-in_err-give_inputs
returns-in_err-give_inputs g c = λ what stands.
    let m = layers_by g.S.Service.stands g.S.Service.rules g.S.Service.shown g.E.Broadcast.stands g.E.Broadcast.rules g.E.Broadcast.shown in
    let q = err_from_is_err_and c.from_residual.result c.from_residual.ensures.1 in
    rw (q.1, q.2) (inputs_halt (world_in m c.args.plan.now) c.args.plan.now c.in_err-give_inputs.field-0.0 (c.in_err-give_inputs.ensures what stands))

pub returns : goal.returns
returns g c = λ what stands. c.play_on.ensures what (c.in_ok-give_inputs.ensures what stands)
