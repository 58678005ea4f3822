use Rattle.std.proofs.Common.{reverse}
use Rattle.ritas_base.specs.declared.what.DriveWhat.{DriveWhat}
use Rattle.schedule_replay.specs.Layers.{layers_by}
use Rattle.schedule_plan.specs.Inputs.{inputs_of}
use Rattle.schedule_stage.specs.Stage.{IsStage}
use Rattle.schedule_drive.proofs.Picking.{IsGoing}
use Rattle.schedule_drive.proofs.picks.play_picks.Given as goal

abbrev pub invariant-loop-number : goal.invariant-loop-number
invariant-loop-number g l =
    let m = layers_by g.S.Service.stands g.S.Service.rules g.S.Service.shown g.E.Broadcast.stands g.E.Broadcast.rules g.E.Broadcast.shown in
    (what : DriveWhat) → IsStage m l.plan what l.fn.stage (reverse (inputs_of l.plan)) → IsGoing m l.plan what l.stage l.picker l.words l.number
