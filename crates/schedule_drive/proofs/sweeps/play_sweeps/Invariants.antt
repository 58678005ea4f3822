use Rattle.std.proofs.Common.{◌≡◌, ◌+◌, ℕ, reverse}
use Rattle.ritas_base.specs.declared.what.DriveWhat.{DriveWhat}
use Rattle.schedule_replay.specs.Layers.{layers_by}
use Rattle.schedule_plan.specs.Inputs.{inputs_of}
use Rattle.schedule_stage.specs.Stage.{IsStage}
use Rattle.schedule_drive.proofs.Sweeping.{IsSweeping}
use Rattle.schedule_drive.proofs.sweeps.play_sweeps.Given as goal

abbrev pub invariant-loop : goal.invariant-loop
invariant-loop g l =
    let m = layers_by g.S.Service.stands g.S.Service.rules g.S.Service.shown g.E.Broadcast.stands g.E.Broadcast.rules g.E.Broadcast.shown in
    (what : DriveWhat) → IsStage m l.plan what l.fn.stage (reverse (inputs_of l.plan)) → (more : ℕ) → l.counter + more ≡ 4000001
    → IsSweeping m l.plan what l.stage l.runs.items l.words more
