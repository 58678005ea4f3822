use Rattle.std.proofs.Common.{◌++◌, List, map, reverse}
use Rattle.std.specs.List.{range_with_len}
use Rattle.ritas_base.specs.declared.what.DriveWhat.{DriveWhat}
use Rattle.schedule_replay.specs.Layers.{layers_by}
use Rattle.world_model.specs.Players.{Step}
use Rattle.schedule_plan.specs.Plans.{correct_of}
use Rattle.schedule_plan.specs.Inputs.{value_input}
use Rattle.schedule_stage.specs.Stage.{IsStage}
use Rattle.schedule_drive.proofs.Toward.{IsToward, up_to}
use Rattle.schedule_drive.proofs.inputs.give_values.Given as goal

abbrev pub invariant-loop-i : goal.invariant-loop-i
invariant-loop-i g l =
    let m = layers_by g.S.Service.stands g.S.Service.rules g.S.Service.shown g.E.Broadcast.stands g.E.Broadcast.rules g.E.Broadcast.shown in
    (what : DriveWhat) (steps : List Step) → IsStage m l.plan what l.fn.stage steps
    → IsToward m l.plan what l.stage (map (value_input l.plan) (up_to l.i (correct_of l.plan))) (reverse (map (value_input l.plan) (range_with_len 0 (correct_of l.plan))) ++ steps)
