use Rattle.std.proofs.Common.{◌++◌, List, reverse}
use Rattle.std.specs.List.{flat_map, range_with_len}
use Rattle.ritas_base.specs.declared.what.DriveWhat.{DriveWhat}
use Rattle.schedule_replay.specs.Layers.{layers_by}
use Rattle.world_model.specs.Players.{Step}
use Rattle.schedule_plan.specs.Inputs.{command_at}
use Rattle.schedule_stage.specs.Stage.{IsStage}
use Rattle.schedule_drive.proofs.Toward.{IsToward, up_to}
use Rattle.schedule_drive.proofs.inputs.give_commands.Given as goal

abbrev pub invariant-loop-k : goal.invariant-loop-k
invariant-loop-k g l =
    let m = layers_by g.S.Service.stands g.S.Service.rules g.S.Service.shown g.E.Broadcast.stands g.E.Broadcast.rules g.E.Broadcast.shown in
    (what : DriveWhat) (steps : List Step) → IsStage m l.plan what l.fn.stage steps
    → IsToward m l.plan what l.stage (flat_map (command_at l.plan) (up_to l.k l.plan.commands)) (reverse (flat_map (command_at l.plan) (range_with_len 0 l.plan.commands)) ++ steps)
