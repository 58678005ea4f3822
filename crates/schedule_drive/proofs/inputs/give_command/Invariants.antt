use Rattle.std.proofs.Common.{◌++◌, List, map, reverse}
use Rattle.ritas_base.specs.declared.what.DriveWhat.{DriveWhat}
use Rattle.schedule_replay.specs.Layers.{layers_by}
use Rattle.world_model.specs.Players.{Step}
use Rattle.schedule_plan.specs.Inputs.{copies_of, copy_at, command_at}
use Rattle.schedule_stage.specs.Stage.{IsStage}
use Rattle.schedule_drive.proofs.Toward.{IsToward, up_to}
use Rattle.schedule_drive.proofs.inputs.give_command.Given as goal

abbrev pub invariant-loop-behind : goal.invariant-loop-behind
invariant-loop-behind g l =
    let m = layers_by g.S.Service.stands g.S.Service.rules g.S.Service.shown g.E.Broadcast.stands g.E.Broadcast.rules g.E.Broadcast.shown in
    (what : DriveWhat) (steps : List Step) → IsStage m l.plan what l.fn.stage steps
    → IsToward m l.plan what l.stage (map (copy_at l.plan l.k) (up_to l.behind (copies_of l.plan))) (reverse (command_at l.plan l.k) ++ steps)
