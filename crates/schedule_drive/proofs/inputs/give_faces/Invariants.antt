use Rattle.std.proofs.Common.{◌++◌, List, drop, reverse}
use Rattle.std.specs.List.{flat_map}
use Rattle.ritas_base.specs.declared.what.DriveWhat.{DriveWhat}
use Rattle.schedule_replay.specs.Layers.{layers_by}
use Rattle.world_model.specs.Players.{Step}
use Rattle.schedule_plan.specs.Inputs.{given_to}
use Rattle.schedule_stage.specs.Stage.{IsStage}
use Rattle.schedule_drive.proofs.Toward.{IsToward}
use Rattle.schedule_drive.proofs.inputs.give_faces.Given as goal

abbrev pub invariant-loop-x : goal.invariant-loop-x
invariant-loop-x g l =
    let m = layers_by g.S.Service.stands g.S.Service.rules g.S.Service.shown g.E.Broadcast.stands g.E.Broadcast.rules g.E.Broadcast.shown in
    (what : DriveWhat) (steps : List Step) → IsStage m l.plan what l.fn.stage steps
    → IsToward m l.plan what l.stage (flat_map (given_to l.plan l.plan.attack) (drop l.x-index l.x-items)) (reverse (flat_map (given_to l.plan l.plan.attack) l.x-items) ++ steps)
