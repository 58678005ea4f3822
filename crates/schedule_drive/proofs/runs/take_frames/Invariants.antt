use Rattle.std.proofs.Common.{List, ◌++◌, map, reverse}
use Rattle.ritas_base.specs.declared.plan.Plan.{Plan}
use Rattle.ritas_base.specs.declared.what.DriveWhat.{DriveWhat}
use Rattle.schedule_replay.specs.Layers.{layers_by}
use Rattle.world_model.specs.Players.{Step, Carry}
use Rattle.schedule_stage.specs.Stage.{IsStage}
use Rattle.schedule_stage.specs.Worlds.{world_in}
use Rattle.schedule_drive.specs.declared.runs.Run.TheVariants.{Frames}
use Rattle.schedule_drive.specs.Runs.{run_steps, IsPlayerRun}
use Rattle.schedule_drive.proofs.Toward.{IsToward, up_to}
use Rattle.schedule_drive.proofs.runs.take_frames.Given as goal

abbrev pub invariant-loop-number : goal.invariant-loop-number
invariant-loop-number g l =
    let m = layers_by g.S.Service.stands g.S.Service.rules g.S.Service.shown g.E.Broadcast.stands g.E.Broadcast.rules g.E.Broadcast.shown in
    (p : Plan) (what : DriveWhat) (steps : List Step) → IsStage m p what l.fn.stage steps → IsPlayerRun (world_in m p) p (Frames l.x l.y l.start l.end)
    → IsToward m p what l.stage (map (Carry l.x l.y) (up_to l.number l.end)) (reverse (run_steps (Frames l.x l.y l.start l.end)) ++ steps)
