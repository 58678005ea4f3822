use Rattle.std.proofs.Common.{List, ◌++◌, drop, reverse}
use Rattle.std.specs.List.{flat_map}
use Rattle.ritas_base.specs.declared.plan.Plan.{Plan}
use Rattle.ritas_base.specs.declared.what.DriveWhat.{DriveWhat}
use Rattle.layer_api.specs.Runs.{Has}
use Rattle.schedule_replay.specs.Layers.{layers_by}
use Rattle.world_model.specs.Players.{Step}
use Rattle.schedule_stage.specs.Stage.{IsStage}
use Rattle.schedule_stage.specs.Worlds.{world_in}
use Rattle.schedule_drive.specs.declared.runs.Run.{Run}
use Rattle.schedule_drive.specs.Runs.{run_steps, IsPlayerRun}
use Rattle.schedule_drive.proofs.Toward.{IsToward}
use Rattle.schedule_drive.proofs.runs.take_runs.Given as goal

abbrev pub invariant-loop-run : goal.invariant-loop-run
invariant-loop-run g l =
    let m = layers_by g.S.Service.stands g.S.Service.rules g.S.Service.shown g.E.Broadcast.stands g.E.Broadcast.rules g.E.Broadcast.shown in
    (p : Plan) (what : DriveWhat) (steps : List Step) → IsStage m p what l.fn.stage steps → ((run : Run) → Has l.runs run → IsPlayerRun (world_in m p) p run)
    → IsToward m p what l.stage (flat_map run_steps (drop l.run-index l.runs)) (reverse (flat_map run_steps l.runs) ++ steps)
