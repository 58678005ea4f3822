use Rattle.std.proofs.Common.{◌≡◌, List, ◌++◌, map, take, drop}
use Rattle.ritas_base.specs.declared.plan.Plan.{Plan}
use Rattle.ritas_base.specs.declared.what.DriveWhat.{DriveWhat}
use Rattle.layer_api.specs.Runs.{Has}
use Rattle.schedule_replay.specs.Layers.{layers_by}
use Rattle.world_model.specs.Players.{Step}
use Rattle.schedule_stage.specs.Stage.{IsStage}
use Rattle.schedule_stage.specs.Worlds.{world_in}
use Rattle.schedule_drive.specs.declared.runs.Run.{Run}
use Rattle.schedule_drive.specs.Runs.{renewed, IsPlayerRun}
use Rattle.schedule_drive.proofs.runs.renew.Given as goal

abbrev pub invariant-loop-run : goal.invariant-loop-run
invariant-loop-run g l =
    let m = layers_by g.S.Service.stands g.S.Service.rules g.S.Service.shown g.E.Broadcast.stands g.E.Broadcast.rules g.E.Broadcast.shown in
    (p : Plan) (what : DriveWhat) (steps : List Step) → IsStage m p what l.stage steps → ((run : Run) → Has l.initial.runs run → IsPlayerRun (world_in m p) p run)
    → l.runs ≡ map (renewed (world_in m p) p steps) (take l.run-index l.initial.runs) ++ drop l.run-index l.initial.runs
