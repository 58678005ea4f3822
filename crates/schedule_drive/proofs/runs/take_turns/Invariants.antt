use Rattle.std.proofs.Common.{List, ◌++◌, map, reverse}
use Rattle.ritas_base.specs.declared.plan.Plan.{Plan}
use Rattle.ritas_base.specs.declared.what.DriveWhat.{DriveWhat}
use Rattle.schedule_replay.specs.Layers.{layers_by}
use Rattle.world_model.specs.Players.{Step, Go, IsPlayer}
use Rattle.schedule_plan.specs.Plans.{cast_of}
use Rattle.schedule_stage.specs.Stage.{IsStage}
use Rattle.schedule_stage.specs.Worlds.{world_in}
use Rattle.schedule_drive.specs.declared.runs.Run.TheVariants.{Turns}
use Rattle.schedule_drive.specs.Runs.{run_steps}
use Rattle.schedule_drive.proofs.Toward.{IsToward, up_to}
use Rattle.schedule_drive.proofs.runs.take_turns.Given as goal

abbrev pub invariant-loop : goal.invariant-loop
invariant-loop g l =
    let m = layers_by g.S.Service.stands g.S.Service.rules g.S.Service.shown g.E.Broadcast.stands g.E.Broadcast.rules g.E.Broadcast.shown in
    (p : Plan) (what : DriveWhat) (steps : List Step) → IsStage m p what l.fn.stage steps → IsPlayer (world_in m p) (cast_of p.attack) l.y
    → IsToward m p what l.stage (map (λ _. Go l.y) (up_to l.counter l.count)) (reverse (run_steps (Turns l.y l.count)) ++ steps)
