use Rattle.std.proofs.Common.{◌≡◌, ◌<◌, ◌++◌, ℕ, List, true, false, reverse}
use Rattle.ritas_base.specs.History.{replicas}
use Rattle.ritas_base.specs.declared.what.DriveWhat.{DriveWhat}
use Rattle.schedule_replay.specs.Layers.{layers_by}
use Rattle.world_model.specs.Players.{Step}
use Rattle.schedule_plan.specs.Garbage.{throws_to}
use Rattle.schedule_stage.specs.Stage.{IsStage}
use Rattle.schedule_stage.specs.Worlds.{world_in}
use Rattle.schedule_drive.proofs.Toward.{IsToward, up_to}
use Rattle.schedule_drive.proofs.garbage.throw_to.Given as goal

abbrev pub invariant-loop-to : goal.invariant-loop-to
invariant-loop-to g l =
    let m = layers_by g.S.Service.stands g.S.Service.rules g.S.Service.shown g.E.Broadcast.stands g.E.Broadcast.rules g.E.Broadcast.shown in
    ((throws_to l.from (up_to l.to l.correct) l.words).1 ≡ (throws_to l.from (replicas l.correct) l.fn.words).1)
    × ((what : DriveWhat) (steps : List Step) → IsStage m l.plan what l.fn.stage steps
    → (world_in m l.plan).is_correct l.from ≡ false → ((to : ℕ) → to < l.correct → (world_in m l.plan).is_correct to ≡ true)
    → IsToward m l.plan what l.stage (throws_to l.from (up_to l.to l.correct) l.words).0 (reverse (throws_to l.from (replicas l.correct) l.fn.words).0 ++ steps))
