use Rattle.std.proofs.Common.{◌≡◌, ◌++◌, ℕ, List, nat_lt, reverse}
use Rattle.ritas_base.specs.History.{replicas}
use Rattle.ritas_base.specs.declared.what.DriveWhat.{DriveWhat}
use Rattle.schedule_replay.specs.Layers.{layers_by}
use Rattle.world_model.specs.Players.{Step}
use Rattle.schedule_plan.specs.Garbage.{throws_by}
use Rattle.schedule_stage.specs.Stage.{IsStage}
use Rattle.schedule_stage.specs.Worlds.{world_in}
use Rattle.schedule_drive.proofs.Toward.{IsToward, up_to}
use Rattle.schedule_drive.proofs.garbage.throw_by.Given as goal

abbrev pub invariant-loop-from : goal.invariant-loop-from
invariant-loop-from g l =
    let m = layers_by g.S.Service.stands g.S.Service.rules g.S.Service.shown g.E.Broadcast.stands g.E.Broadcast.rules g.E.Broadcast.shown in
    let js = replicas l.correct in
    ((throws_by (up_to l.from l.n) js l.words).1 ≡ (throws_by (up_to l.correct l.n) js l.fn.words).1)
    × ((what : DriveWhat) (steps : List Step) → IsStage m l.plan what l.fn.stage steps → ((i : ℕ) → (world_in m l.plan).is_correct i ≡ nat_lt i l.correct)
    → IsToward m l.plan what l.stage (throws_by (up_to l.from l.n) js l.words).0 (reverse (throws_by (up_to l.correct l.n) js l.fn.words).0 ++ steps))
