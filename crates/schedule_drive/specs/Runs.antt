-- The steps of a sweep, as runs: the turns of a player, or the frames that one player made for another.
use Rattle.std.specs.Prelude.{◌≢◌, ℕ, ◌-◌, ◌<◌, ◌==◌, Bool, not, nat_lt, List, ◌∷◌, map}
use Rattle.std.specs.List.{flat_map, range_with_len}
use Rattle.ritas_base.specs.declared.plan.Plan.{Plan}
use Rattle.world_model.specs.World.{Setting}
use Rattle.world_model.specs.declared.player.Player.{Player}
use Rattle.world_model.specs.Players.{Step, Go, Carry, IsPlayer, number_of}
use Rattle.schedule_plan.specs.Plans.{cast_of, players_of, linked_to}
use Rattle.schedule_plan.specs.Sweeps.{FrameCounts}
use Rattle.schedule_stage.specs.Worlds.{waiting, count_made_for}
use Rattle.schedule_drive.specs.declared.runs.Run.{Run}
use Rattle.schedule_drive.specs.declared.runs.Run.TheVariants.{Turns, Frames}

-- the steps of a run, the oldest first
abbrev pub run_steps : Run → List Step
run_steps (Turns y count) = map (λ _. Go y) (range_with_len 0 count)
run_steps (Frames x y start end) = map (Carry x y) (range_with_len start (end - start))

abbrev pub has_step : Run → Bool
has_step (Turns y count) = not (count == 0)
has_step (Frames x y start end) = nat_lt start end

-- the runs of a sweep: to each player its turns, and the frames that others made for it since the sweep before
abbrev pub runs_to : Plan → FrameCounts → FrameCounts → (Player → ℕ) → Player → List Run
runs_to p before now waits y = Turns y (waits y) ∷ map (λ x. Frames x y (before x y) (now x y)) (linked_to p y)

abbrev pub runs_by : Plan → FrameCounts → FrameCounts → (Player → ℕ) → List Run
runs_by p before now waits = flat_map (runs_to p before now waits) (players_of p)

-- before any step
abbrev pub no_wait : Player → ℕ
no_wait y = 0

abbrev pub first_frames : Player → Player → Run
first_frames y x = Frames x y 0 0

-- the same run in the next sweep, behind these steps
abbrev pub renewed : Setting → Plan → List Step → Run → Run
renewed w p steps (Turns y count) = Turns y (waiting w p steps y)
renewed w p steps (Frames x y start end) = Frames x y end (count_made_for w p steps x (number_of (cast_of p.attack) y))

-- a run of players
abbrev pub IsPlayerRun : Setting → Plan → Run → Type 0
IsPlayerRun w p (Turns y count) = IsPlayer w (cast_of p.attack) y
IsPlayerRun w p (Frames x y start end) =
    let c = cast_of p.attack in
    IsPlayer w c x × IsPlayer w c y × (number_of c x ≢ number_of c y) × (number_of c y < p.p.n)
