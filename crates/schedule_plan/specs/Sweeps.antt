-- Sweeps: in each, every player takes what its inbox held at the sweep's start, and every frame comes that was there then.
use Rattle.std.specs.Prelude.{ℕ, zero, suc, ◌-◌, ◌==◌, List, ◌++◌, map, length, reverse, if◌then◌else◌}
use Rattle.std.specs.List.{flat_map, range_with_len}
use Rattle.rand_pcg.specs.Lcg.{Lcg}
use Rattle.ritas_base.specs.declared.plan.Plan.{Plan}
use Rattle.world_model.specs.World.{Setting}
use Rattle.world_model.specs.declared.player.Player.{Player}
use Rattle.world_model.specs.Players.{Cast, number_of, Scene, state_at, player_frames, Step, Go, Carry, scene_of}
use Rattle.schedule_plan.specs.Plans.{cast_of, players_of, linked_to}
use Rattle.schedule_plan.specs.Garbage.{throws_of}

-- how many frames each player has made for each other
abbrev pub FrameCounts : Type 0
FrameCounts = Player → Player → ℕ

abbrev pub none_yet : FrameCounts
none_yet x y = 0

abbrev pub frame_counts : Setting → Cast → Scene → FrameCounts
frame_counts w c s x y = length (player_frames w c s x (number_of c y))

-- the frames that x made for y since there were so many
abbrev pub carries : FrameCounts → FrameCounts → Player → Player → List Step
carries before now x y = map (Carry x y) (range_with_len (before x y) (now x y - before x y))

abbrev pub turns_at : Setting → Scene → Player → List Step
turns_at w s y = map (λ _. Go y) (state_at w s y).inbox

-- what comes to one player in a sweep
abbrev pub swept_at : Setting → Plan → FrameCounts → Scene → Player → List Step
swept_at w p before s y = turns_at w s y ++ flat_map (λ x. carries before (frame_counts w (cast_of p.attack) s) x y) (linked_to p y)

-- a sweep from a scene, where those frames have been passed that there were at the sweep before; the oldest step first
abbrev pub sweep_of : Setting → Plan → FrameCounts → Scene → List Step
sweep_of w p before s = flat_map (swept_at w p before s) (players_of p)

-- sweeps follow one another until one has no step; garbage comes before each
abbrev pub sweeps : ℕ → Setting → Plan → FrameCounts → Lcg → List Step → List Step
sweeps zero w p before g steps = steps
sweeps (suc k) w p before g steps =
    let c = cast_of p.attack in
    let s = scene_of w c steps in
    let next = sweep_of w p before s in
    let thrown = throws_of p p.attack g in
    if length next == 0 then steps else sweeps k w p (frame_counts w c s) thrown.1 (reverse next ++ reverse thrown.0 ++ steps)
