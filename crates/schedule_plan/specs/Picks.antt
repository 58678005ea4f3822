-- Picks: one step at a time, drawn from all that are open.
use Rattle.std.specs.Prelude.{ℕ, zero, suc, ◌+◌, ◌/◌, ◌%◌, ◌==◌, ◌&&◌, Bool, false, not, min, List, [], ◌∷◌, ◌++◌, map, filter, length, reverse, Option, Some, None, if◌then◌else◌}
use Rattle.std.specs.List.{flat_map, range_with_len, list_any, slice_get}
use Rattle.rand_pcg.specs.Lcg.{Lcg}
use Rattle.rand_pcg.specs.Pcg.{pcg32}
use Rattle.ritas_base.specs.declared.plan.Plan.{Plan}
use Rattle.world_model.specs.World.{Setting}
use Rattle.world_model.specs.declared.player.Player.{Player}
use Rattle.world_model.specs.declared.player.Player.TheVariants.{Correct, Face}
use Rattle.world_model.specs.Players.{Cast, Scene, state_at, Step, Go, Carry, scene_of}
use Rattle.schedule_plan.specs.Plans.{cast_of, players_of, linked_from}
use Rattle.schedule_plan.specs.Garbage.{throws_of}
use Rattle.schedule_plan.specs.Sweeps.{frame_counts}

pub data Choice : Type 0 where
  -- a player takes the item at the front of its inbox
  Turning : Player → Choice
  -- a frame of one player comes to another
  Passing : Player → Player → Choice

-- a frame that passed
pub record Passed : Type 0 where
  pub from : Player
  pub to : Player
  pub number : ℕ

abbrev pub same_player : Player → Player → Bool
same_player (Correct i) (Correct j) = i == j
same_player (Face a) (Face b) = a == b
same_player _ _ = false

abbrev pub has_passed : List Passed → Player → Player → ℕ → Bool
has_passed passed x y m = list_any (λ q. same_player q.from x && (same_player q.to y && q.number == m)) passed

-- the numbers of the frames that x made for y and that weren't passed, the oldest first
abbrev pub unpassed : Setting → Cast → Scene → List Passed → Player → Player → List ℕ
unpassed w c s passed x y = filter (λ m. not (has_passed passed x y m)) (range_with_len 0 (frame_counts w c s x y))

abbrev pub has_some : {X : Type 0} → List X → Bool
has_some xs = not (length xs == 0)

abbrev pub is_open_choice : Setting → Cast → Scene → List Passed → Choice → Bool
is_open_choice w c s passed (Turning y) = has_some (state_at w s y).inbox
is_open_choice w c s passed (Passing x y) = has_some (unpassed w c s passed x y)

abbrev pub passings_of : Plan → Player → List Choice
passings_of p x = map (Passing x) (linked_from p x)

-- each player for a turn, then each ordered pair of linked players, by sender and then by receiver
abbrev pub all_choices : Plan → List Choice
all_choices p = map Turning (players_of p) ++ flat_map (passings_of p) (players_of p)

-- those that are open
abbrev pub choices_of : Setting → Plan → Scene → List Passed → List Choice
choices_of w p s passed = filter (is_open_choice w (cast_of p.attack) s passed) (all_choices p)

-- where the picks stand
pub record Picking : Type 0 where
  pub steps : List Step
  pub passed : List Passed
  pub words : Lcg

-- of 16 frames one isn't counted as passed, and may come again
abbrev pub passes_once : ℕ → Bool
passes_once u = not (u / 256 % 16 == 0)

abbrev pub frame_carried : Picking → Lcg → ℕ → Player → Player → Option ℕ → Picking
frame_carried q g u x y None = record q { words = g }
frame_carried q g u x y (Some m) = record {
  steps = Carry x y m ∷ q.steps;
  passed = if passes_once u then record { from = x; to = y; number = m } ∷ q.passed else q.passed;
  words = g;
}

-- a choice is taken: of the frames of a pair one of the eight oldest
abbrev pub choice_taken : Setting → Plan → Picking → Lcg → Option Choice → Picking
choice_taken w p q g None = q
choice_taken w p q g (Some (Turning y)) = record { steps = Go y ∷ q.steps; passed = q.passed; words = g }
choice_taken w p q g (Some (Passing x y)) =
    let c = cast_of p.attack in
    let frames = unpassed w c (scene_of w c q.steps) q.passed x y in
    let u = pcg32 g in
    frame_carried q u.1 u.0 x y (slice_get frames (u.0 % min 8 (length frames)))

-- before each 256th pick garbage comes
abbrev pub garbled : Plan → ℕ → Picking → Picking
garbled p number q =
    let thrown = if number % 256 == 0 then throws_of p p.attack q.words else ([], q.words) in
    record { steps = reverse thrown.0 ++ q.steps; passed = q.passed; words = thrown.1 }

-- one pick, of this number from 0
abbrev pub pick : Setting → Plan → ℕ → Picking → Picking
pick w p number q =
    let choices = choices_of w p (scene_of w (cast_of p.attack) q.steps) q.passed in
    let g = garbled p number q in
    let word = pcg32 g.words in
    choice_taken w p (record g { words = word.1 }) word.1 (slice_get choices (word.0 % length choices))

-- picks follow one another while something is open
abbrev pub picks : ℕ → Setting → Plan → ℕ → Picking → List Step
picks zero w p number q = q.steps
picks (suc k) w p number q =
    if has_some (choices_of w p (scene_of w (cast_of p.attack) q.steps) q.passed) then picks k w p (number + 1) (pick w p number q) else q.steps
