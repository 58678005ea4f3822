-- Lanes: the numbers that are open of a range.
use Rattle.std.specs.Prelude.{◌≡◌, ℕ, ◌≤◌, ◌==◌, ◌&&◌, Bool, true, not, List, filter, length, Option, Some, None, if◌then◌else◌}
use Rattle.std.specs.List.{range_with_len}
use Rattle.schedule_plan.specs.Picks.{passes_once}
use Rattle.schedule_drive.specs.declared.lane.Lane.{Lane}

-- the open numbers below a count
abbrev pub numbers_left : ℕ → (ℕ → Bool) → List ℕ
numbers_left count left = filter left (range_with_len 0 count)

-- whether there is one
abbrev pub has_left : ℕ → (ℕ → Bool) → Bool
has_left count left = not (length (numbers_left count left) == 0)

-- those open numbers are in the lane
pub record IsLane (lane : Lane) (count : ℕ) (left : ℕ → Bool) : Type 0 where
  pub front : numbers_left lane.next left ≡ lane.front.items
  pub rest : (m : ℕ) → lane.next ≤ m → left m ≡ true
  pub within : lane.next ≤ lane.count
  pub all : lane.count ≡ count

-- a number is taken out, where the word lets it
abbrev pub without_taken : ℕ → Option ℕ → (ℕ → Bool) → ℕ → Bool
without_taken word None left k = left k
without_taken word (Some m) left k = if passes_once word then not (m == k) && left k else left k
