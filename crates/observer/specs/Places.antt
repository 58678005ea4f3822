-- For which steps given rows stand, and in which places they are.
use Rattle.std.specs.Prelude.{◌≡◌, ℕ, ◌+◌, ◌*◌, ◌%◌, ◌<◌, ◌≤◌, ◌==◌, true, ◌&&◌, nat_le, nat_lt, List, [], ◌∷◌, length, take, drop, slice_index_or, Option, None, if◌then◌else◌}
use Rattle.std.specs.Option.{option_or}
use Rattle.ritas_base.specs.Numbers.{Numbers}
use Rattle.command_log.specs.Rows.{Row}
use Rattle.observer.specs.Reading.{IsWhole, position_in, row_count_in}
use Rattle.observer.specs.Giving.{Gift, row_from, window, is_near, GivenStep, rows_given, gifts_given}

-- what is kept of given rows: the next position, and in places the rows that replicas gave from it on
pub record Window : Type 0 where
  pub numbers : Numbers
  pub len : ℕ
  pub places : List (Option Row)

-- 31 places for each position of the window, and one for each replica
abbrev pub each : ℕ
each = 31

abbrev pub all_places : ℕ
all_places = 1984

-- the first place of a position
abbrev pub first_place : ℕ → ℕ
first_place at = (at % window) * each

-- the row that is kept of a replica at a position
abbrev pub placed : List (Option Row) → ℕ → ℕ → Option Row
placed places k at = slice_index_or places (first_place at + k) None

-- the rows that replicas below n have in the places of a position
abbrev pub gifts_in : ℕ → ℕ → List (Option Row) → List (Option Row)
gifts_in n at places = take n (drop (first_place at) places)

-- rows that a replica gave from a position on are kept in the places of the near positions, where it gave none before
abbrev pub Keeps : ℕ → List (Option Row) → List (Option Row) → ℕ → ℕ → List Row → Type 0
Keeps len old new from first rows = (k at : ℕ) → k < each → is_near len at ≡ true
    → placed new k at ≡ option_or (placed old k at) (if from == k then row_from first rows at else None)

-- nothing is kept at a position any more, and all else is as it was
abbrev pub IsCleared : ℕ → List (Option Row) → List (Option Row) → Type 0
IsCleared first old new = (i : ℕ) → slice_index_or new i None ≡
    (if nat_le first i && nat_lt i (first + each) then None else slice_index_or old i None)

-- each replica below 31 has at each near position what it gave there
abbrev pub AreKeptIn : ℕ → List (Option Row) → (ℕ → ℕ → Option Row) → Type 0
AreKeptIn len places kept = (k at : ℕ) → k < each → is_near len at ≡ true → placed places k at ≡ kept k at

-- what is kept is of a size that fits
pub record IsSizedWindow (n len : ℕ) (places : List (Option Row)) : Type 0 where
  pub few : n ≤ each
  pub most : len ≤ 4294967295
  pub all : length places ≡ all_places

-- a piece that was taken is of a replica, and its rows have positions below 4,294,967,295
pub record IsTakenGift (p : Numbers) (g : Gift) : Type 0 where
  pub within : g.from < p.n
  pub below : g.piece.position + length g.piece.rows ≤ 4294967295

abbrev pub AreTakenGifts : Numbers → List Gift → Type 0
AreTakenGifts p [] = Unit {0}
AreTakenGifts p (g ∷ h) = IsTakenGift p g × AreTakenGifts p h

-- given rows stand for these steps, before which the next position was this one
pub record StandsForSteps (p : Numbers) (first : ℕ) (h : List GivenStep) (w : Window) : Type 0 where
  pub numbers : w.numbers ≡ p
  pub len : w.len ≡ (rows_given first h).len
  pub kept : AreKeptIn w.len w.places (rows_given first h).kept
  pub taken : AreTakenGifts p (gifts_given h)

-- a piece from a replica that can be taken: it is whole, and none of its rows is behind the window
pub record CanTakePiece (n len from : ℕ) (bytes : List ℕ) : Type 0 where
  pub within : from < n
  pub whole : IsWhole bytes
  pub near : 0 < row_count_in bytes → position_in bytes + row_count_in bytes ≤ len + window
