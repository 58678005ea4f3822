-- Rows of choices, of which some are open.
use Rattle.std.specs.Prelude.{◌≡◌, ℕ, suc, ◌+◌, Bool, true, List, [], ◌∷◌, take, Some, if◌then◌else◌}
use Rattle.std.specs.List.{slice_get}

-- how many are open
abbrev pub open_in : List Bool → ℕ
open_in [] = 0
open_in (b ∷ bs) = if b then suc (open_in bs) else open_in bs

-- in some rows
abbrev pub open_all : List (List Bool) → ℕ
open_all [] = 0
open_all (row ∷ rows) = open_in row + open_all rows

-- the open choice of this number, from 0, is at this place
pub record IsNth (row : List Bool) (number place : ℕ) : Type 0 where
  pub is_open : slice_get row place ≡ Some true
  pub before : open_in (take place row) ≡ number
