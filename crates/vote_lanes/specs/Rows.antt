-- Worked rows: counts, and which rows are equal.
use Rattle.std.specs.Prelude.{◌≡◌, ℕ, true, false, List, [], ◌∷◌, replicate, refl}
use Rattle.vote_lanes.specs.Plain.{equal_places, is_equal_row}

nothing_row : equal_places [] 0 ≡ 0
nothing_row = refl

all_row : equal_places (replicate 31 2) 2 ≡ 31
all_row = refl

some_row : equal_places (0 ∷ 1 ∷ 255 ∷ 1 ∷ []) 1 ≡ 2
some_row = refl

abbrev rows : List (List ℕ)
rows = (1 ∷ 2 ∷ []) ∷ (1 ∷ 2 ∷ []) ∷ (1 ∷ 3 ∷ []) ∷ []

-- a row that the mask names and that equals
named_row : is_equal_row rows 5 (1 ∷ 2 ∷ []) 0 ≡ true
named_row = refl

-- one that the mask doesn't name
other_row : is_equal_row rows 5 (1 ∷ 2 ∷ []) 1 ≡ false
other_row = refl

-- one that differs in its last byte
unequal_row : is_equal_row rows 5 (1 ∷ 2 ∷ []) 2 ≡ false
unequal_row = refl

-- one that isn't there
no_row : is_equal_row rows 5 (1 ∷ 2 ∷ []) 3 ≡ false
no_row = refl
