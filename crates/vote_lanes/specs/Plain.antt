-- How many bytes of a row have a value, and which rows equal one.
use Rattle.std.specs.Prelude.{ℕ, Bool, ◌==◌, ◌&&◌, List, [], count_by, slice_index_or}
use Rattle.std.specs.Int.{bit_at}
use Rattle.std.specs.Str.{bytes_eq}

-- how many places of the row have the value
abbrev pub equal_places : List ℕ → ℕ → ℕ
equal_places row v = count_by (λ x. x == v) row

-- whether the mask names the row at this place, and it equals d
abbrev pub is_equal_row : List (List ℕ) → ℕ → List ℕ → ℕ → Bool
is_equal_row rows mask d i = (bit_at mask i == 1) && bytes_eq (slice_index_or rows i []) d
