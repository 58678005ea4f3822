-- What stands at the places of a list: which are awaited, and all that is there; and the fault of the first test that fails.
use Rattle.std.specs.Prelude.{ℕ, Bool, ◌&&◌, nat_lt, List, [], ◌∷◌, length, slice_index_or, Option, Some, None, is_none, if◌then◌else◌}

-- k has a place, and nothing stands there
abbrev pub is_awaited : List (Option (List ℕ)) → ℕ → Bool
is_awaited places k = nat_lt k (length places) && is_none (slice_index_or places k None)

abbrev pub push : {X : Type 0} → Option X → List X → List X
push None xs = xs
push (Some x) xs = x ∷ xs

-- all that is there at these places, in their order
abbrev pub listed : {X : Type 0} → (ℕ → Option X) → List ℕ → List X
listed at [] = []
listed at (k ∷ ks) = push (at k) (listed at ks)

-- the fault of the first test that fails
abbrev pub first_failed : {Fault : Type 0} → List (Bool × Fault) → Option Fault
first_failed [] = None
first_failed (test ∷ tests) = if test.0 then first_failed tests else Some test.1
