-- The rows of a column that are whole.
use Rattle.std.specs.Prelude.{◌≡◌, ℕ, ◌==◌, Bool, true, false, cond, List, [], ◌∷◌, length, Option, Some, None, refl}
use Rattle.std.proofs.Common.{zero, suc}
use Rattle.std.specs.List.{slice_get, AllByRecursion}
use Rattle.std.proofs.lemmas.Bool.{eq-eqb, cond-true}
use Rattle.ritas_base.specs.Members.{has_member, member_count}
use Rattle.frame_codec.specs.Values.{at_place, if_whole}

pub whole_row : (row : List ℕ) → length row ≡ 32 → if_whole (Some row) ≡ Some row
whole_row row len = cond-true (length row == 32) (Some row) None (eq-eqb (length row) 32 len)

whole_at : (rows : List (List ℕ)) → AllByRecursion (λ row. length row ≡ 32) rows → (at : ℕ) → if_whole (slice_get rows at) ≡ slice_get rows at
whole_at [] all at = refl
whole_at (row ∷ rows) all zero = whole_row row all.0
whole_at (row ∷ rows) all (suc at) = whole_at rows all.1 at

whole_if : (b : Bool) (o : Option (List ℕ)) → if_whole o ≡ o → if_whole (cond b o None) ≡ cond b o None
whole_if true o e = e
whole_if false o e = refl

-- what stands for a place among whole rows is whole
pub whole_place : (mask k : ℕ) (rows : List (List ℕ)) → AllByRecursion (λ row. length row ≡ 32) rows
    → if_whole (at_place mask rows k) ≡ at_place mask rows k
unfolding at_place
whole_place mask k rows all = whole_if (has_member mask k) (slice_get rows (member_count k mask)) (whole_at rows all (member_count k mask))
