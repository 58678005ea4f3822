-- Logs of which one is a part of the other have equal rows at equal positions.
use Rattle.std.specs.Prelude.{◌≡◌, ℕ, zero, suc, ◌<◌, List, [], ◌∷◌, ◌++◌, length, reverse, slice_get, Some}
use Rattle.std.proofs.Common.{sym, ◌∙◌, ap, subst, inl, inr, append_assoc, get_or, arith}
use Rattle.std.proofs.lemmas.List.{length-reverse, reverse-append}
use Rattle.std.proofs.lemmas.Option.{slice_get-get_or, same_Some}
use Rattle.layer_api.specs.Service.{IsPart}
use Rattle.command_log.specs.Rows.{Row, row_at}
use Rattle.world_model.specs.Agree.{OneIsPart}

-- what stands in a list stands there too where it goes on
get_more : {X : Type 0} (xs more : List X) (k : ℕ) (x : X) → slice_get xs k ≡ Some x → slice_get (xs ++ more) k ≡ Some x
get_more [] more k x here = absurd (cc)
get_more (y ∷ xs) more zero x here = here
get_more (y ∷ xs) more (suc k) x here = get_more xs more k x here

-- so does a row of a part
pub row_in_part : (rs qs : List Row) → IsPart rs qs → (position : ℕ) (r : Row) → row_at rs position ≡ Some r → row_at qs position ≡ Some r
row_in_part rs qs part position r here =
    ap (λ (l : List Row). slice_get l position) (ap reverse (sym part.1) ∙ reverse-append part.0 rs)
    ∙ get_more (reverse rs) (reverse part.0) position r here

-- two rows at one position are one
pub one_row : (rs qs : List Row) → OneIsPart rs qs → (position : ℕ) (r q : Row) → row_at rs position ≡ Some r → row_at qs position ≡ Some q → r ≡ q
one_row rs qs (inl part) position r q here there = same_Some r q (sym (row_in_part rs qs part position r here) ∙ there)
one_row rs qs (inr part) position r q here there = same_Some r q (sym here ∙ row_in_part qs rs part position q there)

-- a log has a row at each position below its length
pub has_row_at : (rs : List Row) (position : ℕ) → position < length rs → (r : Row) × (row_at rs position ≡ Some r)
has_row_at [] position below = absurd (omega (arith, below))
has_row_at (r ∷ rs) position below = go (reverse (r ∷ rs)) (subst (λ (n : ℕ). position < n) (sym (length-reverse (r ∷ rs))) below)
  where
    go : (l : List Row) → position < length l → (q : Row) × (slice_get l position ≡ Some q)
    go l within = (get_or l position r, slice_get-get_or l position r within)

-- a part of a part is a part
pub part_of_part : {X : Type 0} (xs ys zs : List X) → IsPart xs ys → IsPart ys zs → IsPart xs zs
part_of_part xs ys zs first second =
    (second.0 ++ first.0, append_assoc second.0 first.0 xs ∙ (ap (λ (l : List _). second.0 ++ l) first.1 ∙ second.1))

-- of two parts of one list one is a part of the other
both_parts : {X : Type 0} (more extra xs ys : List X) → more ++ xs ≡ extra ++ ys → OneIsPart xs ys
both_parts [] extra xs ys e = inr (extra, sym e)
both_parts (x ∷ more) [] xs ys e = inl (x ∷ more, e)
both_parts (x ∷ more) (y ∷ extra) xs ys e = both_parts more extra xs ys (cc)

pub parts_of_one : {X : Type 0} (xs ys zs : List X) → IsPart xs zs → IsPart ys zs → OneIsPart xs ys
parts_of_one xs ys zs first second = both_parts first.0 second.0 xs ys (first.1 ∙ sym second.1)
