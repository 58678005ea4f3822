-- The row that f + 1 replicas gave.
use Rattle.std.specs.Prelude.{◌≡◌, ℕ, ◌<◌, true, false, nat_lt, List, length, slice_index_or, Option, Some, None, IfNone, refl}
use Rattle.std.proofs.Common.{sym, ◌∙◌, ap, subst, inl, inr, arith}
use Rattle.std.specs.List.{position, position_or_len}
use Rattle.std.proofs.lemmas.Bool.{cases_Bool, ltb-true, ltb-false, both_ways}
use Rattle.std.proofs.lemmas.Option.{cond_some}
use Rattle.std.proofs.lemmas.List.{get_or_past}
use Rattle.std.proofs.lemmas.List.Sums.{passes_at_first}
use Rattle.std.proofs.lemmas.List.FromFn.{get_or-map-range_with_len, length-map-range_with_len}
use Rattle.command_log.specs.Rows.{Row}
use Rattle.observer.specs.Giving.{givers, is_backed_gift, gift_at_place, backed, gifts_at}

-- the first of what was given of which f + 1 are
pub record IsFirst (f : ℕ) (gifts : List (Option Row)) (k : ℕ) : Type 0 where
  pub within : k < length gifts
  pub passes : is_backed_gift f gifts (slice_index_or gifts k None) ≡ true

pub first_is : (f : ℕ) (gifts : List (Option Row)) (k : ℕ) → position (is_backed_gift f gifts) gifts ≡ Some k → IsFirst f gifts k
first_is f gifts k e =
    let at = position_or_len (is_backed_gift f gifts) gifts in
    let parts = cond_some (nat_lt at (length gifts)) at k e in
    let within = ltb-true at (length gifts) parts.0 in
    record {
      within = subst (λ (j : ℕ). j < length gifts) parts.1 within;
      passes = subst (λ (j : ℕ). is_backed_gift f gifts (slice_index_or gifts j None) ≡ true) parts.1 (passes_at_first (is_backed_gift f gifts) gifts None within);
    }

pub backed_first : (f : ℕ) (gifts : List (Option Row)) (k : ℕ) → position (is_backed_gift f gifts) gifts ≡ Some k → backed f gifts ≡ slice_index_or gifts k None
unfolding backed
backed_first f gifts k e = ap (gift_at_place gifts) e

pub backed_none : (f : ℕ) (gifts : List (Option Row)) → position (is_backed_gift f gifts) gifts ≡ None → backed f gifts ≡ None
unfolding backed
backed_none f gifts e = ap (gift_at_place gifts) e

-- there is a row
pub first_there : (f : ℕ) (gifts : List (Option Row)) (k : ℕ) → position (is_backed_gift f gifts) gifts ≡ Some k → slice_index_or gifts k None ≡ None → ⊥
first_there f gifts k e none =
    let is : is_backed_gift f gifts None ≡ true = subst (λ (o : Option Row). is_backed_gift f gifts o ≡ true) none (first_is f gifts k e).passes in
    both_ways false refl is

pub if_none : {P : Type 0} (o : Option Row) → (o ≡ None → P) → IfNone o P
if_none (Some r) p = tt
if_none None p = p refl

-- where nothing was given, there is none
pub none_backed : (f : ℕ) (gifts : List (Option Row)) → ((k : ℕ) → slice_index_or gifts k None ≡ None) → backed f gifts ≡ None
none_backed f gifts none = go (position (is_backed_gift f gifts) gifts) refl
  where
    go : (o : Option ℕ) → position (is_backed_gift f gifts) gifts ≡ o → backed f gifts ≡ None
    go None e = backed_none f gifts e
    go (Some k) e = backed_first f gifts k e ∙ none k

pub none_given : (n : ℕ) (kept : ℕ → ℕ → Option Row) (at : ℕ) → ((k : ℕ) → kept k at ≡ None) → (k : ℕ) → slice_index_or (gifts_at n kept at) k None ≡ None
none_given n kept at none k =
    elim (cases_Bool (nat_lt k n)) [
      | inl within ↦ get_or-map-range_with_len (λ j. kept j at) 0 n k k None (ltb-true k n within) (omega arith) ∙ none k
      | inr outside ↦
          let le = ltb-false k n outside in
          get_or_past (gifts_at n kept at) k None (omega (arith, length-map-range_with_len (λ j. kept j at) 0 n, le))
    ]

-- what is entered was given by more than f of them
pub record IsBacked (f : ℕ) (gifts : List (Option Row)) (r : Row) : Type 0 where
  pub many : f < givers gifts r

pub backed_is : (f : ℕ) (gifts : List (Option Row)) (r : Row) → backed f gifts ≡ Some r → IsBacked f gifts r
backed_is f gifts r e = go (position (is_backed_gift f gifts) gifts) refl
  where
    go : (o : Option ℕ) → position (is_backed_gift f gifts) gifts ≡ o → IsBacked f gifts r
    go None is = absurd (let none = backed_none f gifts is in cc)
    go (Some k) is =
        let there : slice_index_or gifts k None ≡ Some r = sym (backed_first f gifts k is) ∙ e in
        let passes : is_backed_gift f gifts (Some r) ≡ true = subst (λ (o : Option Row). is_backed_gift f gifts o ≡ true) there (first_is f gifts k is).passes in
        record { many = ltb-true f (givers gifts r) passes }
