-- The row that is taken at the next position, and the places without it.
use Rattle.std.specs.Prelude.{◌≡◌, ℕ, ◌+◌, ◌-◌, ◌<◌, ◌≤◌, ◌≢◌, ◌&&◌, nat_le, nat_lt, List, length, drop, slice_index_or, Option, None, if◌then◌else◌}
use Rattle.std.proofs.Common.{sym, ◌∙◌, ap₂, inl, inr, arith, length-drop}
use Rattle.std.proofs.lemmas.Bool.{cases_eq, and_parts, and_from, leb-true, ltb-true, le-leb, lt-ltb, cond-true, cond-false, false_from_ne_true}
use Rattle.std.proofs.lemmas.List.{get_or-take, get_or-drop, length-take-le}
use Rattle.std.proofs.lemmas.List.FromFn.{fill_by_all}
use Rattle.command_log.specs.Rows.{Row}
use Rattle.observer.specs.Giving.{window, gifts_at}
use Rattle.observer.specs.Places.{first_place, each, all_places, gifts_in, AreKeptIn, IsCleared}
use Rattle.observer.proofs.Places.{Near, near, near_from, one_place}

-- no row is kept from this position on
abbrev pub NoneFrom : ℕ → (ℕ → ℕ → Option Row) → Type 0
NoneFrom end kept = (k at : ℕ) → end ≤ at → kept k at ≡ None

first_within : (at : ℕ) → first_place at + each ≤ all_places
first_within at = omega arith

-- the places of the next position have what replicas gave there
pub gifts_are : (n len : ℕ) (places : List (Option Row)) (kept : ℕ → ℕ → Option Row) → length places ≡ all_places → n ≤ each → AreKeptIn len places kept
    → gifts_in n len places ≡ gifts_at n kept len
gifts_are n len places kept sized few are =
    let long : n ≤ length (drop (first_place len) places) = omega (arith, length-drop (first_place len) places, sized, first_within len, few) in
    fill_by_all (λ k. kept k len) (gifts_in n len places) n None (length-take-le n (drop (first_place len) places) long)
    (λ k lt.
    get_or-take n (drop (first_place len) places) k None lt
    ∙ (get_or-drop (first_place len) places k None ∙ are k len (omega (arith, lt, few)) (near_from len len (omega arith) (omega arith))))

-- ---- the places after it is taken

cleared_here : (first i : ℕ) (o : Option Row) → first ≤ i → i < first + each → (if nat_le first i && nat_lt i (first + each) then None else o) ≡ None
cleared_here first i o least most =
    cond-true (nat_le first i && nat_lt i (first + each)) None o (and_from (nat_le first i) (nat_lt i (first + each)) (le-leb first i least) (lt-ltb i (first + each) most))

not_cleared : (first i : ℕ) (o : Option Row) → (first ≤ i → i < first + each → ⊥) → (if nat_le first i && nat_lt i (first + each) then None else o) ≡ o
not_cleared first i o outside =
    cond-false (nat_le first i && nat_lt i (first + each)) None o
    (false_from_ne_true (nat_le first i && nat_lt i (first + each))
    (λ yes. let parts = and_parts (nat_le first i) (nat_lt i (first + each)) yes in outside (leb-true first i parts.0) (ltb-true i (first + each) parts.1)))

other_place : (len at k : ℕ) → k < each → Near len at → at ≢ len → first_place len ≤ first_place at + k → first_place at + k < first_place len + each → ⊥
other_place len at k small is ne least most =
    let j : ℕ = (first_place at + k) - first_place len in
    let sum : first_place at + k ≡ first_place len + j = omega (arith, least) in
    ne (one_place len at len k j is (record { least = omega arith; most = omega arith }) small (omega (arith, most, least)) sum).position

pub placed_on : (len : ℕ) (old new : List (Option Row)) (kept : ℕ → ℕ → Option Row) → AreKeptIn len old kept → NoneFrom (len + window) kept
    → IsCleared (first_place len) old new → AreKeptIn (len + 1) new kept
placed_on len old new kept are none cleared = λ k at small is.
    let close = near (len + 1) at is in
    elim (cases_eq at (len + 64)) [
      | inl last ↦
          let same : first_place at ≡ first_place len = omega (arith, last) in
          cleared (first_place at + k) ∙ (cleared_here (first_place len) (first_place at + k) _ (omega (arith, same)) (omega (arith, same, small))
          ∙ sym (none k at (omega (arith, last))))
      | inr before ↦
          let here : Near len at = record { least = omega (arith, close.least); most = omega (arith, close.most, before) } in
          cleared (first_place at + k)
          ∙ (not_cleared (first_place len) (first_place at + k) _ (other_place len at k small here (omega (arith, close.least)))
          ∙ are k at small (near_from len at here.least here.most))
    ]

-- the same by other names
pub cleared_as : (first first' : ℕ) (old old' new : List (Option Row)) → first ≡ first' → old ≡ old' → IsCleared first old new → IsCleared first' old' new
cleared_as first first' old old' new e o cleared = λ i.
    cleared i ∙ ap₂ (λ (x : ℕ) (l : List (Option Row)). if nat_le x i && nat_lt i (x + each) then None else slice_index_or l i None) e o
