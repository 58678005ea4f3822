-- The replicas that are here, of all numbers: whether one is busy, which is the least, and whether all have so many rows.
use Rattle.std.proofs.Common.{◌≡◌, ℕ, zero, suc, ◌+◌, ◌<◌, ◌≤◌, Bool, true, false, ◌&&◌, nat_lt, List, [], ◌∷◌, length, filter, Option, Some, None, refl, sym, ◌∙◌, ap, subst, arith, inl, inr, slice_index_or, if◌then◌else◌}
use Rattle.std.specs.List.{list_all, range_with_len}
use Rattle.std.specs.Option.{MatchOption}
use Rattle.std.proofs.lemmas.Bool.{lt-ltb, ltb-true, ltb-false, cases_eq, cases_Bool, cond-true, cond-false, both_ways, and_right}
use Rattle.ritas_base.specs.declared.item.Item.{Item}
use Rattle.node_loop.specs.Serving.{is_busy}
use Rattle.node_loop.specs.Standing.{is_before_other}

pub busy_is : (n : ℕ) (items : List Item) → n ≡ length items → nat_lt 0 n ≡ is_busy items
busy_is n [] same = ap (nat_lt 0) same
busy_is n (item ∷ items) same = lt-ltb 0 n (omega arith)

-- ---- a range of numbers, of which some pass two tests

skipped : (p q : ℕ → Bool) (x : ℕ) (xs : List ℕ) → (p x ≡ true → q x ≡ false) → filter q (filter p (x ∷ xs)) ≡ filter q (filter p xs)
skipped p q x xs none = elim (cases_Bool (p x)) [
  | inl passes ↦ ap (filter q) (cond-true (p x) (x ∷ filter p xs) (filter p xs) passes) ∙ cond-false (q x) (x ∷ filter q (filter p xs)) (filter q (filter p xs)) (none passes)
  | inr fails ↦ ap (filter q) (cond-false (p x) (x ∷ filter p xs) (filter p xs) fails)
]

pub none_pass : (p q : ℕ → Bool) (a n : ℕ) → ((k : ℕ) → a ≤ k → k < a + n → p k ≡ true → q k ≡ false) → filter q (filter p (range_with_len a n)) ≡ []
none_pass p q a zero none = refl
none_pass p q a (suc n) none =
    skipped p q a (range_with_len (a + 1) n) (none a (omega arith) (omega arith))
    ∙ none_pass p q (a + 1) n (λ k from below. none k (omega arith) (omega arith))

-- the first that passes both is in front
pub first_passes : (p q : ℕ → Bool) (a n i : ℕ) → a ≤ i → i < a + n → p i ≡ true → q i ≡ true → ((k : ℕ) → a ≤ k → k < i → p k ≡ true → q k ≡ false)
    → (more : List ℕ) × (filter q (filter p (range_with_len a n)) ≡ i ∷ more)
first_passes p q a zero i from below passes both none = absurd (omega arith)
first_passes p q a (suc n) i from below passes both none = elim (cases_eq a i) [
  | inl same ↦
      let xs = range_with_len (a + 1) n in
      let front : filter q (filter p (i ∷ xs)) ≡ i ∷ filter q (filter p xs) =
      ap (filter q) (cond-true (p i) (i ∷ filter p xs) (filter p xs) passes) ∙ cond-true (q i) (i ∷ filter q (filter p xs)) (filter q (filter p xs)) both in
      (filter q (filter p xs), ap (λ x. filter q (filter p (x ∷ xs))) same ∙ front)
  | inr other ↦
      let after = first_passes p q (a + 1) n i (omega arith) (omega arith) passes both (λ k above under. none k (omega arith) under) in
      (after.0, skipped p q a (range_with_len (a + 1) n) (none a (omega arith) (omega arith)) ∙ after.1)
]

-- one that passes the first and not the second
pub all_fails : (p q : ℕ → Bool) (a n i : ℕ) → a ≤ i → i < a + n → p i ≡ true → q i ≡ false → list_all q (filter p (range_with_len a n)) ≡ false
all_fails p q a zero i from below passes fails = absurd (omega arith)
all_fails p q a (suc n) i from below passes fails =
    let xs = range_with_len (a + 1) n in
    elim (cases_Bool (p a)) [
      | inl here ↦ ap (list_all q) (cond-true (p a) (a ∷ filter p xs) (filter p xs) here) ∙ elim (cases_eq a i) [
        | inl same ↦ ap (λ t. t && list_all q (filter p xs)) (ap q same ∙ fails)
        | inr other ↦ ap (λ t. q a && t) (all_fails p q (a + 1) n i (omega arith) (omega arith) passes fails) ∙ and_right (q a) false refl
      ]
      | inr not_here ↦
          let other : a ≡ i → ⊥ = λ same. both_ways (p a) not_here (ap p same ∙ passes) in
          ap (list_all q) (cond-false (p a) (a ∷ filter p xs) (filter p xs) not_here) ∙ all_fails p q (a + 1) n i (omega arith) (omega arith) passes fails
    ]

-- all pass the second that pass the first
pub all_pass : (p q : ℕ → Bool) (xs : List ℕ) → ((k : ℕ) → p k ≡ true → q k ≡ true) → list_all q (filter p xs) ≡ true
all_pass p q [] pass = refl
all_pass p q (x ∷ xs) pass = elim (cases_Bool (p x)) [
  | inl here ↦ ap (list_all q) (cond-true (p x) (x ∷ filter p xs) (filter p xs) here) ∙ ap (λ t. t && list_all q (filter p xs)) (pass x here) ∙ all_pass p q xs pass
  | inr fails ↦ ap (list_all q) (cond-false (p x) (x ∷ filter p xs) (filter p xs) fails) ∙ all_pass p q xs pass
]

-- ---- the least that passes, of the first so many

pub record IsLeast (p : ℕ → Bool) (xs : List ℕ) (i least : ℕ) : Type 0 where
  pub place : ℕ
  pub within : place < i
  pub is : slice_index_or xs place 0 ≡ least
  pub passes : p least ≡ true
  pub no_less : (k : ℕ) → k < i → p (slice_index_or xs k 0) ≡ true → least ≤ slice_index_or xs k 0

abbrev pub NonePasses : (ℕ → Bool) → List ℕ → ℕ → Type 0
NonePasses p xs i = (k : ℕ) → k < i → p (slice_index_or xs k 0) ≡ false

abbrev pub Least : (ℕ → Bool) → List ℕ → ℕ → Option ℕ → Type 0
Least p xs i least = MatchOption least (NonePasses p xs i) (λ m. IsLeast p xs i m)

pub least_at_first : (p : ℕ → Bool) (xs : List ℕ) → Least p xs 0 None
least_at_first p xs = λ k below. absurd (omega arith)

pub below_next : (P : ℕ → Type 0) (i : ℕ) → ((k : ℕ) → k < i → P k) → P i → (k : ℕ) → k < i + 1 → P k
below_next P i before here k below = elim (cases_eq k i) [
  | inl same ↦ subst P (sym same) here
  | inr other ↦ before k (omega arith)
]

fails_more : (p : ℕ → Bool) (xs : List ℕ) (i : ℕ) (least : Option ℕ) → p (slice_index_or xs i 0) ≡ false → Least p xs i least → Least p xs (i + 1) least
fails_more p xs i None fails none = below_next (λ k. p (slice_index_or xs k 0) ≡ false) i none fails
fails_more p xs i (Some m) fails is = record {
  place = is.place;
  within = let within = is.within in omega arith;
  is = is.is;
  passes = is.passes;
  no_less = below_next (λ k. p (slice_index_or xs k 0) ≡ true → m ≤ slice_index_or xs k 0) i is.no_less (λ passes. absurd (both_ways (p (slice_index_or xs i 0)) fails passes));
}

passes_more : (p : ℕ → Bool) (xs : List ℕ) (i : ℕ) (least : Option ℕ) → p (slice_index_or xs i 0) ≡ true → Least p xs i least
    → Least p xs (i + 1) (if is_before_other (slice_index_or xs i 0) least then Some (slice_index_or xs i 0) else least)
passes_more p xs i None passes none = record {
  place = i;
  within = omega arith;
  is = refl;
  passes = passes;
  no_less = below_next (λ k. p (slice_index_or xs k 0) ≡ true → slice_index_or xs i 0 ≤ slice_index_or xs k 0) i (λ k below yes. absurd (both_ways (p (slice_index_or xs k 0)) (none k below) yes)) (λ yes. omega arith);
}
passes_more p xs i (Some m) passes is =
    let x = slice_index_or xs i 0 in
    let P : Option ℕ → Type 0 = λ o. Least p xs (i + 1) o in
    elim (cases_Bool (nat_lt x m)) [
      | inl less ↦
          let below : x < m = ltb-true x m less in
          subst P (sym (cond-true (nat_lt x m) (Some x) (Some m) less)) (record {
            place = i;
            within = omega arith;
            is = refl;
            passes = passes;
            no_less = below_next (λ k. p (slice_index_or xs k 0) ≡ true → x ≤ slice_index_or xs k 0) i (λ k before yes. let more = is.no_less k before yes in omega arith) (λ yes. omega arith);
          })
      | inr more ↦
          let above : m ≤ x = ltb-false x m more in
          subst P (sym (cond-false (nat_lt x m) (Some x) (Some m) more)) (record {
            place = is.place;
            within = let within = is.within in omega arith;
            is = is.is;
            passes = is.passes;
            no_less = below_next (λ k. p (slice_index_or xs k 0) ≡ true → m ≤ slice_index_or xs k 0) i is.no_less (λ yes. above);
          })
    ]

-- of one more
pub least_more : (p : ℕ → Bool) (xs : List ℕ) (i : ℕ) (least : Option ℕ) → Least p xs i least
    → Least p xs (i + 1) (if p (slice_index_or xs i 0) && is_before_other (slice_index_or xs i 0) least then Some (slice_index_or xs i 0) else least)
least_more p xs i least so_far =
    let x = slice_index_or xs i 0 in
    let P : Bool → Type 0 = λ t. Least p xs (i + 1) (if t && is_before_other x least then Some x else least) in
    elim (cases_Bool (p x)) [
      | inl passes ↦ subst P (sym passes) (passes_more p xs i least passes so_far)
      | inr fails ↦ subst P (sym fails) (fails_more p xs i least fails so_far)
    ]
