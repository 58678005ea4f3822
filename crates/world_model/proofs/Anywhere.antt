-- Lists that have an element which passes a test, and members of lists.
use Rattle.std.proofs.Common.{◌≡◌, ℕ, zero, suc, ◌+◌, ◌<◌, ◌≤◌, Bool, true, false, ◌||◌, List, [], ◌∷◌, map, flat_map, refl, sym, ◌∙◌, ap, subst, inl, inr, arith}
use Rattle.std.proofs.Math.Nat.{eq-or-lt_of_le}
use Rattle.std.specs.List.{list_any, range_with_len}
use Rattle.std.proofs.lemmas.Bool.{or_cases, or_parts, or_left, or_right}
use Rattle.std.proofs.lemmas.List.Folds.{list_any-append, list_any_at}
use Rattle.std.proofs.lemmas.List.FromFn.{map-range_with_len_more, get_or-map-range_with_len, length-map-range_with_len}
use Rattle.layer_api.specs.Runs.{Has}
use Rattle.layer_api.specs.HasLaws.{has_either, has_left, has_right}

-- ---- tests

-- one of these passes
pub record Passes {X : Type 0} (test : X → Bool) (xs : List X) : Type 0 where
  pub element : X
  pub listed : Has xs element
  pub passes : test element ≡ true

pub some_of : {X : Type 0} (test : X → Bool) (xs : List X) → list_any test xs ≡ true → Passes test xs
some_of test [] e = absurd (cc)
some_of test (x ∷ xs) e = elim (or_cases (test x) (list_any test xs) e) [
  | inl here ↦ record { element = x; listed = inl refl; passes = here }
  | inr there ↦ let more = some_of test xs there in record { element = more.element; listed = inr more.listed; passes = more.passes }
]

pub none_of : {X : Type 0} (test : X → Bool) (xs : List X) → list_any test xs ≡ false → (x : X) → Has xs x → test x ≡ false
none_of test [] e x here = elim here [ ]
none_of test (y ∷ ys) e x (inl same) = ap test (sym same) ∙ (or_parts (test y) (list_any test ys) e).0
none_of test (y ∷ ys) e x (inr there) = none_of test ys (or_parts (test y) (list_any test ys) e).1 x there

pub any_of : {X : Type 0} (test : X → Bool) (xs : List X) (x : X) → Has xs x → test x ≡ true → list_any test xs ≡ true
any_of test [] x here passes = elim here [ ]
any_of test (y ∷ ys) x (inl same) passes = or_left (test y) (list_any test ys) (ap test same ∙ passes)
any_of test (y ∷ ys) x (inr there) passes = or_right (test y) (list_any test ys) (any_of test ys x there passes)

pub all_fail : {X : Type 0} (test : X → Bool) (xs : List X) → ((x : X) → Has xs x → test x ≡ false) → list_any test xs ≡ false
all_fail test [] fails = refl
all_fail test (x ∷ xs) fails =
    ap (λ b. b || list_any test xs) (fails x (inl refl)) ∙ all_fail test xs (λ y there. fails y (inr there))

-- ---- numbers below another

pub any_more : {X : Type 0} (test : X → Bool) (f : ℕ → X) (n : ℕ) →
    list_any test (map f (range_with_len 0 n)) ≡ false → test (f n) ≡ false → list_any test (map f (range_with_len 0 (n + 1))) ≡ false
any_more test f n none fails =
    ap (list_any test) (map-range_with_len_more f 0 n n (omega arith)) ∙ list_any-append test (map f (range_with_len 0 n)) (f n ∷ [])
    ∙ ap (λ b. b || (test (f n) || false)) none ∙ ap (λ b. b || false) fails

pub any_at : {X : Type 0} (test : X → Bool) (f : ℕ → X) (n k : ℕ) → k < n → test (f k) ≡ true → list_any test (map f (range_with_len 0 n)) ≡ true
any_at test f n k below passes =
    list_any_at test (map f (range_with_len 0 n)) k (f k) (omega (arith, length-map-range_with_len f 0 n))
    (ap test (get_or-map-range_with_len f 0 n k k (f k) below (omega arith)) ∙ passes)

-- ---- members

-- one of these is mapped to y
pub record IsImage {X Y : Type 0} (f : X → Y) (xs : List X) (y : Y) : Type 0 where
  pub element : X
  pub listed : Has xs element
  pub same : f element ≡ y

pub mapped_from : {X Y : Type 0} (f : X → Y) (xs : List X) (y : Y) → Has (map f xs) y → IsImage f xs y
mapped_from f [] y here = elim here [ ]
mapped_from f (x ∷ xs) y (inl e) = record { element = x; listed = inl refl; same = e }
mapped_from f (x ∷ xs) y (inr there) = let more = mapped_from f xs y there in record { element = more.element; listed = inr more.listed; same = more.same }

pub has_among : {X Y : Type 0} (f : X → List Y) (xs : List X) (x : X) (y : Y) → Has xs x → Has (f x) y → Has (flat_map f xs) y
has_among f [] x y here inside = elim here [ ]
has_among {X} {Y} f (z ∷ xs) x y (inl e) inside = let P : X → Type 0 = λ u. Has (f u) y in has_left (f z) (flat_map f xs) y (subst P (sym e) inside)
has_among f (z ∷ xs) x y (inr there) inside = has_right (f z) (flat_map f xs) y (has_among f xs x y there inside)

-- one of these brings y
pub record Brings {X Y : Type 0} (f : X → List Y) (xs : List X) (y : Y) : Type 0 where
  pub element : X
  pub listed : Has xs element
  pub inside : Has (f element) y

pub among_from : {X Y : Type 0} (f : X → List Y) (xs : List X) (y : Y) → Has (flat_map f xs) y → Brings f xs y
among_from f [] y here = elim here [ ]
among_from f (x ∷ xs) y here = elim (has_either (f x) (flat_map f xs) y here) [
  | inl inside ↦ record { element = x; listed = inl refl; inside = inside }
  | inr there ↦ let more = among_from f xs y there in record { element = more.element; listed = inr more.listed; inside = more.inside }
]

-- ---- numbers in a range

pub has_number : (a n i : ℕ) → a ≤ i → i < a + n → Has (range_with_len a n) i
has_number a zero i from below = absurd (omega arith)
has_number a (suc n) i from below = elim (eq-or-lt_of_le from) [
  | inl same ↦ inl same
  | inr more ↦ inr (has_number (a + 1) n i (omega arith) (omega arith))
]

pub number_below : (a n i : ℕ) → Has (range_with_len a n) i → i < a + n
number_below a zero i here = elim here [ ]
number_below a (suc n) i (inl e) = omega (arith, e)
number_below a (suc n) i (inr there) = let less = number_below (a + 1) n i there in omega arith

-- one number more fails too
pub any_up : (test : ℕ → Bool) (n : ℕ) → list_any test (range_with_len 0 n) ≡ false → test n ≡ false → list_any test (range_with_len 0 (n + 1)) ≡ false
any_up test n none last = all_fail test (range_with_len 0 (n + 1)) (λ x here. either x (number_below 0 (n + 1) x here))
  where
    either : (x : ℕ) → x < 0 + (n + 1) → test x ≡ false
    either x below = let most : x ≤ n = omega arith in elim (eq-or-lt_of_le most) [
      | inl same ↦ ap test same ∙ last
      | inr less ↦ none_of test (range_with_len 0 n) none x (has_number 0 n x (omega arith) (omega arith))
    ]
