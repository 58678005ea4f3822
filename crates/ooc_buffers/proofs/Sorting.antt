-- Lists that are sorted by stamps, of which no two are the same.
use Rattle.std.specs.Prelude.{◌≡◌, ℕ, ◌+◌, ◌<◌, ◌≤◌, ◌⊎◌, ◌==◌, nat_lt, Bool, true, false, cond, List, [], ◌∷◌, ◌++◌, filter, refl}
use Rattle.std.proofs.Common.{sym, ◌∙◌, ap, ap₂, subst, arith, inl, inr, suc}
use Rattle.std.specs.List.{AllByRecursion}
use Rattle.std.specs.List.Sorted.{IsPermutation, IsNonDecreasingBy}
use Rattle.std.proofs.lemmas.Bool.{cases_Bool, ltb-true, ltb-false, eq-eqb, ne_eqb, eqb-true, eqb-false}
use Rattle.std.proofs.lemmas.List.{append-nil}
use Rattle.std.proofs.lemmas.List.Elements.{All-from_recursion, recursion_from_All}
use Rattle.std.proofs.lemmas.List.Sorted.{All-permutation, sum_by-IsPermutation, IsPermutation-refl, IsPermutation-sym, IsPermutation-trans, IsPermutation-cons, IsPermutation-middle, IsPermutation-append_left}
use Rattle.std.proofs.lemmas.List.Sums.{sum_by-cons}
use Rattle.ooc_buffers.specs.Spots.{Spotted, put, put_all, with_stamp, AreAt, AreApart, Leaves}
use Rattle.ooc_buffers.proofs.Stamps.{IsUp, over, up_put_all}

-- ---- how many have a stamp

one_of : ℕ → Spotted → ℕ
one_of k e = cond {A = ℕ} (e.0.stamp == k) 1 0

first_counts : (k : ℕ) (x : Spotted) (xs : List Spotted) → with_stamp k (x ∷ xs) ≡ one_of k x + with_stamp k xs
unfolding one_of
first_counts k x xs = sum_by-cons (λ (e : Spotted). cond {A = ℕ} (e.0.stamp == k) 1 0) x xs

is_one : (k : ℕ) (x : Spotted) → x.0.stamp ≡ k → one_of k x ≡ 1
unfolding one_of
is_one k x is = ap (λ (b : Bool). cond {A = ℕ} b 1 0) (eq-eqb x.0.stamp k is)

is_none : (k : ℕ) (x : Spotted) → (x.0.stamp ≡ k → ⊥) → one_of k x ≡ 0
unfolding one_of
is_none k x out = ap (λ (b : Bool). cond {A = ℕ} b 1 0) (ne_eqb x.0.stamp k out)

few_in : (b : Bool) → cond {A = ℕ} b 1 0 ≤ 1
few_in true = omega arith
few_in false = omega arith

at_most_one : (k : ℕ) (x : Spotted) → one_of k x ≤ 1
unfolding one_of
at_most_one k x = few_in (x.0.stamp == k)

none_below : (k : ℕ) (xs : List Spotted) → AllByRecursion (λ y. k < y.0.stamp) xs → with_stamp k xs ≡ 0
none_below k [] all = refl
none_below k (x ∷ xs) all =
    let less = all.0 in
    let one = is_none k x (λ same. omega (arith, same, less)) in
    let first = first_counts k x xs in
    let rest = none_below k xs all.1 in
    omega (arith, first, one, rest)

none_above : (k : ℕ) (xs : List Spotted) → AreAt k xs → with_stamp k xs ≡ 0
none_above k [] all = refl
none_above k (x ∷ xs) all =
    let at = all.0 in
    let less = at.stamp in
    let one = is_none k x (λ same. omega (arith, same, less)) in
    let first = first_counts k x xs in
    let rest = none_above k xs all.1 in
    omega (arith, first, one, rest)

split_counts : (k : ℕ) (front : List Spotted) (e : Spotted) (back : List Spotted) → with_stamp k (front ++ e ∷ back) ≡ one_of k e + with_stamp k (front ++ back)
split_counts k [] e back = first_counts k e back
split_counts k (x ∷ front) e back =
    let first = first_counts k x (front ++ e ∷ back) in
    let last = first_counts k x (front ++ back) in
    let rest = split_counts k front e back in
    omega (arith, first, last, rest)

left_counts : (k : ℕ) (e : Spotted) (xs xs' : List Spotted) → Leaves e xs xs' → with_stamp k xs ≡ one_of k e + with_stamp k xs'
left_counts k e xs xs' left =
    ap (with_stamp k) left.was ∙ (split_counts k left.front e left.back ∙ ap (λ (l : List Spotted). one_of k e + with_stamp k l) (sym left.now))

-- ---- no two are the same

pub apart_none : AreApart []
apart_none k = omega arith

pub apart_left : (e : Spotted) (xs xs' : List Spotted) → Leaves e xs xs' → AreApart xs → AreApart xs'
apart_left e xs xs' left apart k =
    let count = left_counts k e xs xs' left in
    let few = apart k in
    omega (arith, count, few)

pub apart_more : (e : Spotted) (old new : List Spotted) → Leaves e new old → AreAt e.0.stamp old → AreApart old → AreApart new
apart_more e old new left ats apart k =
    let count = left_counts k e new old left in
    let few = apart k in
    let one = at_most_one k e in
    elim (cases_Bool (e.0.stamp == k)) [
      | inl here ↦ let none = same_none (eqb-true e.0.stamp k here) in omega (arith, count, one, none)
      | inr out ↦ let zero = is_none k e (eqb-false e.0.stamp k out) in omega (arith, count, few, zero)
    ]
  where
    same_none : e.0.stamp ≡ k → with_stamp k old ≡ 0
    same_none is = ap (λ (n : ℕ). with_stamp n old) (sym is) ∙ none_above e.0.stamp old ats

fewer_if : (k : ℕ) (x : Spotted) (xs ys : List Spotted) (b : Bool) → with_stamp k ys ≤ with_stamp k xs → with_stamp k (cond b (x ∷ ys) ys) ≤ with_stamp k (x ∷ xs)
fewer_if k x xs ys true less =
    let first = first_counts k x xs in
    let other = first_counts k x ys in
    omega (arith, first, other, less)
fewer_if k x xs ys false less =
    let first = first_counts k x xs in
    omega (arith, first, less)

fewer_kept : (k : ℕ) (p : Spotted → Bool) (xs : List Spotted) → with_stamp k (filter p xs) ≤ with_stamp k xs
fewer_kept k p [] = omega arith
fewer_kept k p (x ∷ xs) = fewer_if k x xs (filter p xs) (p x) (fewer_kept k p xs)

pub apart_filter : (p : Spotted → Bool) (xs : List Spotted) → AreApart xs → AreApart (filter p xs)
apart_filter p xs apart k =
    let less = fewer_kept k p xs in
    let few = apart k in
    omega (arith, less, few)

-- ---- an item is one of these

abbrev IsIn : Spotted → List Spotted → Type 0
IsIn e [] = ⊥
IsIn e (x ∷ xs) = (e ≡ x) ⊎ IsIn e xs

in_counts : (e : Spotted) (xs : List Spotted) → IsIn e xs → 1 ≤ with_stamp e.0.stamp xs
in_counts e [] here = absurd here
in_counts e (x ∷ xs) (inl is) =
    let first = first_counts e.0.stamp x xs in
    let one = is_one e.0.stamp x (ap (λ (y : Spotted). y.0.stamp) (sym is)) in
    omega (arith, first, one)
in_counts e (x ∷ xs) (inr here) =
    let first = first_counts e.0.stamp x xs in
    let rest = in_counts e xs here in
    omega (arith, first, rest)

all_in : (P : Spotted → Type 0) (e : Spotted) (xs : List Spotted) → AllByRecursion P xs → IsIn e xs → P e
all_in P e [] all here = absurd here
all_in P e (x ∷ xs) all (inl is) = subst P (sym is) all.0
all_in P e (x ∷ xs) all (inr here) = all_in P e xs all.1 here

each : (P : Spotted → Type 0) (xs : List Spotted) → ((e : Spotted) → IsIn e xs → P e) → AllByRecursion P xs
each P [] given = tt
each P (x ∷ xs) given = (given x (inl refl), each P xs (λ e here. given e (inr here)))

narrowed : (z : Spotted) (zs ys : List Spotted) → with_stamp z.0.stamp ys ≡ 0 → AllByRecursion (λ e. IsIn e (z ∷ zs)) ys → AllByRecursion (λ e. IsIn e zs) ys
narrowed z zs [] none all = tt
narrowed z zs (y ∷ ys) none all =
    let first = first_counts z.0.stamp y ys in (
      elim (all.0) [
        | inl is ↦ let one = is_one z.0.stamp y (ap (λ (e : Spotted). e.0.stamp) is) in absurd (omega (arith, first, none, one))
        | inr here ↦ here
      ],
      narrowed z zs ys (omega (arith, first, none)) all.1,
    )

-- ---- two sorted lists with the same stamps, each of the one in the other, are one list

heads : (y : Spotted) (ys : List Spotted) (z : Spotted) (zs : List Spotted) → IsUp (y ∷ ys) → IsUp (z ∷ zs)
    → ((k : ℕ) → with_stamp k (y ∷ ys) ≡ with_stamp k (z ∷ zs)) → AreApart (z ∷ zs) → IsIn y (z ∷ zs) → y ≡ z
heads y ys z zs up up' same apart (inl is) = is
heads y ys z zs up up' same apart (inr here) =
    let low = all_in (λ w. z.0.stamp ≤ w.0.stamp) y zs up'.0 here in
    elim (cases_Bool (nat_lt z.0.stamp y.0.stamp)) [
      | inl does ↦
          let less = ltb-true z.0.stamp y.0.stamp does in
          let none = none_below z.0.stamp (y ∷ ys) (less, over z.0.stamp y.0.stamp ys less up.0) in
          let alike = same z.0.stamp in
          let first = first_counts z.0.stamp z zs in
          let one = is_one z.0.stamp z refl in
          absurd (omega (arith, none, alike, first, one))
      | inr fails ↦
          let most = ltb-false z.0.stamp y.0.stamp fails in
          let first = first_counts y.0.stamp z zs in
          let one = is_one y.0.stamp z (omega (arith, low, most)) in
          let more = in_counts y zs here in
          let few = apart y.0.stamp in
          absurd (omega (arith, first, one, more, few))
    ]

same_lists : (ys zs : List Spotted) → IsUp ys → IsUp zs → ((k : ℕ) → with_stamp k ys ≡ with_stamp k zs) → AreApart zs → AllByRecursion (λ e. IsIn e zs) ys → ys ≡ zs
same_lists [] [] up up' same apart all = refl
same_lists [] (z ∷ zs) up up' same apart all =
    let alike = same z.0.stamp in
    let first = first_counts z.0.stamp z zs in
    let one = is_one z.0.stamp z refl in
    absurd (omega (arith, alike, first, one))
same_lists (y ∷ ys) [] up up' same apart all = absurd (all.0)
same_lists (y ∷ ys) (z ∷ zs) up up' same apart all =
    let head = heads y ys z zs up up' same apart all.0 in
    let rest : (k : ℕ) → with_stamp k ys ≡ with_stamp k zs = λ k.
    let alike = same k in
    let first = first_counts k y ys in
    let other = first_counts k z zs in
    let one = ap (one_of k) head in
    omega (arith, alike, first, other, one) in
    let few : AreApart zs = λ k.
    let all = apart k in
    let other = first_counts k z zs in
    omega (arith, all, other) in
    let none : with_stamp z.0.stamp ys ≡ 0 =
    let alike = rest z.0.stamp in
    let most = apart z.0.stamp in
    let other = first_counts z.0.stamp z zs in
    let one = is_one z.0.stamp z refl in
    omega (arith, alike, most, other, one) in
    ap₂ (λ (x : Spotted) (l : List Spotted). x ∷ l) head (same_lists ys zs up.1 up'.1 rest few (narrowed z zs ys none all.1))

-- ---- a sort by stamps puts each behind those of no later stamp

moved_put_if : (e x : Spotted) (xs ys : List Spotted) (b : Bool) → IsPermutation (e ∷ xs) ys → IsPermutation (e ∷ x ∷ xs) (cond b (e ∷ x ∷ xs) (x ∷ ys))
moved_put_if e x xs ys true rest = IsPermutation-refl (e ∷ x ∷ xs)
moved_put_if e x xs ys false rest =
    IsPermutation-trans (e ∷ x ∷ xs) (x ∷ e ∷ xs) (x ∷ ys)
    (IsPermutation-sym (x ∷ e ∷ xs) (e ∷ x ∷ xs) (IsPermutation-middle (x ∷ []) e xs)) (IsPermutation-cons x (e ∷ xs) ys rest)

moved_put : (e : Spotted) (xs : List Spotted) → IsPermutation (e ∷ xs) (put e xs)
moved_put e [] = IsPermutation-refl (e ∷ [])
moved_put e (x ∷ xs) = moved_put_if e x xs (put e xs) (nat_lt e.0.stamp x.0.stamp) (moved_put e xs)

moved_put_all : (xs es : List Spotted) → IsPermutation (xs ++ es) (put_all xs es)
moved_put_all xs [] = subst (λ (l : List Spotted). IsPermutation l xs) (sym (append-nil xs)) (IsPermutation-refl xs)
moved_put_all xs (e ∷ es) =
    IsPermutation-trans (xs ++ e ∷ es) (e ∷ (xs ++ es)) (put_all (put e xs) es) (IsPermutation-middle xs e es)
    (IsPermutation-trans (e ∷ (xs ++ es)) (put e xs ++ es) (put_all (put e xs) es)
    (IsPermutation-append_left es (e ∷ xs) (put e xs) (moved_put e xs)) (moved_put_all (put e xs) es))

rises : (ys : List Spotted) → IsNonDecreasingBy (λ (e : Spotted). e.0.stamp) ys → IsUp ys
rises [] up = tt
rises (y ∷ ys) up = (
  recursion_from_All (λ (w : Spotted). y.0.stamp ≤ w.0.stamp) ys (λ k d below. up 0 (suc k) d (omega arith) (omega (arith, below))),
  rises ys (λ i j d low below. up (suc i) (suc j) d (omega (arith, low)) (omega (arith, below))),
)

pub sorted_is : (xs ys : List Spotted) → IsPermutation xs ys → IsNonDecreasingBy (λ (e : Spotted). e.0.stamp) ys → AreApart xs → ys ≡ put_all [] xs
sorted_is xs ys moved up apart =
    let zs = put_all [] xs in
    let there = moved_put_all [] xs in
    let across : IsPermutation zs ys = IsPermutation-trans zs xs ys (IsPermutation-sym xs zs there) moved in
    let in_it = λ (e : Spotted). IsIn e zs in
    same_lists ys zs (rises ys up) (up_put_all [] xs tt)
    (λ k. sum_by-IsPermutation (λ (e : Spotted). cond {A = ℕ} (e.0.stamp == k) 1 0) zs ys across)
    (λ k. let few = apart k in let alike = sum_by-IsPermutation (λ (e : Spotted). cond {A = ℕ} (e.0.stamp == k) 1 0) xs zs there in
    let same : with_stamp k zs ≡ with_stamp k xs = alike in omega (arith, few, same))
    (recursion_from_All in_it ys (All-permutation in_it zs ys across (All-from_recursion in_it zs (each in_it zs (λ e here. here)))))
