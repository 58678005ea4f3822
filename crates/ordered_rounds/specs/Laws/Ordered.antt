-- Lists of identifiers in order: what a replica proposes is an identifier list, and what is appended is new.
use Rattle.std.specs.Prelude.{◌≡◌, ℕ, zero, suc, ◌+◌, ◌*◌, ◌/◌, ◌<◌, ◌≤◌, Bool, true, false, ◌==◌, ◌&&◌, ◌||◌, nat_lt, if◌then◌else◌, List, [], ◌∷◌, ◌++◌, length, refl, ◌⊎◌}
use Rattle.std.specs.List.{AllByRecursion}
use Rattle.std.proofs.Common.{sym, ◌∙◌, ap, subst, inl, inr, arith}
use Rattle.std.proofs.Math.Nat.{le-div_iff_mul-le, mul-div-le}
use Rattle.std.proofs.lemmas.Bool.{cases_Bool, cases_order, and_parts, and_from, or_cases, or_left, or_right, eqb-true, eq-eqb, ltb-true, lt-ltb, not-true}
use Rattle.ritas_base.specs.declared.id.Id.{Id}
use Rattle.ritas_base.specs.Quorums.{count_yes, count_no}
use Rattle.frame_codec.specs.Ids.{IsBelow, Ascends, of_origin, AreIds}
use Rattle.layer_api.specs.Service.{has_id, AreDistinct, IsPart}
use Rattle.ordered_rounds.specs.Identifiers.{is_below, IsSorted, insert_id, in_order, passing_ids, is_without, first_of_each, append_ids}
use Rattle.ordered_rounds.specs.Rounds.{proposal}

-- ---- the order

-- a lower identifier has a lower origin, or the same origin and a lower number
below_cases : (x y : Id) → IsBelow x y → (x.origin < y.origin) ⊎ ((y.origin ≡ x.origin) × (x.num < y.num))
below_cases x y h =
    elim (or_cases (nat_lt x.origin y.origin) (y.origin == x.origin && nat_lt x.num y.num) h) [
      | inl a ↦ inl (ltb-true _ _ a)
      | inr b ↦ let p = and_parts (y.origin == x.origin) _ b in inr (eqb-true _ _ p.0, ltb-true _ _ p.1)
    ]

-- and the other way
pub below_from : (x y : Id) → (x.origin < y.origin) ⊎ ((y.origin ≡ x.origin) × (x.num < y.num)) → IsBelow x y
below_from x y (inl l) = or_left (nat_lt x.origin y.origin) _ (lt-ltb _ _ l)
below_from x y (inr p) = or_right (nat_lt x.origin y.origin) _ (and_from (y.origin == x.origin) _ (eq-eqb _ _ p.0) (lt-ltb _ _ p.1))

-- the order goes through
pub below_trans : (x y z : Id) → IsBelow x y → IsBelow y z → IsBelow x z
below_trans x y z a b = below_from x z (go (below_cases x y a) (below_cases y z b))
  where
    go : (x.origin < y.origin) ⊎ ((y.origin ≡ x.origin) × (x.num < y.num)) → (y.origin < z.origin) ⊎ ((z.origin ≡ y.origin) × (y.num < z.num))
        → (x.origin < z.origin) ⊎ ((z.origin ≡ x.origin) × (x.num < z.num))
    go (inl l) (inl m) = inl (omega (arith, l, m))
    go (inl l) (inr p) = let e = p.0 in inl (omega (arith, l, e))
    go (inr p) (inl m) = let e = p.0 in inl (omega (arith, m, e))
    go (inr p) (inr q) = let l = p.1 in let m = q.1 in inr (q.0 ∙ p.0, omega (arith, l, m))

-- a lower identifier is another
pub below_other : (x y : Id) → IsBelow x y → (x.origin == y.origin && x.num == y.num) ≡ false
below_other x y h =
    elim (cases_Bool (x.origin == y.origin && x.num == y.num)) [
      | inl e ↦
          let p = and_parts (x.origin == y.origin) _ e in
          let same = eqb-true _ _ p.0 in
          let num = eqb-true _ _ p.1 in
          absurd (elim (below_cases x y h) [ inl l ↦ omega (arith, l, same) | inr q ↦ let m = q.1 in omega (arith, m, num) ])
      | inr e ↦ e
    ]

-- ---- lists in order

-- what is below an identifier is below all that this is below
all_above : (x y : Id) → IsBelow x y → (xs : List Id) → AllByRecursion (IsBelow y) xs → AllByRecursion (IsBelow x) xs
all_above x y h [] all = tt
all_above x y h (z ∷ xs) all = (below_trans x y z h all.0, all_above x y h xs all.1)

-- what holds of an identifier and of each of a list holds of each after it is put in
pub insert_all : (P : Id → Type 0) (x : Id) (ys : List Id) → P x → AllByRecursion P ys → AllByRecursion P (insert_id x ys)
insert_all P x [] p all = (p, tt)
insert_all P x (y ∷ ys) p all = go (is_below x y) (is_below y x) (insert_all P x ys p all.1)
  where
    go : (a b : Bool) → AllByRecursion P (insert_id x ys) → AllByRecursion P (if a then x ∷ y ∷ ys else if b then y ∷ insert_id x ys else y ∷ ys)
    go true b ih = (p, all)
    go false true ih = (all.0, ih)
    go false false ih = all

-- a list in order stays so when one is put in
insert_sorted : (x : Id) (ys : List Id) → IsSorted ys → IsSorted (insert_id x ys)
insert_sorted x [] s = (tt, tt)
insert_sorted x (y ∷ ys) s = go (is_below x y) (is_below y x) refl refl (insert_sorted x ys s.1)
  where
    go : (a b : Bool) → is_below x y ≡ a → is_below y x ≡ b → IsSorted (insert_id x ys) → IsSorted (if a then x ∷ y ∷ ys else if b then y ∷ insert_id x ys else y ∷ ys)
    go true b e f ih = ((e, all_above x y e ys s.0), s)
    go false true e f ih = (insert_all (IsBelow y) x ys f s.0, ih)
    go false false e f ih = s

-- the list in ascending order is in order
pub in_order_sorted : (xs : List Id) → IsSorted (in_order xs)
in_order_sorted [] = tt
in_order_sorted (x ∷ xs) = insert_sorted x (in_order xs) (in_order_sorted xs)

-- what holds of each holds of each in that list
pub in_order_all : (P : Id → Type 0) (xs : List Id) → AllByRecursion P xs → AllByRecursion P (in_order xs)
in_order_all P [] all = tt
in_order_all P (x ∷ xs) all = insert_all P x (in_order xs) all.0 (in_order_all P xs all.1)

-- what holds of each holds of those that are kept
pub kept_all : (P : Id → Type 0) (test : Id → Bool) (xs : List Id) → AllByRecursion P xs → AllByRecursion P (passing_ids test xs)
kept_all P test [] all = tt
kept_all P test (x ∷ xs) all = go (test x) (kept_all P test xs all.1)
  where
    go : (b : Bool) → AllByRecursion P (passing_ids test xs) → AllByRecursion P (if b then x ∷ passing_ids test xs else passing_ids test xs)
    go true ih = (all.0, ih)
    go false ih = ih

-- those that are kept of a list in order are in order
pub kept_sorted : (test : Id → Bool) (xs : List Id) → IsSorted xs → IsSorted (passing_ids test xs)
kept_sorted test [] s = tt
kept_sorted test (x ∷ xs) s = go (test x) (kept_sorted test xs s.1)
  where
    go : (b : Bool) → IsSorted (passing_ids test xs) → IsSorted (if b then x ∷ passing_ids test xs else passing_ids test xs)
    go true ih = (kept_all (IsBelow x) test xs s.0, ih)
    go false ih = ih

-- each that is kept passes
pub kept_pass : (test : Id → Bool) (xs : List Id) → AllByRecursion (λ x. test x ≡ true) (passing_ids test xs)
kept_pass test [] = tt
kept_pass test (x ∷ xs) = go (test x) refl (kept_pass test xs)
  where
    go : (b : Bool) → test x ≡ b → AllByRecursion (λ y. test y ≡ true) (passing_ids test xs) → AllByRecursion (λ y. test y ≡ true) (if b then x ∷ passing_ids test xs else passing_ids test xs)
    go true e ih = (e, ih)
    go false e ih = ih

-- what holds of each holds of those that are taken
first_all : (P : Id → Type 0) (most : ℕ) (taken xs : List Id) → AllByRecursion P xs → AllByRecursion P (first_of_each most taken xs)
first_all P most taken [] all = tt
first_all P most taken (x ∷ xs) all = go (nat_lt (of_origin x.origin taken) most) (first_all P most (x ∷ taken) xs all.1) (first_all P most taken xs all.1)
  where
    go : (b : Bool) → AllByRecursion P (first_of_each most (x ∷ taken) xs) → AllByRecursion P (first_of_each most taken xs)
        → AllByRecursion P (if b then x ∷ first_of_each most (x ∷ taken) xs else first_of_each most taken xs)
    go true a b = (all.0, a)
    go false a b = b

-- those that are taken of a list in order are in order
first_sorted : (most : ℕ) (taken xs : List Id) → IsSorted xs → IsSorted (first_of_each most taken xs)
first_sorted most taken [] s = tt
first_sorted most taken (x ∷ xs) s = go (nat_lt (of_origin x.origin taken) most) (first_sorted most (x ∷ taken) xs s.1) (first_sorted most taken xs s.1)
  where
    go : (b : Bool) → IsSorted (first_of_each most (x ∷ taken) xs) → IsSorted (first_of_each most taken xs)
        → IsSorted (if b then x ∷ first_of_each most (x ∷ taken) xs else first_of_each most taken xs)
    go true a b = (first_all (IsBelow x) most (x ∷ taken) xs s.0, a)
    go false a b = b

-- a list in order ascends
pub sorted_ascends : (xs : List Id) → IsSorted xs → Ascends xs
sorted_ascends [] s = tt
sorted_ascends (x ∷ []) s = tt
sorted_ascends (x ∷ y ∷ xs) s = (s.0.0, sorted_ascends (y ∷ xs) s.1)

-- ---- how many

-- of each origin no more than are allowed
first_few : (most : ℕ) (taken xs : List Id) → ((k : ℕ) → of_origin k taken ≤ most) → (k : ℕ) → of_origin k (first_of_each most taken xs) + of_origin k taken ≤ most
first_few most taken [] few k = let l = few k in omega (arith, l)
first_few most taken (x ∷ xs) few k =
    go (nat_lt (of_origin x.origin taken) most) refl (λ more. first_few most (x ∷ taken) xs more k) (first_few most taken xs few k)
  where
    more_few : of_origin x.origin taken < most → (j : ℕ) → of_origin j (x ∷ taken) ≤ most
    more_few l j =
        elim (cases_Bool (x.origin == j)) [
          | inl e ↦
              let c = count_yes (λ (y : Id). y.origin == j) x taken e in
              let m : of_origin j taken < most = subst (λ (i : ℕ). of_origin i taken < most) (eqb-true x.origin j e) l in
              omega (arith, c, m)
          | inr e ↦ let c = count_no (λ (y : Id). y.origin == j) x taken e in let m = few j in omega (arith, c, m)
        ]

    go : (b : Bool) → nat_lt (of_origin x.origin taken) most ≡ b
        → (((j : ℕ) → of_origin j (x ∷ taken) ≤ most) → of_origin k (first_of_each most (x ∷ taken) xs) + of_origin k (x ∷ taken) ≤ most)
        → of_origin k (first_of_each most taken xs) + of_origin k taken ≤ most
        → of_origin k (if b then x ∷ first_of_each most (x ∷ taken) xs else first_of_each most taken xs) + of_origin k taken ≤ most
    go true e with_x without =
        let l = with_x (more_few (ltb-true _ _ e)) in
        elim (cases_Bool (x.origin == k)) [
          | inl f ↦
              let c = count_yes (λ (y : Id). y.origin == k) x (first_of_each most (x ∷ taken) xs) f in
              let d = count_yes (λ (y : Id). y.origin == k) x taken f in
              omega (arith, l, c, d)
          | inr f ↦
              let c = count_no (λ (y : Id). y.origin == k) x (first_of_each most (x ∷ taken) xs) f in
              let d = count_no (λ (y : Id). y.origin == k) x taken f in
              omega (arith, l, c, d)
        ]
    go false e with_x without = without

-- over all origins
abbrev total : ℕ → List Id → ℕ
total zero xs = 0
total (suc n) xs = total n xs + of_origin n xs

-- one more is no fewer
total_more : (n : ℕ) (x : Id) (xs : List Id) → total n xs ≤ total n (x ∷ xs)
total_more zero x xs = omega arith
total_more (suc n) x xs =
    let ih = total_more n x xs in
    elim (cases_Bool (x.origin == n)) [
      | inl e ↦ let c = count_yes (λ (y : Id). y.origin == n) x xs e in omega (arith, ih, c)
      | inr e ↦ let c = count_no (λ (y : Id). y.origin == n) x xs e in omega (arith, ih, c)
    ]

-- one more of these origins is one more
total_step : (n : ℕ) (x : Id) (xs : List Id) → x.origin < n → 1 + total n xs ≤ total n (x ∷ xs)
total_step zero x xs l = absurd (omega (arith, l))
total_step (suc n) x xs l =
    elim (cases_Bool (x.origin == n)) [
      | inl e ↦ let c = count_yes (λ (y : Id). y.origin == n) x xs e in let m = total_more n x xs in omega (arith, c, m)
      | inr e ↦
          let c = count_no (λ (y : Id). y.origin == n) x xs e in
          elim (cases_order x.origin n) [
            | inl same ↦ absurd (let z = eq-eqb x.origin n same in let q : true ≡ false = sym z ∙ e in cc)
            | inr (inl less) ↦ let ih = total_step n x xs less in omega (arith, ih, c)
            | inr (inr more) ↦ absurd (omega (arith, l, more))
          ]
    ]

-- so a list of these origins is no longer than that
total_all : (n : ℕ) (xs : List Id) → AllByRecursion (λ x. (x.origin < n) × (x.num < 1000000)) xs → length xs ≤ total n xs
total_all n [] all = let z = zero_least (total n []) in z
  where
    zero_least : (m : ℕ) → 0 ≤ m
    zero_least m = omega arith
total_all n (x ∷ xs) all =
    let ih = total_all n xs all.1 in let l = total_step n x xs all.0.0 in omega (arith, ih, l)

-- and with so many of each origin at most, that is so many times their number at most
total_few : (m n : ℕ) (xs : List Id) → ((k : ℕ) → of_origin k xs ≤ m) → total n xs ≤ n * m
total_few m zero xs few = omega arith
total_few m (suc n) xs few =
    let ih = total_few m n xs few in let l = few n in
    let e : suc n * m ≡ n * m + m = suc_times n m in
    omega (arith, ih, l, e)
  where
    suc_times : (n m : ℕ) → suc n * m ≡ n * m + m
    suc_times n m = omega arith

-- ---- what is proposed

-- each origin's share is one at least
pub share_some : (n : ℕ) → 1 ≤ n → n ≤ 64 → 1 ≤ 64 / n
share_some n l m = (le-div_iff_mul-le (omega (arith, l))).1 (omega (arith, m))

-- a list that one is put in has one
insert_some : (x : Id) (ys : List Id) → (y : Id) × ((zs : List Id) × (insert_id x ys ≡ y ∷ zs))
insert_some x [] = (x, ([], refl))
insert_some x (y ∷ ys) = go (is_below x y) (is_below y x)
  where
    go : (a b : Bool) → (u : Id) × ((zs : List Id) × ((if a then x ∷ y ∷ ys else if b then y ∷ insert_id x ys else y ∷ ys) ≡ u ∷ zs))
    go true b = (x, (y ∷ ys, refl))
    go false true = (y, (insert_id x ys, refl))
    go false false = (y, (ys, refl))

-- of a list that has one, one is taken
first_some : (most : ℕ) (x : Id) (xs : List Id) → 1 ≤ most → 0 < length (first_of_each most [] (x ∷ xs))
first_some most x xs l = go (nat_lt 0 most) (lt-ltb 0 most (omega (arith, l)))
  where
    go : (b : Bool) → b ≡ true → 0 < length (if b then x ∷ first_of_each most (x ∷ []) xs else first_of_each most [] xs)
    go true e = omega arith
    go false e = absurd cc

-- what is pending gives a proposal that has an identifier
pub proposal_some : (n : ℕ) (x : Id) (xs : List Id) → 1 ≤ n → n ≤ 64 → 0 < length (proposal n (x ∷ xs))
proposal_some n x xs l m =
    let i = insert_some x (in_order xs) in
    subst (λ (ys : List Id). 0 < length (first_of_each (64 / n) [] ys)) (sym i.1.1) (first_some (64 / n) i.0 i.1.0 (share_some n l m))

-- a proposal is an identifier list of the grammar
pub proposal_is : (n : ℕ) (xs : List Id) → AllByRecursion (λ x. (x.origin < n) × (x.num < 1000000)) xs → AreIds n (proposal n xs)
proposal_is n xs all =
    let range = first_all (λ x. (x.origin < n) × (x.num < 1000000)) (64 / n) [] (in_order xs) (in_order_all (λ x. (x.origin < n) × (x.num < 1000000)) xs all) in
    let few = λ (k : ℕ). least_few k (first_few (64 / n) [] (in_order xs) (λ j. nothing (64 / n)) k) in
    let a = total_all n (proposal n xs) range in
    let b = total_few (64 / n) n (proposal n xs) few in
    let c = mul-div-le 64 n in
    record {
      most = omega (arith, a, b, c);
      in_range = range;
      ascending = sorted_ascends (proposal n xs) (first_sorted (64 / n) [] (in_order xs) (in_order_sorted xs));
      few = few;
    }
  where
    nothing : (m : ℕ) → 0 ≤ m
    nothing m = omega arith

    least_few : (k : ℕ) → of_origin k (proposal n xs) + of_origin k [] ≤ 64 / n → of_origin k (proposal n xs) ≤ 64 / n
    least_few k l = omega (arith, l)

-- ---- what is appended

-- where a lower one is appended, the log still hasn't those above it that it didn't have
other_each : (x : Id) (ys : List Id) → AllByRecursion (IsBelow x) ys → (log : List Id) → AllByRecursion (λ y. has_id log y ≡ false) ys
    → AllByRecursion (λ y. has_id (x ∷ log) y ≡ false) ys
other_each x [] above log all = tt
other_each x (y ∷ ys) above log all =
    (ap (λ (b : Bool). b || has_id log y) (below_other x y above.0) ∙ all.0, other_each x ys above.1 log all.1)

-- a log with distinct identifiers has so with new ones in order
pub append_distinct : (xs log : List Id) → IsSorted xs → AllByRecursion (λ x. has_id log x ≡ false) xs → AreDistinct log → AreDistinct (append_ids xs log)
append_distinct [] log s all d = d
append_distinct (x ∷ xs) log s all d = append_distinct xs (x ∷ log) s.1 (other_each x xs s.0 log all.1) (all.0, d)

-- what passes as being without the log isn't in it
without_each : (log xs : List Id) → AllByRecursion (λ x. is_without log x ≡ true) xs → AllByRecursion (λ x. has_id log x ≡ false) xs
without_each log [] all = tt
without_each log (x ∷ xs) all = (not-true (has_id log x) all.0, without_each log xs all.1)

-- identifiers in order, those alone that the log hasn't
pub append_new : (xs log : List Id) → IsSorted xs → AreDistinct log → AreDistinct (append_ids (passing_ids (is_without log) xs) log)
append_new xs log s d =
    append_distinct (passing_ids (is_without log) xs) log (kept_sorted (is_without log) xs s) (without_each log (passing_ids (is_without log) xs) (kept_pass (is_without log) xs)) d

-- a log is a part of what it is a part of after one more
part_more : (x : Id) (log ys : List Id) → IsPart (x ∷ log) ys → IsPart log ys
part_more x log ys h = (h.0 ++ x ∷ [], assoc h.0 ∙ h.1)
  where
    assoc : (ms : List Id) → (ms ++ x ∷ []) ++ log ≡ ms ++ (x ∷ log)
    assoc [] = refl
    assoc (m ∷ ms) = ap (λ t. m ∷ t) (assoc ms)

-- a log is a part of that with more appended
pub append_part : (xs log : List Id) → IsPart log (append_ids xs log)
append_part [] log = ([], refl)
append_part (x ∷ xs) log = part_more x log (append_ids xs (x ∷ log)) (append_part xs (x ∷ log))
