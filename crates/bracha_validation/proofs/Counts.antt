-- Sets of votes by their counts.
use Rattle.std.proofs.Common.{◌≡◌, ℕ, zero, suc, ◌+◌, ◌*◌, ◌<◌, ◌≤◌, Bool, true, ◌==◌, List, [], ◌∷◌, ◌++◌, replicate, length, cond, ◌∙◌, ap, arith, ne_eqb}
use Rattle.std.proofs.lemmas.Bool.{or_left, or_right}
use Rattle.std.proofs.lemmas.List.{length-append, length-replicate}
use Rattle.std.proofs.lemmas.List.Folds.{sum_by-replicate}
use Rattle.std.proofs.lemmas.List.Sums.{sum_by-append}
use Rattle.ritas_base.specs.Quorums.{count_no}
use Rattle.bracha_validation.specs.declared.tally.Tally.{Tally}
use Rattle.bracha_validation.specs.Votes.{votes, some_set}
use Rattle.bracha_validation.specs.Tallies.{vote_count, tally_votes, IsTally}
use Rattle.bracha_validation.specs.PickLaws.{picked, one_more, fewer, no_bit, length_three}

-- a set of m votes that passes has no more votes of each value than there are
pub record FoundSet (test : List ℕ → Bool) (m z o u : ℕ) : Type 0 where
  pub set : List ℕ
  pub zeros : votes 0 set ≤ z
  pub ones : votes 1 set ≤ o
  pub bits : votes 0 set + votes 1 set ≤ length set
  pub nones : length set ≤ votes 0 set + votes 1 set + u
  pub size : length set ≡ m
  pub passes : test set ≡ true

pub set_found : (test : List ℕ → Bool) (m : ℕ) (t : Tally) (vs : List ℕ) → IsTally t vs → some_set test m vs ≡ true
    → FoundSet test m t.zeros t.ones t.nones
set_found test m t vs tally q =
    let g = picked test m vs q in
    let tz = tally.zeros in let to = tally.ones in let ta = tally.all in
    let a = fewer (λ x. x == 0) g.set vs g.pick in
    let b = fewer (λ x. x == 1) g.set vs g.pick in
    let c = fewer no_bit g.set vs g.pick in
    let s = length_three vs in
    let r = length_three g.set in
    record { set = g.set; zeros = omega arith; ones = omega arith; bits = omega arith; nones = omega arith; size = g.size; passes = g.passes }

-- the test passes all lists of these counts
abbrev pub PassesAll : (List ℕ → Bool) → ℕ → ℕ → ℕ → Type 0
PassesAll test z o u = (ys : List ℕ) → votes 0 ys ≡ z → votes 1 ys ≡ o → length ys ≡ z + o + u → test ys ≡ true

-- a set of given counts is there where there are as many, and it passes where all lists of these counts do
pub set_made : (test : List ℕ → Bool) (m : ℕ) (xs : List ℕ) (z o u : ℕ) → m ≡ z + o + u → z ≤ votes 0 xs → o ≤ votes 1 xs → u ≤ votes 2 xs
    → PassesAll test z o u → some_set test m xs ≡ true
set_made test zero xs z o u e a b c all = all [] (omega arith) (omega arith) (omega arith)
set_made test (suc m) [] z o u e a b c all = absurd (omega arith)
set_made test (suc m) (zero ∷ xs) (suc z) o u e a b c all =
    let s = one_more (λ y. y == 0) 0 xs in let t = one_more (λ y. y == 1) 0 xs in let r = one_more (λ y. y == 2) 0 xs in
    or_left _ _ (set_made (λ ys. test (zero ∷ ys)) m xs z o u (omega arith) (omega arith) (omega arith) (omega arith)
    (λ ys p q l. all (zero ∷ ys) (omega (arith, p, one_more (λ y. y == 0) 0 ys)) (omega (arith, q, one_more (λ y. y == 1) 0 ys)) (omega (arith, l))))
set_made test (suc m) (zero ∷ xs) zero o u e a b c all =
    let t = one_more (λ y. y == 1) 0 xs in let r = one_more (λ y. y == 2) 0 xs in
    or_right _ _ (set_made test (suc m) xs zero o u e (omega arith) (omega arith) (omega arith) all)
set_made test (suc m) (suc zero ∷ xs) z (suc o) u e a b c all =
    let s = one_more (λ y. y == 0) 1 xs in let t = one_more (λ y. y == 1) 1 xs in let r = one_more (λ y. y == 2) 1 xs in
    or_left _ _ (set_made (λ ys. test (suc zero ∷ ys)) m xs z o u (omega arith) (omega arith) (omega arith) (omega arith)
    (λ ys p q l. all (suc zero ∷ ys) (omega (arith, p, one_more (λ y. y == 0) 1 ys)) (omega (arith, q, one_more (λ y. y == 1) 1 ys)) (omega (arith, l))))
set_made test (suc m) (suc zero ∷ xs) z zero u e a b c all =
    let s = one_more (λ y. y == 0) 1 xs in let r = one_more (λ y. y == 2) 1 xs in
    or_right _ _ (set_made test (suc m) xs z zero u e (omega arith) (omega arith) (omega arith) all)
set_made test (suc m) (suc (suc zero) ∷ xs) z o (suc u) e a b c all =
    let s = one_more (λ y. y == 0) 2 xs in let t = one_more (λ y. y == 1) 2 xs in let r = one_more (λ y. y == 2) 2 xs in
    or_left _ _ (set_made (λ ys. test (suc (suc zero) ∷ ys)) m xs z o u (omega arith) (omega arith) (omega arith) (omega arith)
    (λ ys p q l. all (suc (suc zero) ∷ ys) (omega (arith, p, one_more (λ y. y == 0) 2 ys)) (omega (arith, q, one_more (λ y. y == 1) 2 ys)) (omega (arith, l))))
set_made test (suc m) (suc (suc zero) ∷ xs) z o zero e a b c all =
    let s = one_more (λ y. y == 0) 2 xs in let t = one_more (λ y. y == 1) 2 xs in
    or_right _ _ (set_made test (suc m) xs z o zero e (omega arith) (omega arith) (omega arith) all)
set_made test (suc m) (suc (suc (suc x)) ∷ xs) z o u e a b c all =
    or_right _ _ (set_made test (suc m) xs z o u e (without 0 z a (omega arith)) (without 1 o b (omega arith)) (without 2 u c (omega arith)) all)
  where
    without : (v w : ℕ) → w ≤ votes v (suc (suc (suc x)) ∷ xs) → v < 3 → w ≤ votes v xs
    without v w l h =
        let n = count_no (λ y. y == v) (suc (suc (suc x))) xs (ne_eqb (suc (suc (suc x))) v (λ d. absurd (omega arith))) in
        omega (arith, n, l)

-- ---- the votes of a tally

count_copies : (v n x : ℕ) → votes v (replicate n x) ≡ n * cond (x == v) 1 0
count_copies v n x = sum_by-replicate (λ y. cond (y == v) 1 0) n x

count_both : (v : ℕ) (xs ys : List ℕ) → votes v (xs ++ ys) ≡ votes v xs + votes v ys
count_both v xs ys = sum_by-append (λ y. cond (y == v) 1 0) xs ys

count_tally : (v : ℕ) (t : Tally) → votes v (tally_votes t) ≡ votes v (replicate t.zeros 0) + votes v (replicate t.ones 1) + votes v (replicate t.nones 2)
count_tally v t =
    count_both v (replicate t.zeros 0 ++ replicate t.ones 1) (replicate t.nones 2)
    ∙ ap (λ (k : ℕ). k + votes v (replicate t.nones 2)) (count_both v (replicate t.zeros 0) (replicate t.ones 1))

length_three_parts : (xs ys zs : List ℕ) → length (xs ++ ys ++ zs) ≡ length xs + length ys + length zs
length_three_parts xs ys zs = omega (arith, length-append (xs ++ ys) zs, length-append xs ys)

length_copies : (n x : ℕ) → length (replicate n x) ≡ n
length_copies n x = length-replicate n x

length_tally : (t : Tally) → length (tally_votes t) ≡ vote_count t
length_tally t =
    let a = length_three_parts (replicate t.zeros 0) (replicate t.ones 1) (replicate t.nones 2) in
    omega (arith, a, length_copies t.zeros 0, length_copies t.ones 1, length_copies t.nones 2)

pub tally_is : (t : Tally) → IsTally t (tally_votes t)
tally_is t = record {
  zeros = omega (arith, count_tally 0 t, count_copies 0 t.zeros 0, count_copies 0 t.ones 1, count_copies 0 t.nones 2);
  ones = omega (arith, count_tally 1 t, count_copies 1 t.zeros 0, count_copies 1 t.ones 1, count_copies 1 t.nones 2);
  nones = omega (arith, count_tally 2 t, count_copies 2 t.zeros 0, count_copies 2 t.ones 1, count_copies 2 t.nones 2);
  all = length_tally t;
}
