-- The choice of a set as it stands in the rules, and as a relation; and counts of votes.
use Rattle.std.specs.Prelude.{◌≡◌, ℕ, zero, suc, ◌≤◌, ◌+◌, ◌==◌, ◌&&◌, Bool, true, false, not, List, [], ◌∷◌, length, count_by, cond, refl}
use Rattle.std.proofs.Common.{sym, ap, subst, inl, inr, arith, eqb-true}
use Rattle.std.proofs.lemmas.Bool.{or_cases, or_left, or_right}
use Rattle.std.proofs.lemmas.List.Sums.{sum_by-cons}
use Rattle.bracha_validation.specs.Votes.{votes, some_set}
use Rattle.bracha_validation.specs.Picks.{IsPick, PassingSet}

one_more_choice : (ys : List ℕ) (v : ℕ) (vs : List ℕ) → IsPick ys vs → IsPick ys (v ∷ vs)
one_more_choice [] v vs pick = tt
one_more_choice (y ∷ ys) v vs pick = inr pick

pub picked : (test : List ℕ → Bool) (m : ℕ) (vs : List ℕ) → some_set test m vs ≡ true → PassingSet test m vs
picked test zero vs q = record { set = []; pick = tt; size = refl; passes = q }
picked test (suc m) [] q = absurd cc
picked test (suc m) (v ∷ vs) q =
    elim (or_cases _ _ q) [
      | inl here ↦
          let g = picked (λ ys. test (v ∷ ys)) m vs here in
          record { set = v ∷ g.set; pick = inl (refl, g.pick); size = ap suc g.size; passes = g.passes }
      | inr there ↦
          let g = picked test (suc m) vs there in
          record { set = g.set; pick = one_more_choice g.set v vs g.pick; size = g.size; passes = g.passes }
    ]

pick_passes : (test : List ℕ → Bool) (ys vs : List ℕ) → IsPick ys vs → test ys ≡ true → some_set test (length ys) vs ≡ true
pick_passes test [] vs pick q = q
pick_passes test (y ∷ ys) [] pick q = absurd pick
pick_passes test (y ∷ ys) (v ∷ vs) (inl here) q =
    or_left _ _ (pick_passes (λ l. test (v ∷ l)) ys vs here.1 (subst (λ (x : ℕ). test (x ∷ ys) ≡ true) here.0 q))
pick_passes test (y ∷ ys) (v ∷ vs) (inr there) q = or_right _ _ (pick_passes test (y ∷ ys) vs there q)

pub set_passes : (test : List ℕ → Bool) (m : ℕ) (vs : List ℕ) → PassingSet test m vs → some_set test m vs ≡ true
set_passes test m vs g = subst (λ (k : ℕ). some_set test k vs ≡ true) g.size (pick_passes test g.set vs g.pick g.passes)

-- ---- counts

-- one more vote
pub one_more : (s : ℕ → Bool) (x : ℕ) (xs : List ℕ) → count_by s (x ∷ xs) ≡ cond (s x) 1 0 + count_by s xs
one_more s x xs = sum_by-cons (λ y. cond (s y) 1 0) x xs

-- of each kind a set has no more votes than there are
pub fewer : (s : ℕ → Bool) (ys vs : List ℕ) → IsPick ys vs → count_by s ys ≤ count_by s vs
fewer s [] vs pick = omega arith
fewer s (y ∷ ys) [] pick = absurd pick
fewer s (y ∷ ys) (v ∷ vs) (inl here) =
    let a = one_more s v ys in let b = one_more s v vs in
    subst (λ (x : ℕ). count_by s (x ∷ ys) ≤ count_by s (v ∷ vs)) (sym here.0) (omega (arith, a, b, fewer s ys vs here.1))
fewer s (y ∷ ys) (v ∷ vs) (inr there) =
    let b = one_more s v vs in
    omega (arith, b, fewer s (y ∷ ys) vs there)

-- votes that are no bit
abbrev pub no_bit : ℕ → Bool
no_bit x = not (x == 0) && not (x == 1)

-- a bit or no bit
pub length_three : (xs : List ℕ) → length xs ≡ votes 0 xs + votes 1 xs + count_by no_bit xs
length_three [] = refl
length_three (x ∷ xs) = go (x == 0) (x == 1) refl refl (one_more (λ y. y == 0) x xs) (one_more (λ y. y == 1) x xs) (one_more no_bit x xs) (length_three xs)
  where
    go : (a b : Bool) → (x == 0) ≡ a → (x == 1) ≡ b
        → votes 0 (x ∷ xs) ≡ cond a 1 0 + votes 0 xs → votes 1 (x ∷ xs) ≡ cond b 1 0 + votes 1 xs
        → count_by no_bit (x ∷ xs) ≡ cond (not a && not b) 1 0 + count_by no_bit xs
        → length xs ≡ votes 0 xs + votes 1 xs + count_by no_bit xs → length (x ∷ xs) ≡ votes 0 (x ∷ xs) + votes 1 (x ∷ xs) + count_by no_bit (x ∷ xs)
    go true true p q a b c e = let l = eqb-true x 0 p in let m = eqb-true x 1 q in absurd (omega arith)
    go true false p q a b c e = omega arith
    go false true p q a b c e = omega arith
    go false false p q a b c e = omega arith
