-- What the rule of each step gives, in inequalities of counts.
use Rattle.std.specs.Prelude.{◌≡◌, ℕ, ◌+◌, ◌*◌, ◌<◌, ◌≤◌, Bool, true, false, ◌==◌, nat_le, nat_lt, if◌then◌else◌, List, length, Some, None, ◌⊎◌, refl}
use Rattle.std.proofs.Common.{inl, inr, sym, arith, eq-eqb, eqb-true}
use Rattle.std.proofs.lemmas.Bool.{leb-true, leb-false, ltb-true, ltb-false, le-leb}
use Rattle.ritas_base.specs.Numbers.{Numbers}
use Rattle.bracha_validation.specs.Votes.{votes, is_vote_given, gives}

-- the counts that let the rule of step 1 give v
abbrev pub FirstSays : List ℕ → ℕ → Type 0
FirstSays ys v = ((length ys < 2 * votes 1 ys) × (v ≡ 1)) ⊎ ((2 * votes 1 ys ≤ length ys) × (v ≡ 0))

-- those of step 2
abbrev pub SecondSays : Numbers → List ℕ → ℕ → Type 0
SecondSays p ys v =
    ((p.n < 2 * votes 0 ys) × (v ≡ 0))
    ⊎ ((2 * votes 0 ys ≤ p.n) × (p.n < 2 * votes 1 ys) × (v ≡ 1))
    ⊎ ((2 * votes 0 ys ≤ p.n) × (2 * votes 1 ys ≤ p.n) × (v ≡ 2))

-- those of step 3, where a coin gives both bits
abbrev pub ThirdSays : Numbers → List ℕ → ℕ → Type 0
ThirdSays p ys v =
    ((p.f < votes 0 ys) × (v ≡ 0))
    ⊎ ((votes 0 ys ≤ p.f) × (p.f < votes 1 ys) × (v ≡ 1))
    ⊎ ((votes 0 ys ≤ p.f) × (votes 1 ys ≤ p.f) × (v ≤ 1))

pub first_gives : (p : Numbers) (ys : List ℕ) (v : ℕ) → gives p 1 ys v ≡ true → FirstSays ys v
first_gives p ys v q = go (nat_lt (length ys) (2 * votes 1 ys)) refl q
  where
    go : (b : Bool) → nat_lt (length ys) (2 * votes 1 ys) ≡ b → ((if b then 1 else 0) == v) ≡ true → FirstSays ys v
    go true e q = inl (ltb-true _ _ e, sym (eqb-true 1 v q))
    go false e q = inr (ltb-false _ _ e, sym (eqb-true 0 v q))

pub second_gives : (p : Numbers) (ys : List ℕ) (v : ℕ) → gives p 2 ys v ≡ true → SecondSays p ys v
second_gives p ys v q = go (nat_lt p.n (2 * votes 0 ys)) (nat_lt p.n (2 * votes 1 ys)) refl refl q
  where
    go : (a b : Bool) → nat_lt p.n (2 * votes 0 ys) ≡ a → nat_lt p.n (2 * votes 1 ys) ≡ b
        → ((if a then 0 else (if b then 1 else 2)) == v) ≡ true → SecondSays p ys v
    go true b d e q = inl (ltb-true _ _ d, sym (eqb-true 0 v q))
    go false true d e q = inr (inl (ltb-false _ _ d, ltb-true _ _ e, sym (eqb-true 1 v q)))
    go false false d e q = inr (inr (ltb-false _ _ d, ltb-false _ _ e, sym (eqb-true 2 v q)))

pub third_gives : (p : Numbers) (ys : List ℕ) (v : ℕ) → gives p 3 ys v ≡ true → ThirdSays p ys v
third_gives p ys v q = go (nat_le (p.f + 1) (votes 0 ys)) (nat_le (p.f + 1) (votes 1 ys)) refl refl q
  where
    go : (a b : Bool) → nat_le (p.f + 1) (votes 0 ys) ≡ a → nat_le (p.f + 1) (votes 1 ys) ≡ b
        → is_vote_given (if a then Some 0 else (if b then Some 1 else None)) v ≡ true → ThirdSays p ys v
    go true b d e q = let l = leb-true _ _ d in inl (omega arith, sym (eqb-true 0 v q))
    go false true d e q = let l = leb-false _ _ d in let m = leb-true _ _ e in inr (inl (omega arith, omega arith, sym (eqb-true 1 v q)))
    go false false d e q = let l = leb-false _ _ d in let m = leb-false _ _ e in inr (inr (omega arith, omega arith, leb-true _ _ q))

pub first_may : (p : Numbers) (ys : List ℕ) (v : ℕ) → FirstSays ys v → gives p 1 ys v ≡ true
first_may p ys v h = go (nat_lt (length ys) (2 * votes 1 ys)) refl
  where
    go : (b : Bool) → nat_lt (length ys) (2 * votes 1 ys) ≡ b → ((if b then 1 else 0) == v) ≡ true
    go true e = let m = ltb-true _ _ e in eq-eqb 1 v (omega arith)
    go false e = let m = ltb-false _ _ e in eq-eqb 0 v (omega arith)

pub second_may : (p : Numbers) (ys : List ℕ) (v : ℕ) → SecondSays p ys v → gives p 2 ys v ≡ true
second_may p ys v h = go (nat_lt p.n (2 * votes 0 ys)) (nat_lt p.n (2 * votes 1 ys)) refl refl
  where
    go : (a b : Bool) → nat_lt p.n (2 * votes 0 ys) ≡ a → nat_lt p.n (2 * votes 1 ys) ≡ b → ((if a then 0 else (if b then 1 else 2)) == v) ≡ true
    go true b x y = let m = ltb-true _ _ x in eq-eqb 0 v (omega arith)
    go false true x y = let m = ltb-false _ _ x in let n = ltb-true _ _ y in eq-eqb 1 v (omega arith)
    go false false x y = let m = ltb-false _ _ x in let n = ltb-false _ _ y in eq-eqb 2 v (omega arith)

pub third_may : (p : Numbers) (ys : List ℕ) (v : ℕ) → ThirdSays p ys v → gives p 3 ys v ≡ true
third_may p ys v h = go (nat_le (p.f + 1) (votes 0 ys)) (nat_le (p.f + 1) (votes 1 ys)) refl refl
  where
    go : (a b : Bool) → nat_le (p.f + 1) (votes 0 ys) ≡ a → nat_le (p.f + 1) (votes 1 ys) ≡ b
        → is_vote_given (if a then Some 0 else (if b then Some 1 else None)) v ≡ true
    go true b x y = let m = leb-true _ _ x in eq-eqb 0 v (omega arith)
    go false true x y = let m = leb-false _ _ x in let n = leb-true _ _ y in eq-eqb 1 v (omega arith)
    go false false x y = let m = leb-false _ _ x in let n = leb-false _ _ y in le-leb v 1 (omega arith)

-- what a rule gives depends on these counts alone
pub gives_same : (p : Numbers) (step v : ℕ) (xs ys : List ℕ) → votes 0 xs ≡ votes 0 ys → votes 1 xs ≡ votes 1 ys → length xs ≡ length ys
    → gives p step xs v ≡ gives p step ys v
gives_same p step v xs ys z o l = rw (z, o, l)
