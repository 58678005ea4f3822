-- What is accepted, by counts of votes.
use Rattle.std.specs.Prelude.{◌≡◌, ℕ, zero, suc, ◌+◌, ◌*◌, ◌%◌, ◌<◌, ◌≤◌, ◌==◌, Bool, true, false, not, if◌then◌else◌, List, [], ◌∷◌, length, count_by, Option, Some, None, cond, refl, ◌⊎◌}
use Rattle.std.proofs.Common.{sym, ◌∙◌, ap, subst, inl, inr, arith}
use Rattle.std.proofs.lemmas.Bool.{eqb-true}
use Rattle.ritas_base.specs.Numbers.{Numbers, wait_of}
use Rattle.ritas_base.specs.History.{replicas}
use Rattle.ritas_base.specs.Quorums.{count_yes, count_no}
use Rattle.layer_api.specs.Words.{bit_byte}
use Rattle.bracha_validation.specs.Votes.{votes, gives}
use Rattle.bracha_validation.specs.PickLaws.{picked, one_more, fewer}
use Rattle.bracha_validation.specs.RuleLaws.{FirstSays, SecondSays, ThirdSays, first_gives, second_gives, third_gives}
use Rattle.ritas_base.specs.Places.{push, listed}
use Rattle.binary_consensus.specs.Steps.{step_of, passed_vote, accepts}

-- a vote that passes is there
abbrev pub has_passing_vote : (ℕ → Bool) → Option ℕ → Bool
has_passing_vote test None = false
has_passing_vote test (Some v) = test v

-- how many of these origins have an accepted vote at a step that passes
abbrev pub count_accepted : Numbers → (ℕ → Bool) → (ℕ → ℕ → Option ℕ) → ℕ → ℕ
count_accepted p test votes t = count_by (λ k. has_passing_vote test (accepts p votes t k)) (replicas p.n)

abbrev pub is : ℕ → ℕ → Bool
is v x = x == v

pub count_listed : (test : ℕ → Bool) (a : ℕ → Option ℕ) (ks : List ℕ) → count_by test (listed a ks) ≡ count_by (λ k. has_passing_vote test (a k)) ks
count_listed test a [] = refl
count_listed test a (k ∷ ks) = go (a k) refl (count_listed test a ks)
  where
    go : (o : Option ℕ) → a k ≡ o → count_by test (listed a ks) ≡ count_by (λ k. has_passing_vote test (a k)) ks
        → count_by test (push o (listed a ks)) ≡ count_by (λ k. has_passing_vote test (a k)) (k ∷ ks)
    go None e ih = ih ∙ sym (count_no (λ k. has_passing_vote test (a k)) k ks (ap (has_passing_vote test) e))
    go (Some v) e ih =
        let here : has_passing_vote test (a k) ≡ test v = ap (has_passing_vote test) e in
        let left = one_more test v (listed a ks) in
        more (test v) here left
      where
        more : (b : Bool) → has_passing_vote test (a k) ≡ b → count_by test (v ∷ listed a ks) ≡ cond b 1 0 + count_by test (listed a ks)
            → count_by test (v ∷ listed a ks) ≡ count_by (λ k. has_passing_vote test (a k)) (k ∷ ks)
        more true h l = let r = count_yes (λ k. has_passing_vote test (a k)) k ks h in omega (arith, l, r, ih)
        more false h l = let r = count_no (λ k. has_passing_vote test (a k)) k ks h in omega (arith, l, r, ih)

pub holds_some : (test : ℕ → Bool) (o : Option ℕ) → has_passing_vote test o ≡ true → (v : ℕ) × (o ≡ Some v) × (test v ≡ true)
holds_some test None q = absurd cc
holds_some test (Some v) q = (v, refl, q)

pub holds_is : (o : Option ℕ) (v : ℕ) → has_passing_vote (is v) o ≡ true → o ≡ Some v
holds_is None v q = absurd cc
holds_is (Some u) v q = ap Some (eqb-true u v q)

pub passed_some : (test : ℕ → Bool) (o : Option ℕ) (v : ℕ) → passed_vote test o ≡ Some v → (o ≡ Some v) × (test v ≡ true)
passed_some test None v q = absurd cc
passed_some test (Some u) v q = go (test u) refl q
  where
    go : (b : Bool) → test u ≡ b → (if b then Some u else None) ≡ Some v → (Some u ≡ Some v) × (test v ≡ true)
    go true e q = let same : u ≡ v = cc in (q, subst (λ (w : ℕ). test w ≡ true) same e)
    go false e q = absurd cc

-- what is accepted was heard
pub accepts_heard : (p : Numbers) (votes : ℕ → ℕ → Option ℕ) (t k v : ℕ) → accepts p votes t k ≡ Some v → votes t k ≡ Some v
accepts_heard p votes zero k v q = q
accepts_heard p votes (suc t) k v q = (passed_some _ (votes (suc t) k) v q).0

-- an accepted vote follows from a set of exactly n - f of those of the step before
pub record FollowsVotes (p : Numbers) (heard : ℕ → ℕ → Option ℕ) (t v : ℕ) : Type 0 where
  pub set : List ℕ
  pub size : length set ≡ wait_of p
  pub given : gives p (step_of t) set v ≡ true
  pub within : (test : ℕ → Bool) → count_by test set ≤ count_accepted p test heard t

pub accepts_follows : (p : Numbers) (heard : ℕ → ℕ → Option ℕ) (t k v : ℕ) → accepts p heard (suc t) k ≡ Some v → FollowsVotes p heard t v
accepts_follows p heard t k v q =
    let h = (passed_some _ (heard (suc t) k) v q).1 in
    let g = picked (λ ys. gives p (step_of t) ys v) (wait_of p) (listed (accepts p heard t) (replicas p.n)) h in
    record {
      set = g.set;
      size = g.size;
      given = g.passes;
      within = λ test. let l = fewer test g.set (listed (accepts p heard t) (replicas p.n)) g.pick in
          let e = count_listed test (accepts p heard t) (replicas p.n) in omega (arith, l, e);
    }

-- ---- the steps of a round

pub step_next : (t : ℕ) → ((step_of t ≡ 1) × (step_of (suc t) ≡ 2)) ⊎ ((step_of t ≡ 2) × (step_of (suc t) ≡ 3)) ⊎ ((step_of t ≡ 3) × (step_of (suc t) ≡ 1))
step_next t = go (t % 3) refl
  where
    go : (r : ℕ) → t % 3 ≡ r → ((step_of t ≡ 1) × (step_of (suc t) ≡ 2)) ⊎ ((step_of t ≡ 2) × (step_of (suc t) ≡ 3)) ⊎ ((step_of t ≡ 3) × (step_of (suc t) ≡ 1))
    go zero e = inl (omega arith, omega arith)
    go (suc zero) e = inr (inl (omega arith, omega arith))
    go (suc (suc zero)) e = inr (inr (omega arith, omega arith))
    go (suc (suc (suc r))) e = absurd (omega arith)

pub third_follows_second : (t : ℕ) → step_of (suc t) ≡ 3 → step_of t ≡ 2
third_follows_second t e = omega arith

-- enough votes for a bit, and none for the other: the rule of each step gives that bit alone
pub all_give : (p : Numbers) → 3 * p.f < p.n → (t : ℕ) (b : Bool) (ys : List ℕ) (w : ℕ)
    → wait_of p ≤ votes (bit_byte b) ys → votes (bit_byte (not b)) ys ≡ 0 → length ys ≡ wait_of p → gives p (step_of t) ys w ≡ true → w ≡ bit_byte b
all_give p few t b ys w l m e q =
    elim (step_next t) [
      | inl s ↦ first b (first_gives p ys w (at_step 1 s.0)) l m
      | inr (inl s) ↦ second b (second_gives p ys w (at_step 2 s.0)) l m
      | inr (inr s) ↦ third b (third_gives p ys w (at_step 3 s.0)) l m
    ]
  where
    at_step : (s : ℕ) → step_of t ≡ s → gives p s ys w ≡ true
    at_step s e = subst (λ (s : ℕ). gives p s ys w ≡ true) e q

    first : (b : Bool) → FirstSays ys w → wait_of p ≤ votes (bit_byte b) ys → votes (bit_byte (not b)) ys ≡ 0 → w ≡ bit_byte b
    first true h l m = omega arith
    first false h l m = omega arith

    second : (b : Bool) → SecondSays p ys w → wait_of p ≤ votes (bit_byte b) ys → votes (bit_byte (not b)) ys ≡ 0 → w ≡ bit_byte b
    second true h l m = omega arith
    second false h l m = omega arith

    third : (b : Bool) → ThirdSays p ys w → wait_of p ≤ votes (bit_byte b) ys → votes (bit_byte (not b)) ys ≡ 0 → w ≡ bit_byte b
    third true h l m = omega arith
    third false h l m = omega arith
