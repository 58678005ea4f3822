-- From a decision on, all that is accepted is the decided bit. It is stated of views: the votes heard at each step from
-- each origin, where no two views have different votes at one place. No time occurs in it.
use Rattle.std.specs.Prelude.{◌≡◌, ℕ, zero, suc, ◌+◌, ◌*◌, ◌<◌, ◌≤◌, ◌==◌, Bool, true, false, not, List, [], ◌∷◌, length, count_by, Option, Some, cond, refl}
use Rattle.std.proofs.Common.{sym, ◌∙◌, subst, inl, inr, arith, eq-or-lt_of_le}
use Rattle.std.proofs.lemmas.Bool.{eqb-true, eq-eqb, cases_lt, cases_order}
use Rattle.std.proofs.lemmas.List.FromFn.{length-range_with_len}
use Rattle.ritas_base.specs.Numbers.{Numbers}
use Rattle.ritas_base.specs.History.{replicas}
use Rattle.ritas_base.specs.Quorums.{count_none, meet_two, some_member}
use Rattle.layer_api.specs.Words.{bit_byte}
use Rattle.bracha_validation.specs.Votes.{votes, gives}
use Rattle.bracha_validation.specs.PickLaws.{one_more}
use Rattle.bracha_validation.specs.RuleLaws.{ThirdSays, second_gives, third_gives}
use Rattle.binary_consensus.specs.Steps.{step_of, accepts}
use Rattle.binary_consensus.specs.Laws.Acceptance.{has_passing_vote, holds_some, holds_is, is, count_accepted, accepts_heard, accepts_follows, third_follows_second, all_give}

-- votes that pass a test, and those that don't
pub count_split : (test : ℕ → Bool) (vs : List ℕ) → length vs ≡ count_by test vs + count_by (λ x. not (test x)) vs
count_split test [] = refl
count_split test (v ∷ vs) = go (test v) (one_more test v vs) (one_more (λ x. not (test x)) v vs) (count_split test vs)
  where
    go : (b : Bool) → count_by test (v ∷ vs) ≡ cond b 1 0 + count_by test vs → count_by (λ x. not (test x)) (v ∷ vs) ≡ cond (not b) 1 0 + count_by (λ x. not (test x)) vs
        → length vs ≡ count_by test vs + count_by (λ x. not (test x)) vs → suc (length vs) ≡ count_by test (v ∷ vs) + count_by (λ x. not (test x)) (v ∷ vs)
    go true a b e = omega arith
    go false a b e = omega arith

not-true : (b : Bool) → not b ≡ true → b ≡ false
not-true true q = absurd cc
not-true false q = refl

-- no vote is both bits
apart_bits : (b : Bool) → bit_byte (not b) ≡ bit_byte b → ⊥
apart_bits true e = absurd (omega arith)
apart_bits false e = absurd (omega arith)

pub same_bit : (b d : Bool) → bit_byte b ≡ bit_byte d → b ≡ d
same_bit true true e = refl
same_bit false false e = refl
same_bit true false e = absurd (omega arith)
same_bit false true e = absurd (omega arith)

-- a vote that passes a test and is not v
abbrev pub is_not : ℕ → ℕ → Bool
is_not v x = not (x == v)

not_both : (v x : ℕ) → is v x ≡ true → is_not v x ≡ true → ⊥
not_both v x a b = let f = not-true (x == v) b in let z : true ≡ false = sym a ∙ f in absurd cc

-- what is heard at each step from each origin
abbrev pub HeardVotes : Type 0
HeardVotes = ℕ → ℕ → Option ℕ

module _ (p : Numbers) (few : 3 * p.f < p.n) (View : HeardVotes → Type 0)
    (one : (g h : HeardVotes) → View g → View h → (t k v u : ℕ) → g t k ≡ Some v → h t k ≡ Some u → v ≡ u) where
  -- every vote that is accepted at step t is v
  abbrev pub IsLocked : ℕ → ℕ → Type 0
  IsLocked t v = (g : HeardVotes) → View g → (k w : ℕ) → accepts p g t k ≡ Some w → w ≡ v

  -- tests that no vote passes both have at most n origins in sum, also in two views
  meet : (g h : HeardVotes) → View g → View h → (t : ℕ) (s r : ℕ → Bool) → ((v : ℕ) → s v ≡ true → r v ≡ true → ⊥)
      → count_accepted p s g t + count_accepted p r h t ≤ p.n
  meet g h vg vh t s r none =
      elim (cases_lt p.n (count_accepted p s g t + count_accepted p r h t)) [
        | inl more ↦
            let size = length-range_with_len 0 p.n in
            let m = meet_two (λ k. has_passing_vote s (accepts p g t k)) (λ k. has_passing_vote r (accepts p h t k)) (replicas p.n) (omega (arith, more, size)) in
            let x = holds_some s (accepts p g t m.member) m.first in
            let y = holds_some r (accepts p h t m.member) m.second in
            let same : x.0 ≡ y.0 = one g h vg vh t m.member x.0 y.0 (accepts_heard p g t m.member x.0 x.1) (accepts_heard p h t m.member y.0 y.1) in
            absurd (none x.0 x.2 (subst (λ (v : ℕ). r v ≡ true) (sym same) y.2))
        | inr few ↦ few
      ]

  -- no two third steps of one round are for different bits
  one_mark : (t : ℕ) → step_of t ≡ 2 → (g h : HeardVotes) → View g → View h → (k l : ℕ)
      → accepts p g (suc t) k ≡ Some 0 → accepts p h (suc t) l ≡ Some 1 → ⊥
  one_mark t e g h vg vh k l a b =
      let x = accepts_follows p g t k 0 a in
      let y = accepts_follows p h t l 1 b in
      let m = second_gives p x.set 0 (subst (λ (s : ℕ). gives p s x.set 0 ≡ true) e x.given) in
      let n = second_gives p y.set 1 (subst (λ (s : ℕ). gives p s y.set 1 ≡ true) e y.given) in
      let i = x.within (is 0) in
      let j = y.within (is 1) in
      let both = meet g h vg vh t (is 0) (is 1) (λ v c d. let z = eqb-true v 0 c in let o = eqb-true v 1 d in absurd (omega arith)) in
      absurd (omega arith)

  one_bit : (t : ℕ) → step_of t ≡ 2 → (g h : HeardVotes) → View g → View h → (k l : ℕ) (b : Bool)
      → accepts p g (suc t) k ≡ Some (bit_byte b) → accepts p h (suc t) l ≡ Some (bit_byte (not b)) → ⊥
  one_bit t e g h vg vh k l false x y = one_mark t e g h vg vh k l x y
  one_bit t e g h vg vh k l true x y = one_mark t e h g vh vg l k y x

  locked_next : (t : ℕ) (b : Bool) → IsLocked t (bit_byte b) → IsLocked (suc t) (bit_byte b)
  locked_next t b locked g vg k w q =
      let y = accepts_follows p g t k w q in
      let none = count_none (λ k. has_passing_vote (is (bit_byte (not b))) (accepts p g t k)) (replicas p.n)
      (λ l h. apart_bits b (locked g vg l (bit_byte (not b)) (holds_is (accepts p g t l) (bit_byte (not b)) h))) in
      let others = count_none (λ k. has_passing_vote (is_not (bit_byte b)) (accepts p g t k)) (replicas p.n)
      (λ l h. let x = holds_some (is_not (bit_byte b)) (accepts p g t l) h in
      not_both (bit_byte b) x.0 (eq-eqb x.0 (bit_byte b) (locked g vg l x.0 x.1)) x.2) in
      let z = y.within (is (bit_byte (not b))) in
      let o = y.within (is_not (bit_byte b)) in
      let s = count_split (is (bit_byte b)) y.set in
      let e = y.size in
      all_give p few t b y.set w (omega (arith, others, o, s, e)) (omega (arith, none, z)) y.size y.given

  locked_later : (t : ℕ) (b : Bool) → IsLocked t (bit_byte b) → (s : ℕ) → t ≤ s → IsLocked s (bit_byte b)
  locked_later t b locked zero l = let e : t ≡ 0 = omega arith in subst (λ (m : ℕ). IsLocked m (bit_byte b)) e locked
  locked_later t b locked (suc s) l =
      elim (eq-or-lt_of_le l) [
        | inl e ↦ subst (λ (m : ℕ). IsLocked m (bit_byte b)) e locked
        | inr m ↦ locked_next s b (locked_later t b locked s (omega arith))
      ]

  -- 2f + 1 accepted third steps for a bit in one view
  pub record IsDecision (b : Bool) (t : ℕ) (g : HeardVotes) : Type 0 where
    pub third : step_of t ≡ 3
    pub view : View g
    pub many : 2 * p.f + 1 ≤ count_accepted p (is (bit_byte b)) g t

  -- they lock it
  decision_locks : (t : ℕ) (b : Bool) (g : HeardVotes) → IsDecision b t g → IsLocked (suc t) (bit_byte b)
  decision_locks zero b g d h vh k w q = absurd (let z = d.third in omega (arith, z))
  decision_locks (suc t) b g d h vh k w q =
      let m = d.many in
      let e : step_of t ≡ 2 = third_follows_second t d.third in
      let y = accepts_follows p h (suc t) k w q in
      let some = some_member (λ k. has_passing_vote (is (bit_byte b)) (accepts p g (suc t) k)) (replicas p.n) (omega (arith, m)) in
      let none = count_none (λ k. has_passing_vote (is (bit_byte (not b))) (accepts p h (suc t) k)) (replicas p.n)
      (λ l x. one_bit t e g h d.view vh some.0 l b (holds_is _ (bit_byte b) some.1) (holds_is _ (bit_byte (not b)) x)) in
      let both = meet g h d.view vh (suc t) (is (bit_byte b)) (is_not (bit_byte b)) (λ v x y. not_both (bit_byte b) v x y) in
      let z = y.within (is (bit_byte (not b))) in
      let o = y.within (is_not (bit_byte b)) in
      let s = count_split (is (bit_byte b)) y.set in
      let n = y.size in
      last b y.set w (third_gives p y.set w (subst (λ (s : ℕ). gives p s y.set w ≡ true) d.third y.given)) (omega (arith, m, both, o, s, n, few)) (omega (arith, none, z))
    where
      last : (b : Bool) (ys : List ℕ) (w : ℕ) → ThirdSays p ys w → p.f < votes (bit_byte b) ys → votes (bit_byte (not b)) ys ≡ 0 → w ≡ bit_byte b
      last true ys w v l o = omega arith
      last false ys w v l o = omega arith

  -- a locked bit is the only one that is decided
  pub locked_decides : (t s : ℕ) (b d : Bool) (h : HeardVotes) → IsLocked t (bit_byte b) → t ≤ s → IsDecision d s h → bit_byte d ≡ bit_byte b
  locked_decides t s b d h locked l x =
      let m = x.many in
      let some = some_member (λ k. has_passing_vote (is (bit_byte d)) (accepts p h s k)) (replicas p.n) (omega (arith, m)) in
      locked_later t b locked s l h x.view some.0 (bit_byte d) (holds_is _ (bit_byte d) some.1)

  same_bits : (t : ℕ) → step_of t ≡ 2 → (g h : HeardVotes) → View g → View h → (k l : ℕ) (b d : Bool)
      → accepts p g (suc t) k ≡ Some (bit_byte b) → accepts p h (suc t) l ≡ Some (bit_byte d) → b ≡ d
  same_bits t e g h vg vh k l true true x y = refl
  same_bits t e g h vg vh k l false false x y = refl
  same_bits t e g h vg vh k l true false x y = absurd (one_mark t e h g vh vg l k y x)
  same_bits t e g h vg vh k l false true x y = absurd (one_mark t e g h vg vh k l x y)

  pub same_round : (t : ℕ) (b d : Bool) (g h : HeardVotes) → IsDecision b t g → IsDecision d t h → b ≡ d
  same_round zero b d g h x y = absurd (let z = x.third in omega (arith, z))
  same_round (suc t) b d g h x y =
      let l = x.many in
      let m = y.many in
      let u = some_member (λ k. has_passing_vote (is (bit_byte b)) (accepts p g (suc t) k)) (replicas p.n) (omega (arith, l)) in
      let v = some_member (λ k. has_passing_vote (is (bit_byte d)) (accepts p h (suc t) k)) (replicas p.n) (omega (arith, m)) in
      same_bits t (third_follows_second t x.third) g h x.view y.view u.0 v.0 b d (holds_is _ (bit_byte b) u.1) (holds_is _ (bit_byte d) v.1)

  pub agree : (t s : ℕ) (b d : Bool) (g h : HeardVotes) → IsDecision b t g → IsDecision d s h → b ≡ d
  agree t s b d g h x y =
      elim (cases_order t s) [
        | inl e ↦ same_round t b d g h x (subst (λ (r : ℕ). IsDecision d r h) (sym e) y)
        | inr (inl l) ↦ sym (same_bit d b (locked_decides (suc t) s b d h (decision_locks t b g x) (omega (arith, l)) y))
        | inr (inr l) ↦ same_bit b d (locked_decides (suc s) t d b g (decision_locks s d h y) (omega (arith, l)) x)
      ]
