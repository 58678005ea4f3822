-- The law of one vector of vector consensus, over any multi-valued consensus with its laws.
use Rattle.std.specs.Prelude.{◌≡◌, ℕ, zero, suc, ◌<◌, Bool, true, false, if◌then◌else◌, List, Option, Some, None, option_map, refl}
use Rattle.std.proofs.Common.{sym, ap, subst, inl, inr, arith}
use Rattle.std.proofs.lemmas.Bool.{and_parts, cases_order}
use Rattle.std.proofs.lemmas.Option.{none-some}
use Rattle.ritas_base.specs.declared.slot.Slot.{Slot}
use Rattle.ritas_base.specs.Numbers.{IsSession}
use Rattle.ritas_base.specs.Shortest.{option_or_some}
use Rattle.layer_api.specs.Runs.{ReplicaStep, calls_of, IsEnough}
use Rattle.layer_api.specs.Words.{Word}
use Rattle.layer_api.specs.Fed.{IsFedRun}
use Rattle.layer_api.specs.Multi.{Scope, Desk, desk_at, MultiRules, MultiLaws, OneDecision}
use Rattle.layer_api.specs.Vectors.{HasVectors, vector_play}
use Rattle.std.specs.Option.{option_flatten}
use Rattle.vector_consensus.specs.Consensus.{try_scope, try_desk, is_none, failed_below, vector_decided_below, attempt_below, try_decides, vectors}
use Rattle.vector_consensus.specs.Laws.Tries.{try_run, try_fed, try_calls}

-- ---- attempts that failed, and that which decided

-- what tells that no value is decided, and which is
pub none_is : (o : Option (Option (List ℕ))) → is_none o ≡ true → o ≡ Some None
none_is None q = absurd cc
none_is (Some None) q = refl
none_is (Some (Some v)) q = absurd cc

pub value_is : (o : Option (Option (List ℕ))) (v : List ℕ) → option_flatten o ≡ Some v → o ≡ Some (Some v)
value_is None v q = absurd cc
value_is (Some o) v q = ap Some q

-- something is there only where the test passes
pub if_true : {X : Type 0} (c : Bool) (o : Option X) (x : X) → (if c then o else None) ≡ Some x → (c ≡ true) × (o ≡ Some x)
if_true true o x q = (refl, q)
if_true false o x q = absurd cc

-- where all attempts below one failed, each of them did
pub failed_each : (m : MultiRules) (at : Desk) (n : ℕ) (w : List Word) → failed_below m at n w ≡ true → (k : ℕ) → k < n → try_decides m at k w ≡ Some None
failed_each m at zero w q k l = absurd (omega (arith, l))
failed_each m at (suc n) w q k l =
    let x = and_parts (failed_below m at n w) _ q in
    elim (cases_order k n) [
      | inl same ↦ subst (λ (j : ℕ). try_decides m at j w ≡ Some None) (sym same) (none_is (try_decides m at n w) x.1)
      | inr (inl less) ↦ failed_each m at n w x.0 k less
      | inr (inr more) ↦ absurd (omega (arith, l, more))
    ]

-- a decision is that of an attempt, all before which failed
pub record IsDecidedBy (m : MultiRules) (at : Desk) (n : ℕ) (w : List Word) (v : List ℕ) : Type 0 where
  pub attempt : ℕ
  pub below : attempt < n
  pub failed : failed_below m at attempt w ≡ true
  pub decides : try_decides m at attempt w ≡ Some (Some v)

pub decided_by : (m : MultiRules) (at : Desk) (n : ℕ) (w : List Word) (v : List ℕ) → vector_decided_below m at n w ≡ Some v → IsDecidedBy m at n w v
decided_by m at zero w v q = absurd cc
decided_by m at (suc n) w v q =
    elim (option_or_some (vector_decided_below m at n w) (if failed_below m at n w then option_flatten (try_decides m at n w) else None) v q) [
      | inl a ↦
          let x = decided_by m at n w v a in
          let l = x.below in
          record { attempt = x.attempt; below = omega (arith, l); failed = x.failed; decides = x.decides }
      | inr b ↦
          let x = if_true (failed_below m at n w) (option_flatten (try_decides m at n w)) v b.1 in
          record { attempt = n; below = omega arith; failed = x.0; decides = value_is (try_decides m at n w) v x.1 }
    ]

-- and so is the attempt that is told
pub attempt_by : (m : MultiRules) (at : Desk) (n : ℕ) (w : List Word) (k : ℕ) → attempt_below m at n w ≡ Some k
    → (v : List ℕ) × (x : IsDecidedBy m at n w v) × (x.attempt ≡ k)
attempt_by m at zero w k q = absurd cc
attempt_by m at (suc n) w k q =
    elim (option_or_some (attempt_below m at n w) (if failed_below m at n w then option_map (λ v. n) (option_flatten (try_decides m at n w)) else None) k q) [
      | inl a ↦
          let y = attempt_by m at n w k a in
          let l = y.1.below in
          (y.0, record { attempt = y.1.attempt; below = omega (arith, l); failed = y.1.failed; decides = y.1.decides }, y.2)
      | inr b ↦
          let x = if_true (failed_below m at n w) (option_map (λ v. n) (option_flatten (try_decides m at n w))) k b.1 in
          let d = there (option_flatten (try_decides m at n w)) x.1 in
          (d.0, record { attempt = n; below = omega arith; failed = x.0; decides = value_is (try_decides m at n w) d.0 d.1 }, d.2)
    ]
  where
    there : (o : Option (List ℕ)) → option_map (λ v. n) o ≡ Some k → (v : List ℕ) × (o ≡ Some v) × (n ≡ k)
    there None e = absurd cc
    there (Some v) e = (v, refl, cc)

-- ---- a run

module _ (m : MultiRules) (laws : MultiLaws m) (one : OneDecision m) (at : Scope) (is_correct : ℕ → Bool) (coins : ℕ → Slot → Bool) (xs : List (ReplicaStep Word))
    (enough : IsEnough at.numbers is_correct) (has : HasVectors at) (fed : IsFedRun (vector_play (vectors m) at coins) is_correct xs) where
  abbrev pub desk_here : ℕ → Desk
  desk_here i = desk_at at coins i

  abbrev pub session : IsSession at.numbers
  session = enough.session

  -- what an attempt decided, its box decided in the attempt's run
  pub to_run : (k i : ℕ) (d : Option (List ℕ)) → try_decides m (desk_here i) k (calls_of i xs) ≡ Some d
      → m.decision (desk_at (try_scope at k) coins i) (calls_of i (try_run m laws at session has coins k xs)) ≡ Some d
  to_run k i d q = subst (λ (w : List Word). m.decision (try_desk (desk_here i) k) w ≡ Some d) (sym (try_calls m laws at session has coins k i xs)) q

  -- decisions of an attempt are equal
  pub same_try : (k i j : ℕ) (d e : Option (List ℕ)) → is_correct i ≡ true → is_correct j ≡ true
      → try_decides m (desk_here i) k (calls_of i xs) ≡ Some d → try_decides m (desk_here j) k (calls_of j xs) ≡ Some e → d ≡ e
  same_try k i j d e ci cj q r =
      one.agree (try_scope at k) is_correct coins (try_run m laws at session has coins k xs) enough (try_fed m laws at session has coins is_correct k xs fed) i j d e ci cj
      (to_run k i d q) (to_run k j e r)

  -- no attempt that decided a value here failed there
  not_failed : (i j : ℕ) (n : ℕ) (v : List ℕ) → is_correct i ≡ true → is_correct j ≡ true → (x : IsDecidedBy m (desk_here i) n (calls_of i xs) v)
      → (k : ℕ) → failed_below m (desk_here j) k (calls_of j xs) ≡ true → x.attempt < k → ⊥
  not_failed i j n v ci cj x k q l =
      none-some v (same_try x.attempt j i None (Some v) cj ci (failed_each m (desk_here j) k (calls_of j xs) q x.attempt l) x.decides)

  -- decisions are equal
  pub agree : (i j : ℕ) (v u : List ℕ) → is_correct i ≡ true → is_correct j ≡ true
      → (vectors m).decision (desk_here i) (calls_of i xs) ≡ Some v → (vectors m).decision (desk_here j) (calls_of j xs) ≡ Some u → v ≡ u
  agree i j v u ci cj q r =
      let x = decided_by m (desk_here i) (suc at.numbers.f) (calls_of i xs) v q in
      let y = decided_by m (desk_here j) (suc at.numbers.f) (calls_of j xs) u r in
      elim (cases_order x.attempt y.attempt) [
        | inl same ↦
            let there = subst (λ (k : ℕ). try_decides m (desk_here j) k (calls_of j xs) ≡ Some (Some u)) (sym same) y.decides in
            let e = same_try x.attempt i j (Some v) (Some u) ci cj x.decides there in
            cc
        | inr (inl less) ↦ absurd (not_failed i j (suc at.numbers.f) v ci cj x y.attempt y.failed less)
        | inr (inr more) ↦ absurd (not_failed j i (suc at.numbers.f) u cj ci y x.attempt x.failed more)
      ]

  -- and so are the attempts that decided them
  pub same_attempt : (i j : ℕ) (k l : ℕ) → is_correct i ≡ true → is_correct j ≡ true
      → (vectors m).attempt (desk_here i) (calls_of i xs) ≡ Some k → (vectors m).attempt (desk_here j) (calls_of j xs) ≡ Some l → k ≡ l
  same_attempt i j k l ci cj q r =
      let x = attempt_by m (desk_here i) (suc at.numbers.f) (calls_of i xs) k q in
      let y = attempt_by m (desk_here j) (suc at.numbers.f) (calls_of j xs) l r in
      elim (cases_order k l) [
        | inl same ↦ same
        | inr (inl less) ↦ absurd (not_failed i j (suc at.numbers.f) x.0 ci cj x.1 l (subst (λ (n : ℕ). failed_below m (desk_here j) n (calls_of j xs) ≡ true) y.2 y.1.failed) (let e = x.2 in omega (arith, less, e)))
        | inr (inr more) ↦ absurd (not_failed j i (suc at.numbers.f) y.0 cj ci y.1 k (subst (λ (n : ℕ). failed_below m (desk_here i) n (calls_of i xs) ≡ true) x.2 x.1.failed) (let e = y.2 in omega (arith, more, e)))
      ]
