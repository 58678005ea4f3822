-- What two correct replicas decided in an instance inside vector consensus is equal.
use Rattle.std.specs.Prelude.{◌≡◌, ℕ, suc, Bool, true, ◌==◌, ◌&&◌, nat_le, List, Some}
use Rattle.std.proofs.Common.{sym, ◌∙◌, ap, subst, inl, inr}
use Rattle.ritas_base.specs.declared.slot.Slot.{Slot}
use Rattle.layer_api.specs.Runs.{ReplicaStep, calls_of, IsEnough}
use Rattle.layer_api.specs.Service.{Instance, OfBit, OfValue, OfVector, Decision, Value}
use Rattle.layer_api.specs.DecisionLaws.{if_so, decided_vector}
use Rattle.layer_api.specs.Words.{Word}
use Rattle.layer_api.specs.Fed.{IsFedRun}
use Rattle.layer_api.specs.Multi.{Scope, Desk, desk_at, MultiRules, MultiLaws, OneDecision}
use Rattle.layer_api.specs.Vectors.{HasVectors, vector_play}
use Rattle.vector_consensus.specs.Consensus.{try_scope, try_desk, failed_below, vector_decided_below, try_words, try_inside, vectors}
use Rattle.vector_consensus.specs.Laws.Tries.{try_run, try_fed, try_calls}
use Rattle.vector_consensus.specs.Laws.Agreement.{agree}
use Rattle.vector_consensus.specs.Laws.LastAttempt.{unspent}

module _ (m : MultiRules) (laws : MultiLaws m) (one : OneDecision m) (at : Scope) (is_correct : ℕ → Bool) (coins : ℕ → Slot → Bool) (xs : List (ReplicaStep Word))
    (enough : IsEnough at.numbers is_correct) (has : HasVectors at) (fed : IsFedRun (vector_play (vectors m) at coins) is_correct xs) where
  abbrev here : ℕ → Desk
  here i = desk_at at coins i

  -- what an instance inside an attempt decided, it decided in the attempt's run
  pub inside_run : (a k i : ℕ) (x : Instance) (d : Decision) → try_inside m (here i) (calls_of i xs) a k x ≡ Some d
      → m.inside (desk_at (try_scope at k) coins i) (calls_of i (try_run m laws at enough.session has coins k xs)) x ≡ Some d
  inside_run a k i x d q =
      subst (λ (w : List Word). m.inside (try_desk (here i) k) w x ≡ Some d) (sym (try_calls m laws at enough.session has coins k i xs))
      (if_so (a == at.a && nat_le k at.numbers.f) (m.inside (try_desk (here i) k) (try_words m (here i) k (calls_of i xs)) x) d q)

  same_try : (a k i j : ℕ) (x : Instance) (d e : Decision) → is_correct i ≡ true → is_correct j ≡ true
      → try_inside m (here i) (calls_of i xs) a k x ≡ Some d → try_inside m (here j) (calls_of j xs) a k x ≡ Some e → d ≡ e
  same_try a k i j x d e ci cj q r =
      one.insides (try_scope at k) is_correct coins (try_run m laws at enough.session has coins k xs) enough
      (try_fed m laws at enough.session has coins is_correct k xs fed) i j x d e ci cj (inside_run a k i x d q) (inside_run a k j x e r)

  -- what is decided is a vector, since no correct replica's attempts are spent
  pub is_vector : (i : ℕ) (a : ℕ) (d : Decision) → is_correct i ≡ true → (vectors m).inside (here i) (calls_of i xs) (OfVector a) ≡ Some d
      → (v : List ℕ) × ((vectors m).decision (here i) (calls_of i xs) ≡ Some v) × (d ≡ Value v)
  is_vector i a d ci q =
      let last : ℕ = suc at.numbers.f in
      elim (decided_vector (vector_decided_below m (here i) last (calls_of i xs)) (failed_below m (here i) last (calls_of i xs)) d (if_so (a == at.a) _ d q)) [
        | inl x ↦ x
        | inr x ↦ absurd (unspent m laws one at is_correct coins xs enough has fed i ci x.0)
      ]

  pub same_inside : (i j : ℕ) (x : Instance) (d e : Decision) → is_correct i ≡ true → is_correct j ≡ true
      → (vectors m).inside (here i) (calls_of i xs) x ≡ Some d → (vectors m).inside (here j) (calls_of j xs) x ≡ Some e → d ≡ e
  same_inside i j (OfBit a k) d e ci cj q r = same_try a k i j (OfBit a k) d e ci cj q r
  same_inside i j (OfValue a k) d e ci cj q r = same_try a k i j (OfValue a k) d e ci cj q r
  same_inside i j (OfVector a) d e ci cj q r =
      let x = is_vector i a d ci q in
      let y = is_vector j a e cj r in
      x.2 ∙ (ap Value (agree m laws one at is_correct coins xs enough has fed i j x.0 y.0 ci cj x.1 y.1) ∙ sym y.2)
