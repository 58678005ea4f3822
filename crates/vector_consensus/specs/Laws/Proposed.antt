-- What a correct replica decided in an instance inside, this one among them, was proposed to it by correct replicas.
use Rattle.std.specs.Prelude.{◌≡◌, ℕ, zero, suc, ◌<◌, ◌≤◌, Bool, true, ◌==◌, ◌&&◌, nat_le, List, ◌∷◌, Some}
use Rattle.std.proofs.Common.{sym, ◌∙◌, ap, subst, inl, inr, arith}
use Rattle.std.proofs.lemmas.Bool.{and_parts, eqb-true, leb-true, cases_order}
use Rattle.ritas_base.specs.declared.slot.Slot.{Slot}
use Rattle.ritas_base.specs.declared.item.Say.{Say}
use Rattle.frame_codec.specs.Values.{entry_at_place}
use Rattle.layer_api.specs.Runs.{ReplicaStep, calls_of, IsEnough}
use Rattle.layer_api.specs.Words.{Word, HasSay}
use Rattle.layer_api.specs.Service.{Instance, OfBit, OfValue, OfVector, Decision, Bit, Value}
use Rattle.layer_api.specs.Fed.{IsFedRun}
use Rattle.layer_api.specs.FedLaws.{say_earlier, say_later}
use Rattle.layer_api.specs.Part.{proposed, newly, part_of, says_in}
use Rattle.layer_api.specs.Proposals.{Proposal, SaidProposal, IsProposed, proposal_slot}
use Rattle.layer_api.specs.ProposalLaws.{part_said, proposed_as}
use Rattle.layer_api.specs.Multi.{Scope, Desk, desk_at, MultiRules, MultiLaws, OneDecision, multi_play}
use Rattle.layer_api.specs.Vectors.{HasVectors, vector_play}
use Rattle.vector_consensus.specs.Consensus.{prop_slot, is_of_try, try_scope, try_desk, try_ask, try_words, try_inside, attempts_say_below, vectors}
use Rattle.vector_consensus.specs.Laws.Tries.{try_run, try_fed, try_calls}
use Rattle.vector_consensus.specs.Laws.Agreement.{if_true}
use Rattle.vector_consensus.specs.Laws.Entries.{entry_said}
use Rattle.vector_consensus.specs.Laws.SameInside.{inside_run, is_vector}

-- what one of the attempts below newly says is among what these newly say
below_says : (m : MultiRules) (at : Desk) (n k : ℕ) (w : List Word) (c : Word) (y : Say) → k < n
    → HasSay (says_in (m.says (try_desk at k)) (part_of (try_ask m at k) (is_of_try k) w c) (try_words m at k w)) y
    → HasSay (attempts_say_below m at n w c) y
below_says m at zero k w c y l h = absurd (omega (arith, l))
below_says m at (suc n) k w c y l h =
    elim (cases_order k n) [
      | inl same ↦
          say_later (attempts_say_below m at n w c) _ y
          (subst (λ (j : ℕ). HasSay (says_in (m.says (try_desk at j)) (part_of (try_ask m at j) (is_of_try j) w c) (try_words m at j w)) y) same h)
      | inr (inl less) ↦ say_earlier (attempts_say_below m at n w c) _ y (below_says m at n k w c y less h)
      | inr (inr more) ↦ absurd (omega (arith, l, more))
    ]

module _ (m : MultiRules) (laws : MultiLaws m) (one : OneDecision m) (at : Scope) (is_correct : ℕ → Bool) (coins : ℕ → Slot → Bool) (xs : List (ReplicaStep Word))
    (enough : IsEnough at.numbers is_correct) (has : HasVectors at) (fed : IsFedRun (vector_play (vectors m) at coins) is_correct xs) where
  abbrev saying : Proposal
  saying = SaidProposal (vector_play (vectors m) at coins) xs

  abbrev here : ℕ → Desk
  here i = desk_at at coins i

  -- what is said in the run of an attempt
  abbrev saying_try : ℕ → Proposal
  saying_try k = SaidProposal (multi_play m (try_scope at k) coins) (try_run m laws at enough.session has coins k xs)

  -- what a replica said in an attempt, it said
  tries_out : (k : ℕ) → k ≤ at.numbers.f → (j : ℕ) (x : Instance) (v : List ℕ) → saying_try k j x v → saying j x v
  tries_out k few j x v h =
      let y : Say = record { slot = proposal_slot x j; value = v } in
      part_said (try_ask m (here j) k) (is_of_try k) ((vectors m).says (here j)) (m.says (try_desk (here j) k))
      (λ c w z s.
      say_later (newly (prop_slot at j) (proposed w) (proposed (c ∷ w))) _ z
      (below_says m (here j) (suc at.numbers.f) k w c z (omega (arith, few)) s))
      (calls_of j xs) y
      (subst (λ (w : List Word). HasSay ((multi_play m (try_scope at k) coins).said j w) y) (try_calls m laws at enough.session has coins k j xs) h)

  -- so what is decided in an attempt was proposed
  try_proposed : (k : ℕ) → k ≤ at.numbers.f → (i : ℕ) → is_correct i ≡ true
      → IsProposed is_correct saying (m.inside (desk_at (try_scope at k) coins i) (calls_of i (try_run m laws at enough.session has coins k xs)))
  try_proposed k few i ci =
      proposed_as is_correct (saying_try k) saying (λ j x v cj h. tries_out k few j x v h) _
      (one.proposed (try_scope at k) is_correct coins (try_run m laws at enough.session has coins k xs) enough
      (try_fed m laws at enough.session has coins is_correct k xs fed) i ci)

  -- an instance that decided is of an attempt that there is
  of_few : (i a k : ℕ) (x : Instance) (d : Decision) → try_inside m (here i) (calls_of i xs) a k x ≡ Some d → k ≤ at.numbers.f
  of_few i a k x d q = leb-true k at.numbers.f (and_parts (a == at.a) _ (if_true (a == at.a && nat_le k at.numbers.f) _ d q).0).1

  pub inside_proposed : (i : ℕ) → is_correct i ≡ true → IsProposed is_correct saying ((vectors m).inside (here i) (calls_of i xs))
  inside_proposed i ci = record {
    bits = λ a k b q.
        (try_proposed k (of_few i a k (OfBit a k) (Bit b) q) i ci).bits a k b
        (inside_run m laws one at is_correct coins xs enough has fed a k i (OfBit a k) (Bit b) q);
    values = λ a k v q.
        (try_proposed k (of_few i a k (OfValue a k) (Value v) q) i ci).values a k v
        (inside_run m laws one at is_correct coins xs enough has fed a k i (OfValue a k) (Value v) q);
    entries = λ a k v e ck q r.
        let x = is_vector m laws one at is_correct coins xs enough has fed i a (Value v) ci q in
        let same : x.0 ≡ v = value_is x.0 v x.2 in
        subst (λ (b : ℕ). saying k (OfVector b) e) (sym (eqb-true a at.a (if_true (a == at.a) _ (Value v) q).0))
        (entry_said m laws one at is_correct coins xs enough has fed i k x.0 e ci ck x.1 (ap (λ (u : List ℕ). entry_at_place u k) same ∙ r));
  }
    where
      value_is : (u v : List ℕ) → Value v ≡ Value u → u ≡ v
      value_is u v e = cc
