-- What a correct replica decided in an instance inside, the multi-valued one among them, was proposed to it by a correct replica.
use Rattle.std.specs.Prelude.{◌≡◌, ℕ, Bool, true, false, ◌==◌, ◌&&◌, if◌then◌else◌, List, [], ◌∷◌, Option, Some, None, refl}
use Rattle.std.proofs.Common.{sym, ◌∙◌, ap, subst}
use Rattle.std.proofs.lemmas.Bool.{and_parts, eqb-true}
use Rattle.ritas_base.specs.declared.slot.Slot.{Slot}
use Rattle.ritas_base.specs.declared.item.Say.{Say}
use Rattle.layer_api.specs.Runs.{ReplicaStep, calls_of, IsEnough}
use Rattle.layer_api.specs.Words.{Word, HasSay, bit_byte}
use Rattle.layer_api.specs.Service.{Instance, OfBit, OfValue, Decision, Bit, Value, value_decision}
use Rattle.layer_api.specs.DecisionLaws.{same_value}
use Rattle.layer_api.specs.Binary.{BinaryRules, BoxLaws, OneBit, bits_said}
use Rattle.layer_api.specs.Fed.{IsFedRun}
use Rattle.layer_api.specs.FedLaws.{say_later}
use Rattle.layer_api.specs.Part.{proposed, newly}
use Rattle.layer_api.specs.Proposals.{Proposal, SaidProposal, SomeProposed, IsProposed, proposal_slot}
use Rattle.layer_api.specs.ProposalLaws.{part_said}
use Rattle.layer_api.specs.Multi.{Scope, multi_play}
use Rattle.multivalued.specs.Consensus.{init_slot, vect_slot, own_vect, bench_of, is_step, bit_asked, bit_words, multivalued}
use Rattle.multivalued.specs.Laws.Inside.{multi_box_play, multi_desk, bit_run, bit_fed, bit_calls}
use Rattle.multivalued.specs.Laws.Agreement.{bit_decided, inner_decided, mapped_in, value_said}

-- a bit is no other
same_bit : (x y : Bool) → Bit x ≡ Bit y → y ≡ x
same_bit x y e = cc

-- what is decided only in this instance is of its round and attempt
own_if : (a t b k : ℕ) (o : Option Decision) (d : Decision) → (if a == b && t == k then o else None) ≡ Some d → (b ≡ a) × (k ≡ t)
own_if a t b k o d q = go (a == b && t == k) refl q
  where
    go : (c : Bool) → (a == b && t == k) ≡ c → (if c then o else None) ≡ Some d → (b ≡ a) × (k ≡ t)
    go false e q = absurd cc
    go true e q = let h = and_parts (a == b) (t == k) e in (sym (eqb-true a b h.0), sym (eqb-true t k h.1))

module _ (b : BinaryRules) (laws : BoxLaws b) (one : OneBit b) (at : Scope) (is_correct : ℕ → Bool) (coins : ℕ → Slot → Bool) (xs : List (ReplicaStep Word))
    (enough : IsEnough at.numbers is_correct) (fed : IsFedRun (multi_play (multivalued b) at coins) is_correct xs) where
  abbrev saying : Proposal
  saying = SaidProposal (multi_box_play b at coins) xs

  -- what the binary instance of replica k said, the replica said
  bits_out : (k : ℕ) (y : Say) → HasSay (bits_said b (bench_of (multi_desk b at coins k)) (bit_words at (calls_of k xs))) y
      → HasSay ((multi_box_play b at coins).said k (calls_of k xs)) y
  bits_out k y h =
      part_said (bit_asked at) is_step ((multivalued b).says (multi_desk b at coins k)) (b.says (bench_of (multi_desk b at coins k)))
      (λ c w z s.
      say_later (newly (init_slot at k) (proposed w) (proposed (c ∷ w))) _ z
      (say_later (newly (vect_slot at k) (own_vect at w) (own_vect at (c ∷ w))) _ z s))
      (calls_of k xs) y h

  -- a bit that it decided
  bit_proposed : (i : ℕ) (x : Bool) → is_correct i ≡ true → bit_decided b laws one at is_correct coins xs enough fed i (calls_of i xs) ≡ Some x
      → SomeProposed is_correct saying (OfBit at.a at.attempt) (bit_byte x ∷ [])
  bit_proposed i x ci q =
      let k = one.proposed at.numbers at.a at.attempt is_correct coins (bit_run b at coins xs) enough (bit_fed b at coins is_correct xs fed) i x ci
      (inner_decided b laws one at is_correct coins xs enough fed i x q) in
      let y : Say = record { slot = proposal_slot (OfBit at.a at.attempt) k.0; value = bit_byte x ∷ [] } in (
        k.0,
        k.1,
        bits_out k.0 y (subst (λ (w : List Word). HasSay (bits_said b (bench_of (multi_desk b at coins k.0)) w) y) (bit_calls b at coins k.0 xs) k.2),
      )

  -- of this instance it is one of this round and attempt
  of_own : (x : ℕ → ℕ → Instance) (v : List ℕ) (a t : ℕ) → (at.a ≡ a) × (at.attempt ≡ t) → SomeProposed is_correct saying (x at.a at.attempt) v
      → SomeProposed is_correct saying (x a t) v
  of_own x v a t same s =
      subst (λ (k : ℕ). SomeProposed is_correct saying (x a k) v) same.1 (subst (λ (k : ℕ). SomeProposed is_correct saying (x k at.attempt) v) same.0 s)

  pub inside_proposed : (i : ℕ) → is_correct i ≡ true
      → IsProposed is_correct saying ((multivalued b).inside (multi_desk b at coins i) (calls_of i xs))
  inside_proposed i ci = record {
    bits = λ a t x q.
        let y = mapped_in Bit (a == at.a && t == at.attempt) _ (Bit x) q in
        of_own OfBit (bit_byte x ∷ []) a t (own_if a t at.a at.attempt _ (Bit x) q) (bit_proposed i x ci (y.1 ∙ ap Some (same_bit x y.0 y.2)));
    values = λ a t v q.
        let y = mapped_in value_decision (a == at.a && t == at.attempt) _ (Value v) q in
        of_own OfValue v a t (own_if a t at.a at.attempt _ (Value v) q)
        (value_said b laws one at is_correct coins xs enough fed i v ci (y.1 ∙ ap Some (sym (same_value (Some v) y.0 y.2))));
    entries = λ a k v e ck q r. absurd cc;
  }
