-- The law of one log of vector consensus as a root service, from that of its box. The box has the service's own words.
use Rattle.std.specs.Prelude.{◌≡◌, ℕ, Bool, true, ◌==◌, List, [], Option, Some, None, refl}
use Rattle.std.proofs.Common.{sym, ◌∙◌, ap, subst, inl, inr, ap₂}
use Rattle.std.proofs.lemmas.Bool.{and_parts, eqb-true}
use Rattle.ritas_base.specs.declared.slot.Slot.{Slot}
use Rattle.ritas_base.specs.declared.mode.Mode.{Mode}
use Rattle.ritas_base.specs.Numbers.{Numbers}
use Rattle.frame_codec.specs.Format.{Format, Is}
use Rattle.frame_codec.specs.Grammar.{class2, value}
use Rattle.frame_codec.specs.Inputs.{input_format}
use Rattle.layer_api.specs.Runs.{ReplicaStep, calls_of, Has}
use Rattle.layer_api.specs.Service.{Seat, Decides, MayAsk, MayHear, MayWord, Instance, OfBit, OfValue, OfVector, Decision, Value, Bit, Spent, Decided, LastVector, vector_decision, vector_with}
use Rattle.layer_api.specs.DecisionLaws.{decided_vector, vector_is, vector_parts, if_so}
use Rattle.layer_api.specs.Words.{Word, Ask, Hear}
use Rattle.layer_api.specs.OneLog.{Session, seat_at, service_play, IsRunOf, OneLog}
use Rattle.layer_api.specs.Fed.{IsFedRun}
use Rattle.layer_api.specs.FedLaws.{same_fed}
use Rattle.layer_api.specs.OneInstance.{not_given}
use Rattle.frame_codec.specs.Values.{entry_at_place}
use Rattle.layer_api.specs.Proposals.{SaidProposal, IsProposed}
use Rattle.layer_api.specs.Multi.{Scope, desk_at}
use Rattle.layer_api.specs.Vectors.{VectorRules, is_vector_slot, MayVector, vector_play, OneVector}
use Rattle.vector_consensus.specs.Laws.Agreement.{if_true}
use Rattle.vector_consensus.specs.Root.{vector_root_desk, vector_ending, vector_decided_in, vector_root}

pub input_class : (p : Numbers) → input_format p 5 ≡ class2 p 5
unfolding input_format
input_class p = refl

-- a word of the service is one of its box
pub may_ask : (m : VectorRules) (seat : Seat) (w : List Word) (v : List ℕ) → MayAsk (vector_root m) seat w v → MayVector m (vector_root_desk seat) w (Ask v)
may_ask m seat w v may =
    let five = eqb-true seat.mode.root 5 may.served in (
      not_given w may.first,
      subst (λ (f : Format). Is f v) (input_class seat.numbers) (subst (λ (k : ℕ). Is (input_format seat.numbers k) v) five may.good),
      refl,
    )

pub may_hear : (m : VectorRules) (seat : Seat) (w : List Word) (s : Slot) (v : List ℕ) → MayHear (vector_root m) seat w s v → MayVector m (vector_root_desk seat) w (Hear s v)
may_hear m seat w s v may =
    let five = eqb-true seat.mode.root 5 may.served in
    let o = and_parts (is_vector_slot (vector_root_desk seat).scope s) (m.opens (vector_root_desk seat) w s) may.is_open in
    record {
      slot = o.0;
      origin = may.origin;
      is_open = o.1;
      first = may.first;
      good = subst (λ (k : ℕ). Is (value seat.numbers k s) v) five may.good;
      has = refl;
    }

pub may_word : (m : VectorRules) (seat : Seat) (w : List Word) (c : Word) → MayWord (vector_root m) seat w c → MayVector m (vector_root_desk seat) w c
may_word m seat w (Ask v) may = may_ask m seat w v may
may_word m seat w (Hear s v) may = may_hear m seat w s v may

ending_is : (o : Option Decision) (d : Decision) → vector_ending o ≡ Decided d → o ≡ Some d
ending_is None d q = absurd cc
ending_is (Some x) d q = cc

bit_value : (b : Bool) (x : List ℕ) → Bit b ≡ Value x → ⊥
bit_value b x e = cc

value_spent : (x : List ℕ) → Spent ≡ Value x → ⊥
value_spent x e = cc

bit_spent : (b : Bool) → Bit b ≡ Spent → ⊥
bit_spent b e = cc

module _ (v : VectorRules) (one : OneVector v) (p : Numbers) (mode : Mode) (is_correct : ℕ → Bool) (coins : ℕ → Slot → Bool) (xs : List (ReplicaStep Word))
    (run : IsRunOf (record { rules = vector_root v; numbers = p; mode = mode; is_correct = is_correct; coins = coins }) xs) where
  abbrev session : Session
  session = record { rules = vector_root v; numbers = p; mode = mode; is_correct = is_correct; coins = coins }

  abbrev at : Scope
  at = record { numbers = p; root = 5; a = 0; attempt = 0 }

  -- a run of the service is one of the box
  fed : IsFedRun (vector_play v at coins) is_correct xs
  fed =
      same_fed (service_play session) (vector_play v at coins) is_correct (λ i c w met. may_word v (seat_at session i) w c met.0)
      (λ i w y met h. h) xs run.fed

  abbrev decided : ℕ → Option Decision
  decided i = vector_decision (v.decision (desk_at at coins i) (calls_of i xs)) (v.spent (desk_at at coins i) (calls_of i xs))

  same : (i j : ℕ) (d e : Decision) → is_correct i ≡ true → is_correct j ≡ true → decided i ≡ Some d → decided j ≡ Some e → d ≡ e
  same i j d e ci cj q r =
      elim (decided_vector (v.decision (desk_at at coins i) (calls_of i xs)) (v.spent (desk_at at coins i) (calls_of i xs)) d q) [
        | inl x ↦ elim (decided_vector (v.decision (desk_at at coins j) (calls_of j xs)) (v.spent (desk_at at coins j) (calls_of j xs)) e r) [
          | inl y ↦ x.2 ∙ (ap Value (one.agree at is_correct coins xs run.enough refl fed i j x.0 y.0 ci cj x.1 y.1) ∙ sym y.2)
          | inr y ↦ absurd (one.unspent at is_correct coins xs run.enough refl fed j cj y.0)
        ]
        | inr x ↦ absurd (one.unspent at is_correct coins xs run.enough refl fed i ci x.0)
      ]

  pub outcomes : (i j : ℕ) (d e : Decision) → is_correct i ≡ true → is_correct j ≡ true → vector_ending (decided i) ≡ Decided d → vector_ending (decided j) ≡ Decided e → d ≡ e
  outcomes i j d e ci cj q r = same i j d e ci cj (ending_is (decided i) d q) (ending_is (decided j) e r)

  pub decisions : (i j : ℕ) (x : Instance) (d e : Decision) → is_correct i ≡ true → is_correct j ≡ true
      → vector_decided_in v (record { numbers = p; mode = mode; me = i; coin = coins i }) (calls_of i xs) x ≡ Some d
      → vector_decided_in v (record { numbers = p; mode = mode; me = j; coin = coins j }) (calls_of j xs) x ≡ Some e → d ≡ e
  decisions i j (OfBit a k) d e ci cj q r = one.insides at is_correct coins xs run.enough refl fed i j (OfBit a k) d e ci cj q r
  decisions i j (OfValue a k) d e ci cj q r = one.insides at is_correct coins xs run.enough refl fed i j (OfValue a k) d e ci cj q r
  decisions i j (OfVector a) d e ci cj q r =
      one.insides at is_correct coins xs run.enough refl fed i j (OfVector 0) d e ci cj (if_so (a == 0) _ d q) (if_so (a == 0) _ e r)

  pub not_spent : (i : ℕ) → is_correct i ≡ true → vector_ending (decided i) ≡ Decided Spent → ⊥
  not_spent i ci q =
      elim (decided_vector (v.decision (desk_at at coins i) (calls_of i xs)) (v.spent (desk_at at coins i) (calls_of i xs)) Spent (ending_is (decided i) Spent q)) [
        | inl x ↦ value_spent x.0 x.2
        | inr x ↦ one.unspent at is_correct coins xs run.enough refl fed i ci x.0
      ]

  pub one_last : (i j : ℕ) (x y : LastVector) → is_correct i ≡ true → is_correct j ≡ true
      → vector_with 0 (v.attempt (desk_at at coins i) (calls_of i xs)) (v.decision (desk_at at coins i) (calls_of i xs)) ≡ Some x
      → vector_with 0 (v.attempt (desk_at at coins j) (calls_of j xs)) (v.decision (desk_at at coins j) (calls_of j xs)) ≡ Some y → x ≡ y
  one_last i j x y ci cj q r =
      let a = vector_parts 0 (v.attempt (desk_at at coins i) (calls_of i xs)) (v.decision (desk_at at coins i) (calls_of i xs)) x q in
      let b = vector_parts 0 (v.attempt (desk_at at coins j) (calls_of j xs)) (v.decision (desk_at at coins j) (calls_of j xs)) y r in
      a.4 ∙ (ap₂ (λ (k : ℕ) (u : List ℕ). record { round = 0; attempt = k; value = u })
      (one.attempts at is_correct coins xs run.enough refl fed i j a.0 b.0 ci cj a.2 b.2)
      (one.agree at is_correct coins xs run.enough refl fed i j a.1 b.1 ci cj a.3 b.3) ∙ sym b.4)

  -- what is decided inside was proposed to it by correct replicas
  pub decisions_proposed : (i : ℕ) → is_correct i ≡ true
      → IsProposed is_correct (SaidProposal (service_play session) xs) ((vector_root v).decided (seat_at session i) (calls_of i xs))
  decisions_proposed i ci =
      let h = one.proposed at is_correct coins xs run.enough refl fed i ci in
      record {
        bits = λ a t x q. h.bits a t x q;
        values = λ a t x q. h.values a t x q;
        entries = λ a k x e ck q r.
            subst (λ (b : ℕ). SaidProposal (service_play session) xs k (OfVector b) e) (sym (eqb-true a 0 (if_true (a == 0) _ (Value x) q).0))
            (h.entries 0 k x e ck (if_so (a == 0) _ (Value x) q) r);
      }

  -- the entry of a correct replica is its input
  pub entries : (i k : ℕ) (x e : List ℕ) → is_correct i ≡ true → is_correct k ≡ true → vector_ending (decided i) ≡ Decided (Value x)
      → entry_at_place x k ≡ Some e → Has (calls_of k xs) (Ask e)
  entries i k x e ci ck q r =
      one.entries at is_correct coins xs run.enough refl fed i k x e ci ck
      (vector_is (v.decision (desk_at at coins i) (calls_of i xs)) (v.spent (desk_at at coins i) (calls_of i xs)) x (ending_is (decided i) (Value x) q)) r

  pub no_bits : (i : ℕ) (b : Bool) → vector_ending (decided i) ≡ Decided (Bit b) → ⊥
  no_bits i b q =
      elim (decided_vector (v.decision (desk_at at coins i) (calls_of i xs)) (v.spent (desk_at at coins i) (calls_of i xs)) (Bit b) (ending_is (decided i) (Bit b) q)) [
        | inl x ↦ bit_value b x.0 x.2
        | inr x ↦ bit_spent b x.1
      ]

-- the one instance is one of a vector
no_value : (a attempt : ℕ) → Decides (OfVector 0) ≡ Decides (OfValue a attempt) → ⊥
no_value a attempt e = cc

pub root_log : (v : VectorRules) → OneVector v → OneLog (vector_root v)
root_log v one = record {
  logs = λ p mode is_correct coins steps run i j ci cj. inl ([], refl);
  outcomes = λ p mode is_correct coins steps run. outcomes v one p mode is_correct coins steps run;
  decisions = λ p mode is_correct coins steps run. decisions v one p mode is_correct coins steps run;
  bits = λ p mode is_correct coins steps run i b ci q. absurd (no_bits v one p mode is_correct coins steps run i b q);
  proposals = λ p mode is_correct coins steps run a attempt other i x ci q. absurd (no_value a attempt other);
  unspent = λ p mode is_correct coins steps run. not_spent v one p mode is_correct coins steps run;
  last_vectors = λ p mode is_correct coins steps run i j x y ci cj q r same. one_last v one p mode is_correct coins steps run i j x y ci cj q r;
  proposed = λ p mode is_correct coins steps run i ci. decisions_proposed v one p mode is_correct coins steps run i ci;
  entries = λ p mode is_correct coins steps run a own i k x e ci ck q r. entries v one p mode is_correct coins steps run i k x e ci ck q r;
  appended = λ p mode is_correct coins steps run i x ci there. absurd cc;
}
