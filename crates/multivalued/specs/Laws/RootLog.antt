-- The laws of multi-valued consensus as a root service, from those of its box. The box has the service's own words.
use Rattle.std.specs.Prelude.{◌≡◌, ℕ, Bool, true, List, [], Option, Some, None, refl}
use Rattle.std.proofs.Common.{sym, ◌∙◌, ap, subst, inl}
use Rattle.std.proofs.lemmas.Bool.{and_parts, eqb-true}
use Rattle.ritas_base.specs.declared.slot.Slot.{Slot}
use Rattle.ritas_base.specs.declared.mode.Mode.{Mode}
use Rattle.ritas_base.specs.Numbers.{Numbers}
use Rattle.frame_codec.specs.Format.{Format, Is}
use Rattle.frame_codec.specs.Grammar.{class3, value}
use Rattle.frame_codec.specs.Inputs.{input_format}
use Rattle.layer_api.specs.Runs.{ReplicaStep, calls_of, Has}
use Rattle.layer_api.specs.Service.{Seat, Decides, MayAsk, MayHear, MayWord, Instance, OfBit, OfValue, OfVector, Decision, Value, Bit, Decided, Spent, value_decision}
use Rattle.layer_api.specs.Words.{Word, Ask, Hear}
use Rattle.layer_api.specs.OneLog.{Session, seat_at, service_play, IsRunOf, OneLog}
use Rattle.layer_api.specs.Fed.{IsFedRun}
use Rattle.layer_api.specs.FedLaws.{same_fed}
use Rattle.layer_api.specs.OneInstance.{not_given}
use Rattle.layer_api.specs.Proposals.{SaidProposal, IsProposed}
use Rattle.layer_api.specs.Multi.{Scope, desk_at, is_multi_slot, MayMulti, MultiRules, multi_play, OneDecision}
use Rattle.multivalued.specs.Root.{multi_root_desk, multi_ending, multi_decided_in, multi_root}

pub input_class : (p : Numbers) → input_format p 4 ≡ class3 p 4
unfolding input_format
input_class p = refl

-- a word of the service is one of its box
pub may_ask : (m : MultiRules) (seat : Seat) (w : List Word) (v : List ℕ) → MayAsk (multi_root m) seat w v → MayMulti m (multi_root_desk seat) w (Ask v)
may_ask m seat w v may =
    let four = eqb-true seat.mode.root 4 may.served in (
      not_given w may.first,
      subst (λ (f : Format). Is f v) (input_class seat.numbers) (subst (λ (k : ℕ). Is (input_format seat.numbers k) v) four may.good),
    )

pub may_hear : (m : MultiRules) (seat : Seat) (w : List Word) (s : Slot) (v : List ℕ) → MayHear (multi_root m) seat w s v → MayMulti m (multi_root_desk seat) w (Hear s v)
may_hear m seat w s v may =
    let four = eqb-true seat.mode.root 4 may.served in
    let o = and_parts (is_multi_slot (multi_root_desk seat).scope s) (m.opens (multi_root_desk seat) w s) may.is_open in
    record {
      slot = o.0;
      origin = may.origin;
      is_open = o.1;
      first = may.first;
      good = subst (λ (k : ℕ). Is (value seat.numbers k s) v) four may.good;
    }

pub may_word : (m : MultiRules) (seat : Seat) (w : List Word) (c : Word) → MayWord (multi_root m) seat w c → MayMulti m (multi_root_desk seat) w c
may_word m seat w (Ask v) may = may_ask m seat w v may
may_word m seat w (Hear s v) may = may_hear m seat w s v may

ending_is : (o : Option (Option (List ℕ))) (d : Decision) → multi_ending o ≡ Decided d → (x : Option (List ℕ)) × (o ≡ Some x) × (d ≡ value_decision x)
ending_is None d q = absurd cc
ending_is (Some x) d q = (x, refl, cc)

no_bit : (x : Option (List ℕ)) (b : Bool) → Bit b ≡ value_decision x → ⊥
no_bit None b e = cc
no_bit (Some v) b e = cc

value_of : (x : Option (List ℕ)) (v : List ℕ) → Value v ≡ value_decision x → x ≡ Some v
value_of None v e = absurd cc
value_of (Some u) v e = cc

module _ (m : MultiRules) (one : OneDecision m) (p : Numbers) (mode : Mode) (is_correct : ℕ → Bool) (coins : ℕ → Slot → Bool) (xs : List (ReplicaStep Word))
    (run : IsRunOf (record { rules = multi_root m; numbers = p; mode = mode; is_correct = is_correct; coins = coins }) xs) where
  abbrev session : Session
  session = record { rules = multi_root m; numbers = p; mode = mode; is_correct = is_correct; coins = coins }

  abbrev at : Scope
  at = record { numbers = p; root = 4; a = 0; attempt = 0 }

  -- a run of the service is one of the box
  fed : IsFedRun (multi_play m at coins) is_correct xs
  fed =
      same_fed (service_play session) (multi_play m at coins) is_correct (λ i c w met. may_word m (seat_at session i) w c met.0)
      (λ i w y met h. h) xs run.fed

  same : (i j : ℕ) (x y : Option (List ℕ)) → is_correct i ≡ true → is_correct j ≡ true → m.decision (desk_at at coins i) (calls_of i xs) ≡ Some x
      → m.decision (desk_at at coins j) (calls_of j xs) ≡ Some y → x ≡ y
  same i j x y ci cj q r = one.agree at is_correct coins xs run.enough fed i j x y ci cj q r

  pub outcomes : (i j : ℕ) (d e : Decision) → is_correct i ≡ true → is_correct j ≡ true → multi_ending (m.decision (desk_at at coins i) (calls_of i xs)) ≡ Decided d
      → multi_ending (m.decision (desk_at at coins j) (calls_of j xs)) ≡ Decided e → d ≡ e
  outcomes i j d e ci cj q r =
      let x = ending_is _ d q in let y = ending_is _ e r in
      x.2 ∙ (ap value_decision (same i j x.0 y.0 ci cj x.1 y.1) ∙ sym y.2)

  pub decisions : (i j : ℕ) (x : Instance) (d e : Decision) → is_correct i ≡ true → is_correct j ≡ true
      → multi_decided_in m (record { numbers = p; mode = mode; me = i; coin = coins i }) (calls_of i xs) x ≡ Some d
      → multi_decided_in m (record { numbers = p; mode = mode; me = j; coin = coins j }) (calls_of j xs) x ≡ Some e → d ≡ e
  decisions i j (OfBit a k) d e ci cj q r = one.insides at is_correct coins xs run.enough fed i j (OfBit a k) d e ci cj q r
  decisions i j (OfValue a k) d e ci cj q r = one.insides at is_correct coins xs run.enough fed i j (OfValue a k) d e ci cj q r
  decisions i j (OfVector a) d e ci cj q r = absurd cc

  pub proposals : (i : ℕ) (v : List ℕ) → is_correct i ≡ true → multi_ending (m.decision (desk_at at coins i) (calls_of i xs)) ≡ Decided (Value v)
      → (k : ℕ) × (is_correct k ≡ true) × Has (calls_of k xs) (Ask v)
  proposals i v ci q =
      let x = ending_is _ (Value v) q in
      one.valid at is_correct coins xs run.enough fed i v ci (x.1 ∙ ap Some (value_of x.0 v x.2))

  -- what is decided inside was proposed to it by a correct replica
  pub decisions_proposed : (i : ℕ) → is_correct i ≡ true
      → IsProposed is_correct (SaidProposal (service_play session) xs) ((multi_root m).decided (seat_at session i) (calls_of i xs))
  decisions_proposed i ci =
      let h = one.proposed at is_correct coins xs run.enough fed i ci in
      record { bits = λ a t x q. h.bits a t x q; values = λ a t v q. h.values a t v q; entries = λ a k v e ck q r. absurd cc }

no_spent : (o : Option (List ℕ)) → Spent ≡ value_decision o → ⊥
no_spent None e = cc
no_spent (Some v) e = cc

-- the one instance is one of a value
no_vector : (a : ℕ) → Decides (OfValue 0 0) ≡ Decides (OfVector a) → ⊥
no_vector a e = cc

pub root_log : (m : MultiRules) → OneDecision m → OneLog (multi_root m)
root_log m one = record {
  logs = λ p mode is_correct coins steps run i j ci cj. inl ([], refl);
  outcomes = λ p mode is_correct coins steps run. outcomes m one p mode is_correct coins steps run;
  decisions = λ p mode is_correct coins steps run. decisions m one p mode is_correct coins steps run;
  bits = λ p mode is_correct coins steps run i b ci q. absurd (let x = ending_is _ (Bit b) q in no_bit x.0 b x.2);
  proposals = λ p mode is_correct coins steps run a attempt own. proposals m one p mode is_correct coins steps run;
  unspent = λ p mode is_correct coins steps run i ci q. absurd (let x = ending_is _ Spent q in no_spent x.0 x.2);
  last_vectors = λ p mode is_correct coins steps run i j x y ci cj q. absurd cc;
  proposed = λ p mode is_correct coins steps run i ci. decisions_proposed m one p mode is_correct coins steps run i ci;
  entries = λ p mode is_correct coins steps run a other i k v e ci ck q r. absurd (no_vector a other);
  appended = λ p mode is_correct coins steps run i x ci there. absurd cc;
}
