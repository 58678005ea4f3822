-- The laws of a single value of vector consensus as a root service, from those of its box.
use Rattle.std.specs.Prelude.{◌≡◌, ℕ, ◌<◌, ◌≤◌, Bool, true, false, ◌==◌, if◌then◌else◌, List, [], ◌∷◌, Option, Some, None, is_some, refl}
use Rattle.std.proofs.Common.{sym, ◌∙◌, ap, ap₂, subst, arith}
use Rattle.std.proofs.lemmas.Bool.{and_parts, eqb-true, and_from}
use Rattle.ritas_base.specs.declared.slot.Slot.{Slot}
use Rattle.ritas_base.specs.declared.item.Say.{Say}
use Rattle.ritas_base.specs.declared.mode.Mode.{Mode}
use Rattle.ritas_base.specs.Numbers.{IsSession}
use Rattle.ritas_base.specs.Slots.{slot_fault, within, has_tries, has_number}
use Rattle.frame_codec.specs.Format.{Is}
use Rattle.frame_codec.specs.Grammar.{value}
use Rattle.layer_api.specs.Service.{ServiceRules, Seat, LastVector, Instance, OfBit, OfValue, OfVector, Decision, Value, Decided, vector_decision, vector_with, IsAttemptOf, ending_decision, own_instance, Decides, purpose_of, AreProper, IsEnding, Insides, WordLaws}
use Rattle.layer_api.specs.DecisionLaws.{vector_is, vector_stays, vector_parts, if_stays}
use Rattle.layer_api.specs.FreshLaws.{fresh_other}
use Rattle.layer_api.specs.OneInstance.{HasOneInstance, IsInstanceSaid, served, instance_word_laws}
use Rattle.layer_api.specs.Words.{Word, Ask, Hear}
use Rattle.layer_api.specs.Vectors.{VectorRules, is_vector_slot, AreVector, IsVectorSaid, VectorLaws}
use Rattle.layer_api.specs.VectorSlotLaws.{no_command, vector_slot_right}
use Rattle.vector_consensus.specs.Root.{vector_root_desk, vector_ending, vector_decided_in, vector_root}
use Rattle.vector_consensus.specs.Laws.RootLog.{may_word}

-- ---- slots of the root service

root_right : (mode : Mode) (seat : Seat) (s : Slot) → mode.root ≡ 5 → is_vector_slot (vector_root_desk seat).scope s ≡ true → s.origin < seat.numbers.n → slot_fault seat.numbers mode s ≡ None
root_right mode seat s five e below = vector_slot_right seat.numbers mode 0 s (ap has_tries five) (ap (λ (r : ℕ). has_number r 0) five) e below

-- an instance of vectors ends by a vector, or its attempts are spent
is_ending : (o : Option (List ℕ)) (is_spent : Bool) → IsEnding (Decides (OfVector 0)) (vector_ending (vector_decision o is_spent))
is_ending (Some v) is_spent = tt
is_ending None true = tt
is_ending None false = tt

-- ---- words

module _ (m : VectorRules) where
  abbrev r : ServiceRules
  r = vector_root m

  pub are_vector : (seat : Seat) (w : List Word) → AreProper r seat w → AreVector m (vector_root_desk seat) w
  are_vector seat [] proper = tt
  are_vector seat (c ∷ w) proper = (may_word m seat w c proper.0, are_vector seat w proper.1)

  session_of : (seat : Seat) (c : Word) (w : List Word) → AreProper r seat (c ∷ w) → IsSession seat.numbers
  session_of seat (Ask v) w proper = proper.0.session
  session_of seat (Hear s v) w proper = proper.0.session

  -- what the box says is right
  vector_right : (seat : Seat) (y : Say) → seat.mode.root ≡ 5 → IsVectorSaid (vector_root_desk seat) y → IsInstanceSaid seat y
  vector_right seat y five said = record {
    origin = said.origin;
    no_command = no_command y.slot.class (and_parts (within 2 5 y.slot.class) _ said.slot).0;
    right = λ below. root_right seat.mode seat y.slot five said.slot (subst (λ (k : ℕ). k < seat.numbers.n) (sym said.origin) below);
    good = subst (λ (k : ℕ). Is (value seat.numbers k y.slot) y.value) (sym five) said.good;
  }

  one : HasOneInstance r
  one = record {
    purpose = refl;
    serves = λ root e. ap purpose_of (eqb-true root 5 e);
    given = λ seat w. refl;
    completed = λ seat w. refl;
    base = λ seat w o. refl;
    next_number = λ seat w. refl;
    done = λ seat w. refl;
  }

  module _ (laws : VectorLaws m) where
    abbrev now : Seat → List Word → Option Decision
    now seat w = vector_decision (m.decision (vector_root_desk seat) w) (m.spent (vector_root_desk seat) w)

    now_stays : (seat : Seat) (c : Word) (w : List Word) (d : Decision) → AreProper r seat (c ∷ w) → now seat w ≡ Some d → now seat (c ∷ w) ≡ Some d
    now_stays seat c w d proper q =
        let session = session_of seat c w proper in
        let met = are_vector seat (c ∷ w) proper in
        vector_stays (m.decision (vector_root_desk seat) w) (m.decision (vector_root_desk seat) (c ∷ w)) (m.spent (vector_root_desk seat) w) (m.spent (vector_root_desk seat) (c ∷ w)) d
        (λ x e. laws.decision_stays (vector_root_desk seat) c w x session refl met e)
        (λ e. let t = laws.spent_stays (vector_root_desk seat) c w session refl met e in (t, laws.spent_alone (vector_root_desk seat) (c ∷ w) met t)) q

    ending_stays : (o u : Option Decision) (d : Decision) → (o ≡ Some d → u ≡ Some d) → vector_ending o ≡ Decided d → vector_ending u ≡ Decided d
    ending_stays None u d stays e = absurd cc
    ending_stays (Some x) u d stays e = ap vector_ending (stays cc)

    decided_stays : (seat : Seat) (c : Word) (w : List Word) (x : Instance) (d : Decision) → AreProper r seat (c ∷ w) → vector_decided_in m seat w x ≡ Some d → vector_decided_in m seat (c ∷ w) x ≡ Some d
    decided_stays seat c w (OfBit a k) d proper e = laws.inside_stays (vector_root_desk seat) c w (OfBit a k) d (session_of seat c w proper) refl (are_vector seat (c ∷ w) proper) e
    decided_stays seat c w (OfValue a k) d proper e = laws.inside_stays (vector_root_desk seat) c w (OfValue a k) d (session_of seat c w proper) refl (are_vector seat (c ∷ w) proper) e
    decided_stays seat c w (OfVector a) d proper e =
        if_stays (a == 0) (m.inside (vector_root_desk seat) w (OfVector 0)) (m.inside (vector_root_desk seat) (c ∷ w) (OfVector 0)) d
        (λ y q. laws.inside_stays (vector_root_desk seat) c w (OfVector 0) y (session_of seat c w proper) refl (are_vector seat (c ∷ w) proper) q) e

    own_decided : (seat : Seat) (w : List Word) (x : Instance) → own_instance r.purpose ≡ Some x
        → vector_decided_in m seat w x ≡ ending_decision (vector_ending (now seat w))
    own_decided seat w x q =
        let e : OfVector 0 ≡ x = cc in
        subst (λ (y : Instance). vector_decided_in m seat w y ≡ ending_decision (vector_ending (now seat w))) e (laws.inside_own (vector_root_desk seat) w ∙ go (now seat w))
      where
        go : (o : Option Decision) → o ≡ ending_decision (vector_ending o)
        go None = refl
        go (Some d) = refl

    last_decided : (seat : Seat) (w : List Word) (x : LastVector) → vector_with 0 (m.attempt (vector_root_desk seat) w) (m.decision (vector_root_desk seat) w) ≡ Some x
        → IsAttemptOf (vector_decided_in m seat w) x.round x.attempt x.value
    last_decided seat w x q =
        let p = vector_parts 0 (m.attempt (vector_root_desk seat) w) (m.decision (vector_root_desk seat) w) x q in
        let a = laws.inside_attempt (vector_root_desk seat) w p.0 p.1 p.2 p.3 in
        subst (λ (y : LastVector). IsAttemptOf (vector_decided_in m seat w) y.round y.attempt y.value) (sym p.4) (record { vector = a.vector; value = a.value; failed = a.failed })

    latest : (seat : Seat) (w : List Word) (a : ℕ) (v : List ℕ) → vector_decided_in m seat w (OfVector a) ≡ Some (Value v)
        → (x : LastVector) × (vector_with 0 (m.attempt (vector_root_desk seat) w) (m.decision (vector_root_desk seat) w) ≡ Some x) × (a ≤ x.round)
    latest seat w a v q = go (a == 0) refl q
      where
        there : (o : Option ℕ) → is_some o ≡ true → (k : ℕ) × (o ≡ Some k)
        there None e = absurd cc
        there (Some k) e = (k, refl)

        go : (b : Bool) → (a == 0) ≡ b → (if b then m.inside (vector_root_desk seat) w (OfVector 0) else None) ≡ Some (Value v)
            → (x : LastVector) × (vector_with 0 (m.attempt (vector_root_desk seat) w) (m.decision (vector_root_desk seat) w) ≡ Some x) × (a ≤ x.round)
        go false e q = absurd cc
        go true e q =
            let d = vector_is (m.decision (vector_root_desk seat) w) (m.spent (vector_root_desk seat) w) v (sym (laws.inside_own (vector_root_desk seat) w) ∙ q) in
            let k = there (m.attempt (vector_root_desk seat) w) (laws.attempt_there (vector_root_desk seat) w ∙ ap is_some d) in
            let zero = eqb-true a 0 e in
            (record { round = 0; attempt = k.0; value = v }, ap₂ (vector_with 0) k.1 d, omega (arith, zero))

    insides : (seat : Seat) (w : List Word) → IsSession seat.numbers → AreProper r seat w → Insides r seat w
    insides seat w session proper = record {
      own = λ x q. own_decided seat w x q;
      last = λ x q. last_decided seat w x q;
      latest = λ a v q. latest seat w a v q;
      bit = λ a k o q. laws.inside_bit (vector_root_desk seat) w a k session refl (are_vector seat w proper) o q;
    }

  opens_stays : VectorLaws m → (seat : Seat) (c : Word) (w : List Word) (s : Slot) → AreProper r seat (c ∷ w) → r.opens seat w s ≡ true → r.opens seat (c ∷ w) s ≡ true
  opens_stays laws seat c w s proper opens =
      let x = and_parts (is_vector_slot (vector_root_desk seat).scope s) _ opens in
      and_from (is_vector_slot (vector_root_desk seat).scope s) _ x.0
      (laws.opens_stays (vector_root_desk seat) c w s (session_of seat c w proper) refl (are_vector seat (c ∷ w) proper) x.1)

  pub root_word_laws : VectorLaws m → WordLaws (vector_root m)
  root_word_laws laws = instance_word_laws (vector_root m) one (record {
    ending = λ seat w serves. is_ending (m.decision (vector_root_desk seat) w) (m.spent (vector_root_desk seat) w);
    says = λ seat c w proper.
        fresh_other (IsVectorSaid (vector_root_desk seat)) (IsInstanceSaid seat) _ _ _
        (λ y h. vector_right seat y (eqb-true seat.mode.root 5 (served r seat c w proper)) h) (λ y h none. none)
        (laws.says_new (vector_root_desk seat) c w (session_of seat c w proper) refl (are_vector seat (c ∷ w) proper));
    opens_stays = opens_stays laws;
    outcome_stays = λ seat c w d proper e.
        ending_stays laws (now laws seat w) (now laws seat (c ∷ w)) d (now_stays laws seat c w d proper) e;
    insides = λ seat w session serves proper. insides laws seat w session proper;
    decided_stays = λ seat c w x d proper e. decided_stays laws seat c w x d proper e;
  })
