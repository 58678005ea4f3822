-- The laws of a single value of multi-valued consensus as a root service, from those of its box.
use Rattle.std.specs.Prelude.{◌≡◌, ℕ, zero, suc, ◌<◌, ◌≤◌, nat_le, true, false, ◌==◌, List, [], ◌∷◌, Option, Some, None, option_map, refl, ◌⊎◌}
use Rattle.std.proofs.Common.{sym, ◌∙◌, ap, subst, inl, inr, arith}
use Rattle.std.proofs.lemmas.Bool.{and_parts, and_from, leb-true, lt-ltb, eqb-true}
use Rattle.ritas_base.specs.declared.slot.Slot.{Slot}
use Rattle.ritas_base.specs.declared.item.Say.{Say}
use Rattle.ritas_base.specs.declared.mode.Mode.{Mode}
use Rattle.ritas_base.specs.Numbers.{Numbers, IsSession}
use Rattle.ritas_base.specs.Slots.{slot_fault, within, has_class, has_number, has_attempt, has_count}
use Rattle.ritas_base.specs.SlotLaws.{slot_is_right}
use Rattle.frame_codec.specs.Format.{Is}
use Rattle.frame_codec.specs.Grammar.{value}
use Rattle.layer_api.specs.Service.{ServiceRules, Seat, Instance, OfBit, OfValue, OfVector, Decision, Decided, value_decision, ending_decision, own_instance, Decides, purpose_of, AreProper, IsEnding, Insides, WordLaws}
use Rattle.layer_api.specs.FreshLaws.{fresh_other}
use Rattle.layer_api.specs.OneInstance.{HasOneInstance, IsInstanceSaid, served, instance_word_laws}
use Rattle.layer_api.specs.Words.{Word, Ask, Hear}
use Rattle.layer_api.specs.Multi.{MultiRules, is_multi_slot, AreMulti, IsMultiSaid, MultiLaws}
use Rattle.multivalued.specs.Root.{multi_root_desk, multi_ending, multi_decided_in, multi_root}
use Rattle.multivalued.specs.Laws.RootLog.{may_word}

-- ---- slots of the root service

-- a number from 3 to 5
three_to_five : (c : ℕ) → within 3 5 c ≡ true → (c ≡ 3) ⊎ (c ≡ 4) ⊎ (c ≡ 5)
three_to_five c e = let p = and_parts (nat_le 3 c) (nat_le c 5) e in go c (leb-true 3 c p.0) (leb-true c 5 p.1)
  where
    go : (c : ℕ) → 3 ≤ c → c ≤ 5 → (c ≡ 3) ⊎ (c ≡ 4) ⊎ (c ≡ 5)
    go zero l m = absurd (omega (arith, l))
    go (suc zero) l m = absurd (omega (arith, l))
    go (suc (suc zero)) l m = absurd (omega (arith, l))
    go (suc (suc (suc zero))) l m = inl refl
    go (suc (suc (suc (suc zero)))) l m = inr (inl refl)
    go (suc (suc (suc (suc (suc zero))))) l m = inr (inr refl)
    go (suc (suc (suc (suc (suc (suc c)))))) l m = absurd (omega (arith, m))

class_is : (c : ℕ) → (c ≡ 3) ⊎ (c ≡ 4) ⊎ (c ≡ 5) → (within 1 5 c ≡ true) × (has_class 4 c ≡ true)
unfolding has_class
class_is c (inl e) = (ap (within 1 5) e, ap (has_class 4) e)
class_is c (inr (inl e)) = (ap (within 1 5) e, ap (has_class 4) e)
class_is c (inr (inr e)) = (ap (within 1 5) e, ap (has_class 4) e)

root_right : (p : Numbers) (mode : Mode) (seat : Seat) (s : Slot) → mode.root ≡ 4 → is_multi_slot (multi_root_desk seat).scope s ≡ true → s.origin < p.n → slot_fault p mode s ≡ None
root_right p mode seat s four e below =
    let x = and_parts (within 3 5 s.class) _ e in
    let y = and_parts (s.a == 0) _ x.1 in
    let z = and_parts (s.attempt == 0) _ y.1 in
    let t = and_parts (has_count 200 s.class s.bround) _ z.1 in
    let k = class_is s.class (three_to_five s.class x.0) in
    slot_is_right p mode s k.0 (ap (λ (r : ℕ). has_class r s.class) four ∙ k.1)
    (ap (λ (r : ℕ). has_number r s.a) four ∙ ap (has_number 4) (eqb-true s.a 0 y.0)) (ap (λ (r : ℕ). has_attempt r p.f s.class s.attempt) four ∙ z.0)
    t.0 t.1 (lt-ltb s.origin p.n below)

no_class_one : (c : ℕ) → within 3 5 c ≡ true → (c == 1) ≡ false
no_class_one c e =
    elim (three_to_five c e) [ inl q ↦ ap (λ (k : ℕ). k == 1) q | inr (inl q) ↦ ap (λ (k : ℕ). k == 1) q | inr (inr q) ↦ ap (λ (k : ℕ). k == 1) q ]

-- an instance of one value ends by a value, or by none
is_ending : (o : Option (Option (List ℕ))) → IsEnding (Decides (OfValue 0 0)) (multi_ending o)
is_ending None = tt
is_ending (Some None) = tt
is_ending (Some (Some v)) = tt

-- ---- words

module _ (m : MultiRules) where
  abbrev r : ServiceRules
  r = multi_root m

  pub are_multi : (seat : Seat) (w : List Word) → AreProper r seat w → AreMulti m (multi_root_desk seat) w
  are_multi seat [] proper = tt
  are_multi seat (c ∷ w) proper = (may_word m seat w c proper.0, are_multi seat w proper.1)

  session_of : (seat : Seat) (c : Word) (w : List Word) → AreProper r seat (c ∷ w) → IsSession seat.numbers
  session_of seat (Ask v) w proper = proper.0.session
  session_of seat (Hear s v) w proper = proper.0.session

  -- what the box says is right
  multi_right : (seat : Seat) (y : Say) → seat.mode.root ≡ 4 → IsMultiSaid (multi_root_desk seat) y → IsInstanceSaid seat y
  multi_right seat y four said = record {
    origin = said.origin;
    no_command = no_class_one y.slot.class (and_parts (within 3 5 y.slot.class) _ said.slot).0;
    right = λ below. root_right seat.numbers seat.mode seat y.slot four said.slot (subst (λ (k : ℕ). k < seat.numbers.n) (sym said.origin) below);
    good = subst (λ (k : ℕ). Is (value seat.numbers k y.slot) y.value) (sym four) said.good;
  }

  module _ (laws : MultiLaws m) where
    ending_stays : (o u : Option (Option (List ℕ))) (d : Decision) → ((x : Option (List ℕ)) → o ≡ Some x → u ≡ Some x) → multi_ending o ≡ Decided d → multi_ending u ≡ Decided d
    ending_stays None u d stays e = absurd cc
    ending_stays (Some x) u d stays e = ap multi_ending (stays x refl) ∙ e

    decided_stays : (seat : Seat) (c : Word) (w : List Word) (x : Instance) (d : Decision) → AreProper r seat (c ∷ w) → multi_decided_in m seat w x ≡ Some d → multi_decided_in m seat (c ∷ w) x ≡ Some d
    decided_stays seat c w (OfBit a k) d proper e = laws.inside_stays (multi_root_desk seat) c w (OfBit a k) d (are_multi seat (c ∷ w) proper) e
    decided_stays seat c w (OfValue a k) d proper e = laws.inside_stays (multi_root_desk seat) c w (OfValue a k) d (are_multi seat (c ∷ w) proper) e
    decided_stays seat c w (OfVector a) d proper e = absurd cc

    own_decided : (seat : Seat) (w : List Word) (x : Instance) → own_instance r.purpose ≡ Some x
        → multi_decided_in m seat w x ≡ ending_decision (multi_ending (m.decision (multi_root_desk seat) w))
    own_decided seat w x q =
        let e : OfValue 0 0 ≡ x = cc in
        subst (λ (y : Instance). multi_decided_in m seat w y ≡ ending_decision (multi_ending (m.decision (multi_root_desk seat) w))) e
        (laws.inside_own (multi_root_desk seat) w ∙ go (m.decision (multi_root_desk seat) w))
      where
        go : (o : Option (Option (List ℕ))) → option_map value_decision o ≡ ending_decision (multi_ending o)
        go None = refl
        go (Some d) = refl

    insides : (seat : Seat) (w : List Word) → AreProper r seat w → Insides r seat w
    insides seat w proper = record {
      own = λ x q. own_decided seat w x q;
      last = λ x q. absurd cc;
      latest = λ a v q. absurd cc;
      bit = λ a k o q. laws.inside_bit (multi_root_desk seat) w a k (are_multi seat w proper) o q;
    }

  one : HasOneInstance r
  one = record {
    purpose = refl;
    serves = λ root e. ap purpose_of (eqb-true root 4 e);
    given = λ seat w. refl;
    completed = λ seat w. refl;
    base = λ seat w o. refl;
    next_number = λ seat w. refl;
    done = λ seat w. refl;
  }

  opens_stays : MultiLaws m → (seat : Seat) (c : Word) (w : List Word) (s : Slot) → AreProper r seat (c ∷ w) → r.opens seat w s ≡ true → r.opens seat (c ∷ w) s ≡ true
  opens_stays laws seat c w s proper opens =
      let x = and_parts (is_multi_slot (multi_root_desk seat).scope s) _ opens in
      and_from (is_multi_slot (multi_root_desk seat).scope s) _ x.0 (laws.opens_stays (multi_root_desk seat) c w s (are_multi seat (c ∷ w) proper) x.1)

  pub root_word_laws : MultiLaws m → WordLaws (multi_root m)
  root_word_laws laws = instance_word_laws (multi_root m) one (record {
    ending = λ seat w serves. is_ending (m.decision (multi_root_desk seat) w);
    says = λ seat c w proper.
        fresh_other (IsMultiSaid (multi_root_desk seat)) (IsInstanceSaid seat) _ _ _
        (λ y h. multi_right seat y (eqb-true seat.mode.root 4 (served r seat c w proper)) h) (λ y h none. none)
        (laws.says_new (multi_root_desk seat) c w (session_of seat c w proper) (are_multi seat (c ∷ w) proper));
    opens_stays = opens_stays laws;
    outcome_stays = λ seat c w d proper e.
        ending_stays laws (m.decision (multi_root_desk seat) w) (m.decision (multi_root_desk seat) (c ∷ w)) d (λ x q. laws.decision_stays (multi_root_desk seat) c w x (are_multi seat (c ∷ w) proper) q) e;
    insides = λ seat w session serves proper. insides laws seat w proper;
    decided_stays = λ seat c w x d proper e. decided_stays laws seat c w x d proper e;
  })
