-- Root services with one instance of consensus: one input, no commands, no rounds and no identifier log. What is the same in all.
use Rattle.std.specs.Prelude.{◌≡◌, ℕ, zero, suc, ◌+◌, ◌*◌, ◌<◌, ◌≤◌, Bool, true, false, not, ◌==◌, ◌&&◌, nat_lt, if◌then◌else◌, List, [], ◌∷◌, length, Some, None, refl}
use Rattle.std.proofs.Common.{sym, ◌∙◌, ap, ap₂, subst, arith, ne_eqb}
use Rattle.std.proofs.lemmas.Bool.{eqb-true, le-ltb, not-false, cond-false, both_ways}
use Rattle.ritas_base.specs.declared.slot.Slot.{Slot}
use Rattle.ritas_base.specs.declared.item.Say.{Say}
use Rattle.ritas_base.specs.declared.id.Id.{Id}
use Rattle.ritas_base.specs.Numbers.{IsSession}
use Rattle.ritas_base.specs.Slots.{slot_fault, has_class}
use Rattle.frame_codec.specs.Format.{Is}
use Rattle.frame_codec.specs.Grammar.{value}
use Rattle.ritas_base.specs.Limits.{number_limit}
use Rattle.layer_api.specs.Windows.{command_window, rounds_kept, lies_behind}
use Rattle.ritas_base.specs.Versions.{has_past}
use Rattle.layer_api.specs.Words.{Word, Ask, Hear, asked, AreFresh}
use Rattle.layer_api.specs.FreshLaws.{fresh_other}
use Rattle.layer_api.specs.PurposeLaws.{commands_of}
use Rattle.layer_api.specs.Service.{ServiceRules, Seat, Instance, Decision, Decided, AreProper, AreGoodSays, AreInputs, AreDistinct, AreHeard, said, purpose_of, has_instance, IsEnding, Meanings, Insides, is_past, WordLaws}

-- ---- the one input

-- whether the input is there
abbrev pub is_given : List Word → Bool
is_given w = not (asked w == 0)

pub not_given : (w : List Word) → is_given w ≡ false → asked w ≡ 0
not_given w e = eqb-true (asked w) 0 (not-false (asked w == 0) e)

-- it is there after it was given
pub given_now : (w : List Word) (v : List ℕ) → is_given (Ask v ∷ w) ≡ true
given_now w v = ap not (ne_eqb (asked w + 1) 0 (λ e. omega (arith, e)))

pub given_stays : (c : Word) (w : List Word) → is_given w ≡ true → is_given (c ∷ w) ≡ true
given_stays (Ask v) w e = given_now w v
given_stays (Hear s v) w e = e

pub given_some : (w : List Word) → is_given w ≡ true → 0 < asked w
given_some w e = go (asked w) e
  where
    go : (n : ℕ) → not (n == 0) ≡ true → 0 < n
    go zero e = absurd (let z : not true ≡ true = e in cc)
    go (suc n) e = omega arith

-- ---- what such a service is

pub record HasOneInstance (r : ServiceRules) : Type 0 where
  pub purpose : has_instance r.purpose ≡ true
  pub serves : (root : ℕ) → r.serves root ≡ true → purpose_of root ≡ Some r.purpose
  pub given : (seat : Seat) (w : List Word) → r.given seat w ≡ is_given w
  pub completed : (seat : Seat) (w : List Word) → r.completed seat w ≡ 0
  pub base : (seat : Seat) (w : List Word) (o : ℕ) → r.base seat w o ≡ 0
  pub next_number : (seat : Seat) (w : List Word) → r.next_number seat w ≡ 0
  pub done : (seat : Seat) (w : List Word) → r.done seat w ≡ []

-- it is at a slot of this replica and of the root service that isn't one of a command, with a value of its grammar
pub record IsInstanceSaid (seat : Seat) (y : Say) : Type 0 where
  pub origin : y.slot.origin ≡ seat.me
  pub no_command : (y.slot.class == 1) ≡ false
  pub right : seat.me < seat.numbers.n → slot_fault seat.numbers seat.mode y.slot ≡ None
  pub good : Is (value seat.numbers seat.mode.root y.slot) y.value

-- the laws that are its instance's
pub record InstanceLaws (r : ServiceRules) : Type 0 where
  pub ending : (seat : Seat) (w : List Word) → r.serves seat.mode.root ≡ true → IsEnding r.purpose (r.outcome seat w)
  pub says : (seat : Seat) (c : Word) (w : List Word) → AreProper r seat (c ∷ w) → AreFresh (IsInstanceSaid seat) (said r seat w) (r.says seat w c)
  pub opens_stays : (seat : Seat) (c : Word) (w : List Word) (s : Slot) → AreProper r seat (c ∷ w) → r.opens seat w s ≡ true → r.opens seat (c ∷ w) s ≡ true
  pub outcome_stays : (seat : Seat) (c : Word) (w : List Word) (d : Decision) → AreProper r seat (c ∷ w)
      → r.outcome seat w ≡ Decided d → r.outcome seat (c ∷ w) ≡ Decided d
  pub insides : (seat : Seat) (w : List Word) → IsSession seat.numbers → r.serves seat.mode.root ≡ true → AreProper r seat w → Insides r seat w
  pub decided_stays : (seat : Seat) (c : Word) (w : List Word) (x : Instance) (d : Decision) → AreProper r seat (c ∷ w)
      → r.decided seat w x ≡ Some d → r.decided seat (c ∷ w) x ≡ Some d

-- ---- the laws of a single value

pub served : (r : ServiceRules) (seat : Seat) (c : Word) (w : List Word) → AreProper r seat (c ∷ w) → r.serves seat.mode.root ≡ true
served r seat (Ask v) w proper = proper.0.served
served r seat (Hear s v) w proper = proper.0.served

module _ (r : ServiceRules) (one : HasOneInstance r) where
  -- it has no commands
  no_commands : (root : ℕ) → r.serves root ≡ true → has_class root 1 ≡ false
  no_commands root serves = commands_of root r.purpose (one.serves root serves) ∙ ap not one.purpose

  -- it is asked once
  pub asked_once : (seat : Seat) (w : List Word) → AreProper r seat w → asked w ≤ 1
  asked_once seat [] proper = omega arith
  asked_once seat (Ask v ∷ w) proper = let e = not_given w (sym (one.given seat w) ∙ proper.0.first) in omega (arith, e)
  asked_once seat (Hear s v ∷ w) proper = asked_once seat w proper.1

  module _ (laws : InstanceLaws r) where
    meanings : (seat : Seat) (w : List Word) → r.serves seat.mode.root ≡ true → Meanings r seat w
    meanings seat w serves =
        let none = no_commands seat.mode.root serves in
        record {
          next_number = one.next_number seat w ∙ sym (cond-false (has_class seat.mode.root 1) (asked w) 0 none);
          given = one.given seat w ∙ sym (ap (λ (x : Bool). x && is_given w) one.purpose);
          completed = λ low. one.completed seat w;
          base = λ o commands. absurd (both_ways _ none commands);
          base_none = λ o instance. one.base seat w o;
          done = λ low. one.done seat w;
          done_few = subst (λ (xs : List Id). length xs ≤ 31 * number_limit) (sym (one.done seat w)) (omega arith);
          outcome = laws.ending seat w serves;
        }

    good_says : (seat : Seat) (before ys : List Say) → seat.me < seat.numbers.n → AreFresh (IsInstanceSaid seat) before ys → AreGoodSays seat.numbers seat.mode ys
    good_says seat before [] below h = tt
    good_says seat before (y ∷ ys) below h = (h.0.right below, h.0.good, good_says seat before ys below h.3)

    no_inputs : (seat : Seat) (w : List Word) (c : Word) (before ys : List Say) → AreFresh (IsInstanceSaid seat) before ys → AreInputs seat w c ys
    no_inputs seat w c before [] h = tt
    no_inputs seat w c before (y ∷ ys) h = (
      λ command. absurd (both_ways (y.slot.class == 1) h.0.no_command (ap (λ (k : ℕ). k == 1) command)),
      no_inputs seat w c before ys h.3,
    )

    -- no slot is ever past
    never_past : (seat : Seat) (w : List Word) (s : Slot) → is_past r seat w s ≡ false
    never_past seat w s =
        ap₂ (lies_behind seat.mode.version s) (one.base seat w s.origin) (one.completed seat w) ∙ none (has_past seat.mode.version) (s.class == 1)
      where
        none : (past command : Bool) → (past && (if command then nat_lt (s.a + command_window) 0 else nat_lt (s.a + rounds_kept) 0)) ≡ false
        none false command = refl
        none true true = le-ltb (s.a + command_window) 0 (omega arith)
        none true false = le-ltb (s.a + rounds_kept) 0 (omega arith)

    pub instance_word_laws : WordLaws r
    instance_word_laws = record {
      purpose = one.serves;
      meanings = λ seat w session serves proper. meanings seat w serves;
      insides = λ seat w session serves proper. laws.insides seat w session serves proper;
      opens_stays = λ seat c w s proper opens past. laws.opens_stays seat c w s proper opens;
      says_new = λ seat c w proper. fresh_other (IsInstanceSaid seat) _ _ _ _ (λ y h. h.origin) (λ y h none. none) (laws.says seat c w proper);
      says_good = λ seat c w below proper. good_says seat _ _ below (laws.says seat c w proper);
      commands_said = λ seat c w proper. no_inputs seat w c _ _ (laws.says seat c w proper);
      inputs_said = λ seat v w has proper.
          absurd (both_ways _ (no_commands seat.mode.root (served r seat (Ask v) w proper)) has);
      completed_stays = λ seat c w proper. let a = one.completed seat w in let b = one.completed seat (c ∷ w) in omega (arith, a, b);
      base_stays = λ seat c w o proper. let a = one.base seat w o in let b = one.base seat (c ∷ w) o in omega (arith, a, b);
      done_nothing = λ seat. one.done seat [];
      done_grows = λ seat c w proper. record { more = []; whole = one.done seat w ∙ sym (one.done seat (c ∷ w)); recent = tt };
      done_once = λ seat w proper. subst AreDistinct (sym (one.done seat w)) tt;
      done_heard = λ seat w proper. subst (AreHeard w) (sym (one.done seat w)) tt;
      heard_recent = λ seat s v w proper. never_past seat (Hear s v ∷ w) s;
      outcome_stays = laws.outcome_stays;
      decided_stays = laws.decided_stays;
    }
