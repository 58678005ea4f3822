-- The laws of the service of commands: what is said is new, and the base is the least number that was not heard.
use Rattle.std.specs.Prelude.{◌≡◌, ℕ, ◌+◌, ◌<◌, ◌≤◌, true, false, ◌==◌, nat_lt, List, [], ◌∷◌, Option, Some, None, MatchOption, length, unwrap_or, refl, ◌⊎◌}
use Rattle.std.proofs.Common.{sym, ◌∙◌, ap, subst, inl, inr, arith}
use Rattle.std.specs.List.{find, range_with_len, list_any}
use Rattle.std.proofs.lemmas.Bool.{cases_order, and_right, or_cases, or_left, or_right, or_from, not-true, not-false, eq-eqb, eqb-true, lt-ltb, ltb-true, leb-false, both_ways, cond-true, false_from_ne_true}
use Rattle.std.proofs.lemmas.Map.Steps.{le-length_from_below}
use Rattle.ritas_base.specs.declared.slot.Slot.{Slot}
use Rattle.ritas_base.specs.declared.mode.Mode.{Mode}
use Rattle.ritas_base.specs.Numbers.{Numbers}
use Rattle.ritas_base.specs.Slots.{has_class, slot_fault, command_slot}
use Rattle.ritas_base.specs.SlotLaws.{right_command}
use Rattle.ritas_base.specs.Versions.{has_past}
use Rattle.ritas_base.specs.SlotOrder.{is_slot, same_slot}
use Rattle.frame_codec.specs.Format.{Is}
use Rattle.frame_codec.specs.Grammar.{value}
use Rattle.frame_codec.specs.Inputs.{IsInput, input_format}
use Rattle.layer_api.specs.Service.{Seat, Carries, purpose_of, said, is_past, is_ahead, MayHear, AreProper, AreNew, AreGoodSays, WordLaws, AreInputs, IsBase, Meanings}
use Rattle.layer_api.specs.Words.{Word, Ask, Hear, is_heard, asked, is_said}
use Rattle.layer_api.specs.OneLog.{OneLog}
use Rattle.layer_api.specs.OpeningLaws.{OpensDown}
use Rattle.ordered_rounds.specs.Rounds.{says_input}
use Rattle.ordered_rounds.specs.Laws.Searching.{IsLeastFrom, NonePasses, find_is, heard_stays}
use Rattle.atomic_bcast.specs.Commands.{is_heard_from, is_missing, base_of, commands}

-- ---- the least number that was not heard

-- the numbers of the slots that were heard
abbrev heard_numbers : List Word → List ℕ
heard_numbers [] = []
heard_numbers (Ask v ∷ w) = heard_numbers w
heard_numbers (Hear s v ∷ w) = s.a ∷ heard_numbers w

fewer_numbers : (w : List Word) → length (heard_numbers w) ≤ length w
fewer_numbers [] = omega arith
fewer_numbers (Ask v ∷ w) = omega (arith, fewer_numbers w)
fewer_numbers (Hear s v ∷ w) = omega (arith, fewer_numbers w)

has_number : (w : List Word) (o k : ℕ) → is_heard w (command_slot o k) ≡ true → list_any (λ (x : ℕ). k == x) (heard_numbers w) ≡ true
has_number [] o k h = h
has_number (Ask v ∷ w) o k h = has_number w o k h
has_number (Hear s v ∷ w) o k h =
    elim (or_cases (is_slot s (command_slot o k)) (is_heard w (command_slot o k)) h) [
      | inl here ↦
          let same : k ≡ s.a = sym (ap (λ (q : Slot). q.a) (same_slot s (command_slot o k) here)) in
          or_left (k == s.a) (list_any (λ (x : ℕ). k == x) (heard_numbers w)) (eq-eqb k s.a same)
      | inr there ↦ or_right (k == s.a) (list_any (λ (x : ℕ). k == x) (heard_numbers w)) (has_number w o k there)
    ]

-- of so many numbers not all were heard
pub not_all_heard : (w : List Word) (o n : ℕ) → ((k : ℕ) → k < n → is_heard w (command_slot o k) ≡ true) → n ≤ length w
not_all_heard w o n all =
    let few = le-length_from_below (heard_numbers w) n (λ k below. has_number w o k (all k below)) in
    omega (arith, few, fewer_numbers w)

found_base : (w : List Word) (o : ℕ) (found : Option ℕ)
    → MatchOption found (NonePasses (is_missing w o) 0 (length w + 1)) (IsLeastFrom (is_missing w o) 0)
    → IsBase (is_heard_from w o) (unwrap_or found (length w))
found_base w o None none =
    let all = not_all_heard w o (length w + 1) (λ k within. not-false (is_heard w (command_slot o k)) (none k (omega arith) (omega arith))) in
    absurd (omega (arith, all))
found_base w o (Some b) first = record {
  missing = not-true (is_heard w (command_slot o b)) first.passes;
  below = λ k before. not-false (is_heard w (command_slot o k)) (first.none_before k (omega arith) before);
}

pub base_is : (w : List Word) (o : ℕ) → IsBase (is_heard_from w o) (base_of w o)
unfolding base_of
base_is w o = found_base w o (find (is_missing w o) (range_with_len 0 (length w + 1))) (find_is (is_missing w o) 0 (length w + 1))

-- there is one base alone
pub base_from : (w : List Word) (o b : ℕ) → IsBase (is_heard_from w o) b → base_of w o ≡ b
base_from w o b is =
    elim (cases_order (base_of w o) b) [
      | inl same ↦ same
      | inr (inl less) ↦ absurd (both_ways _ (base_is w o).missing (is.below (base_of w o) less))
      | inr (inr more) ↦ absurd (both_ways _ is.missing ((base_is w o).below b more))
    ]

-- ---- the base never goes back

pub base_stays : (seat : Seat) (c : Word) (w : List Word) (o : ℕ) → base_of w o ≤ base_of (c ∷ w) o
base_stays seat c w o =
    elim (cases_order (base_of (c ∷ w) o) (base_of w o)) [
      | inl same ↦ omega arith
      | inr (inl less) ↦
          let still = heard_stays c w (command_slot o (base_of (c ∷ w) o)) ((base_is w o).below (base_of (c ∷ w) o) less) in
          absurd (both_ways _ (base_is (c ∷ w) o).missing still)
      | inr (inr more) ↦ omega arith
    ]

-- ---- what was heard lies near the base

near_now : (seat : Seat) (w : List Word) (s : Slot) (o k : ℕ) (v : List ℕ) → MayHear commands seat w s v → is_slot s (command_slot o k) ≡ true → k < base_of w o + 64
near_now seat w s o k v may here =
    let same = same_slot s (command_slot o k) here in
    let ahead = subst (λ (q : Slot). is_ahead commands seat w q ≡ false) same may.not_ahead in
    leb-false (base_of w o + 64) k ahead

-- each number that was heard is less than 64 above the base
pub heard_near : (seat : Seat) (w : List Word) (o k : ℕ) → AreProper commands seat w → is_heard w (command_slot o k) ≡ true → k < base_of w o + 64
heard_near seat [] o k proper h = absurd cc
heard_near seat (Ask v ∷ w) o k proper h =
    let before = heard_near seat w o k proper.1 h in
    omega (arith, before, base_stays seat (Ask v) w o)
heard_near seat (Hear s v ∷ w) o k proper h =
    elim (or_cases (is_slot s (command_slot o k)) (is_heard w (command_slot o k)) h) [
      | inl here ↦ omega (arith, near_now seat w s o k v proper.0 here, base_stays seat (Hear s v) w o)
      | inr there ↦ omega (arith, heard_near seat w o k proper.1 there, base_stays seat (Hear s v) w o)
    ]

-- a slot that was heard isn't past
pub heard_recent : (seat : Seat) (s : Slot) (v : List ℕ) (w : List Word) → AreProper commands seat (Hear s v ∷ w) → is_past commands seat (Hear s v ∷ w) s ≡ false
heard_recent seat s v w proper =
    and_right (has_past seat.mode.version) _
    (cond-true (s.class == 1) (nat_lt (s.a + 64) (base_of (Hear s v ∷ w) s.origin)) (nat_lt (s.a + 2) 0) proper.0.is_open
    ∙ false_from_ne_true _ (λ e. again ((base_is (Hear s v ∷ w) s.origin).below (s.a + 64) (ltb-true (s.a + 64) _ e))))
  where
    again : is_heard (Hear s v ∷ w) (command_slot s.origin (s.a + 64)) ≡ true → ⊥
    again h =
        elim (or_cases (is_slot s (command_slot s.origin (s.a + 64))) (is_heard w (command_slot s.origin (s.a + 64))) h) [
          | inl here ↦ let e : s.a ≡ s.a + 64 = ap (λ (q : Slot). q.a) (same_slot s (command_slot s.origin (s.a + 64)) here) in absurd (omega (arith, e))
          | inr there ↦
              let near = heard_near seat w s.origin (s.a + 64) proper.1 there in
              let before = (base_is w s.origin).below s.a (omega (arith, near)) in
              let own = right_command seat.numbers seat.mode s proper.0.right proper.0.is_open in
              both_ways _ proper.0.first (ap (is_heard w) own ∙ before)
        ]

-- ---- what is said is new

other_number : (me k j : ℕ) → (k ≡ j → ⊥) → is_slot (command_slot me k) (command_slot me j) ≡ false
other_number me k j other =
    false_from_ne_true _ (λ same. other (ap (λ (q : Slot). q.a) (same_slot (command_slot me k) (command_slot me j) same)))

-- nothing was said at a number that is still to come
said_below : (seat : Seat) (w : List Word) (k : ℕ) → asked w ≤ k → is_said (said commands seat w) (command_slot seat.me k) ≡ false
said_below seat [] k after = refl
said_below seat (Ask v ∷ w) k after =
    or_from _ _ (other_number seat.me (asked w) k (λ same. omega (arith, after, same))) (said_below seat w k (omega (arith, after)))
said_below seat (Hear s v ∷ w) k after = said_below seat w k after

pub says_new : (seat : Seat) (c : Word) (w : List Word) → AreProper commands seat (c ∷ w) → AreNew commands seat w (says_input seat w c)
says_new seat (Ask v) w proper = (refl, said_below seat w (asked w) (omega arith), refl, tt)
says_new seat (Hear s v) w proper = tt

-- ---- the root services of commands

root_of : (root : ℕ) → commands.serves root ≡ true → (root ≡ 1) ⊎ (root ≡ 2)
root_of root serves =
    elim (or_cases (root == 1) (root == 2) serves) [ inl one ↦ inl (eqb-true root 1 one) | inr two ↦ inr (eqb-true root 2 two) ]

-- what holds in root services 1 and 2 holds where commands are served
in_both : (P : ℕ → Type 0) → P 1 → P 2 → (root : ℕ) → commands.serves root ≡ true → P root
in_both P one two root serves = elim (root_of root serves) [ inl e ↦ subst P (sym e) one | inr e ↦ subst P (sym e) two ]

has_commands : (root : ℕ) → commands.serves root ≡ true → has_class root 1 ≡ true
unfolding has_class
has_commands root serves = let P : ℕ → Type 0 = λ r. has_class r 1 ≡ true in in_both P refl refl root serves

carries : (root : ℕ) → commands.serves root ≡ true → purpose_of root ≡ Some Carries
carries root serves = let P : ℕ → Type 0 = λ r. purpose_of r ≡ Some Carries in in_both P refl refl root serves

-- ---- what is said is in the grammar

-- a command's slot is right
slot_right : (p : Numbers) (mode : Mode) (origin num : ℕ) → commands.serves mode.root ≡ true → origin < p.n → num < 1000000
    → slot_fault p mode (command_slot origin num) ≡ None
unfolding slot_fault has_class
slot_right p mode origin num serves below small =
    elim (root_of mode.root serves) [
      | inl e ↦ rw (e, lt-ltb num 1000000 small, or_right (num == 0) true refl, lt-ltb origin p.n below) refl
      | inr e ↦ rw (e, lt-ltb num 1000000 small, or_right (num == 0) true refl, lt-ltb origin p.n below) refl
    ]

-- an input is a command's value
is_command : (p : Numbers) (mode : Mode) (origin num : ℕ) (v : List ℕ) → commands.serves mode.root ≡ true → IsInput p mode v
    → Is (value p mode.root (command_slot origin num)) v
unfolding value input_format
is_command p mode origin num v serves good =
    let P : ℕ → Type 0 = λ r. Is (input_format p r) v → Is (value p r (command_slot origin num)) v in
    in_both P (λ h. h) (λ h. h) mode.root serves good

pub says_good : (seat : Seat) (c : Word) (w : List Word) → seat.me < seat.numbers.n → AreProper commands seat (c ∷ w)
    → AreGoodSays seat.numbers seat.mode (says_input seat w c)
says_good seat (Ask v) w below proper = (
  slot_right seat.numbers seat.mode seat.me (asked w) proper.0.served below proper.0.number,
  is_command seat.numbers seat.mode seat.me (asked w) v proper.0.served proper.0.good,
  tt,
)
says_good seat (Hear s v) w below proper = tt

commands_said : (seat : Seat) (c : Word) (w : List Word) → AreInputs seat w c (says_input seat w c)
commands_said seat (Ask v) w = (λ command. (refl, refl), tt)
commands_said seat (Hear s v) w = tt

-- ---- what the getters mean

pub meanings : (seat : Seat) (w : List Word) → commands.serves seat.mode.root ≡ true → Meanings commands seat w
meanings seat w serves = record {
  next_number = sym (cond-true (has_class seat.mode.root 1) (asked w) 0 (has_commands seat.mode.root serves));
  given = refl;
  completed = λ low. refl;
  base = λ o has. record { missing = (base_is w o).missing; below = (base_is w o).below };
  base_none = λ o one. absurd cc;
  done = λ low. refl;
  done_few = omega arith;
  outcome = refl;
}

pub command_laws : WordLaws commands
command_laws = record {
  purpose = carries;
  meanings = λ seat w session serves proper. meanings seat w serves;
  insides = λ seat w session serves proper. record {
    own = λ x q. absurd cc;
    last = λ x q. absurd cc;
    latest = λ a v q. absurd cc;
    bit = λ a k o q. absurd cc;
  };
  opens_stays = λ seat c w s proper opens past. opens;
  says_new = says_new;
  says_good = says_good;
  commands_said = λ seat c w proper. commands_said seat c w;
  completed_stays = λ seat c w proper. omega arith;
  base_stays = λ seat c w o proper. base_stays seat c w o;
  inputs_said = λ seat v w has proper. inl refl;
  done_nothing = λ seat. refl;
  done_grows = λ seat c w proper. record { more = []; whole = refl; recent = tt };
  done_once = λ seat w proper. tt;
  done_heard = λ seat w proper. tt;
  heard_recent = heard_recent;
  outcome_stays = λ seat c w d proper e. absurd cc;
  decided_stays = λ seat c w x d proper e. absurd cc;
}

-- nothing is decided, so all agree
pub command_log : OneLog commands
command_log = record {
  logs = λ p mode is_correct coins steps run i j ci cj. inl ([], refl);
  outcomes = λ p mode is_correct coins steps run i j d e ci cj a b. absurd cc;
  unspent = λ p mode is_correct coins steps run i ci a. absurd cc;
  last_vectors = λ p mode is_correct coins steps run i j x y ci cj a b. absurd cc;
  decisions = λ p mode is_correct coins steps run i j x d e ci cj a b. absurd cc;
  bits = λ p mode is_correct coins steps run i b ci a. absurd cc;
  proposals = λ p mode is_correct coins steps run a attempt purpose i v ci q. absurd cc;
  proposed = λ p mode is_correct coins steps run i ci. record {
    bits = λ a attempt b q. absurd cc;
    values = λ a attempt v q. absurd cc;
    entries = λ a k v e ck q r. absurd cc;
  };
  entries = λ p mode is_correct coins steps run a purpose i k v e ci ck q r. absurd cc;
  appended = λ p mode is_correct coins steps run i x ci there. absurd cc;
}

-- the slots that open go by their class alone
pub commands_open_down : (seat : Seat) (w : List Word) → OpensDown (commands.opens seat w)
commands_open_down seat w s t near e = ap (λ (c : ℕ). c == 1) near.class ∙ e
