-- What a replica starts at a command slot of its own is its input of that number.
use Rattle.std.proofs.Common.{◌≡◌, ℕ, ◌+◌, ◌<◌, Bool, true, false, cond, Option, Some, None, List, [], ◌∷◌, refl, sym, ◌∙◌, ap, ap₂, subst, inl, inr, ◌⊎◌, arith}
use Rattle.std.proofs.Math.Dec.{eqb}
use Rattle.std.proofs.lemmas.Bool.{cond-true, cond-false, eq-eqb, ne_eqb, eqb-true}
use Rattle.ritas_base.specs.declared.slot.Slot.{Slot}
use Rattle.ritas_base.specs.declared.item.Item.{Item}
use Rattle.ritas_base.specs.declared.item.Say.{Say}
use Rattle.ritas_base.specs.SlotOrder.{is_slot, same_slot}
use Rattle.ritas_base.specs.Shortest.{option_or_none, option_or_some}
use Rattle.ritas_base.specs.History.{Call, Start, Take, started}
use Rattle.layer_api.specs.Service.{Seat, IsInputSaid, AreInputs, AreProper}
use Rattle.layer_api.specs.Words.{Word, Ask, Hear, HasSay, asked}
use Rattle.ritas_base.specs.Slots.{command_slot}
use Rattle.ritas_core.specs.Rules.{Rules, seat_of}
use Rattle.ritas_core.specs.Casts.{called, started_all}
use Rattle.ritas_core.specs.Parts.{Parts, Entry, Took, Given, parts, heard_at, taken_at, item_delivers}
use Rattle.ritas_core.specs.Checks.{IsHistory}
use Rattle.world_model.specs.OneValueEach.{count_inputs, input_at}
use Rattle.world_model.proofs.Below.{IsFounded}

-- ---- the value that was started
-- this value, said at this slot
abbrev pub say_of : Slot → List ℕ → Say
say_of s v = record { slot = s; value = v }

start_from : (say : Say) (says : List Say) (h : List Call) (s : Slot) (v : List ℕ) (b : Bool) → is_slot say.slot s ≡ b →
    started (cond b (Start say.value ∷ h) h) ≡ Some v → (started h ≡ Some v) ⊎ HasSay (say ∷ says) (say_of s v)
start_from say says h s v true here e = elim (option_or_some (started h) (Some say.value) v e) [
  | inl older ↦ inl older
  | inr now ↦ let what : say.value ≡ v = cc now.1 in inr (inl (ap₂ say_of (same_slot say.slot s here) what))
]
start_from say says h s v false here e = inl e

pub started_from : (says : List Say) (h : Slot → List Call) (s : Slot) (v : List ℕ) → started (started_all says h s) ≡ Some v →
    (started (h s) ≡ Some v) ⊎ HasSay says (say_of s v)
started_from [] h s v e = inl e
started_from (say ∷ says) h s v e = elim (started_from says (called h say.slot (Start say.value)) s v e) [
  | inl older ↦ start_from say says (h s) s v (is_slot say.slot s) refl older
  | inr later ↦ inr (inr later)
]

pub take_started : (b : Bool) (item : Item) (h : List Call) (v : List ℕ) → started (cond b (Take item ∷ h) h) ≡ Some v → started h ≡ Some v
take_started true item h v e = sym (option_or_none (started h)) ∙ e
take_started false item h v e = e

-- ---- what is said at a command slot
said_input : (seat : Seat) (w : List Word) (c : Word) (says : List Say) (say : Say) → AreInputs seat w c says → HasSay says say → say.slot.class ≡ 1 →
    IsInputSaid seat w c say
said_input seat w c [] say inputs here one = elim here [ ]
said_input seat w c (x ∷ says) say inputs (inl e) one =
    subst (λ (y : Say). IsInputSaid seat w c y) e (inputs.0 (subst (λ (y : Say). y.slot.class ≡ 1) (sym e) one))
said_input seat w c (x ∷ says) say inputs (inr there) one = said_input seat w c says say inputs.1 there one

-- what the word says at a command slot is its input, of the replica's next number
said_at : (r : Rules) → IsFounded r → (c : Word) (w : List Word) → AreProper r.service (seat_of r) (c ∷ w) → (num : ℕ) (v : List ℕ) →
    HasSay (r.service.says (seat_of r) w c) (say_of (command_slot r.casts.me num) v) → IsInputSaid (seat_of r) w c (say_of (command_slot r.casts.me num) v)
said_at r laws c w proper num v there =
    said_input (seat_of r) w c (r.service.says (seat_of r) w c) (say_of (command_slot r.casts.me num) v)
    (laws.layers.words.commands_said (seat_of r) c w proper) there refl

-- ---- numbers of inputs
asked_heard : (r : Rules) (s : Slot) (d : Option (List ℕ)) (p : Parts) → asked (heard_at r s d p).words ≡ asked p.words
asked_heard r s None p = refl
asked_heard r s (Some v) p = refl

asked_inputs : (r : Rules) (h : List Entry) → asked (parts r h).words ≡ count_inputs h
asked_inputs r [] = refl
asked_inputs r (Took item ∷ h) =
    let p = parts r h in
    asked_heard r item.slot (item_delivers r item p) (taken_at item p) ∙ asked_inputs r h
asked_inputs r (Given v ∷ h) = ap (λ (n : ℕ). n + 1) (asked_inputs r h)

number_below : (last num : ℕ) (u v : List ℕ) (older : Option (List ℕ)) (b : Bool) → eqb last num ≡ b → cond b (Some u) older ≡ Some v →
    (older ≡ Some v → num < last) → num < last + 1
number_below last num u v older true here e before = let same = eqb-true last num here in omega arith
number_below last num u v older false here e before = let less = before e in omega arith

input_below : (h : List Entry) (num : ℕ) (v : List ℕ) → input_at h num ≡ Some v → num < count_inputs h
input_below [] num v e = absurd (cc)
input_below (Took item ∷ h) num v e = input_below h num v e
input_below (Given u ∷ h) num v e =
    number_below (count_inputs h) num u v (input_at h num) (eqb (count_inputs h) num) refl e (λ older. input_below h num v older)

-- ---- a history
-- of an input that was said
given_said : (r : Rules) (h : List Entry) (num : ℕ) (u v : List ℕ) →
    IsInputSaid (seat_of r) (parts r h).words (Ask u) (say_of (command_slot r.casts.me num) v) → input_at (Given u ∷ h) num ≡ Some v
given_said r h num u v input =
    let number : num ≡ count_inputs h = ap (λ (s : Slot). s.a) input.0 ∙ asked_inputs r h in
    cond-true (eqb (count_inputs h) num) (Some u) (input_at h num) (eq-eqb (count_inputs h) num (sym number)) ∙ ap (λ (y : List ℕ). Some y) input.1

given_older : (h : List Entry) (num : ℕ) (u v : List ℕ) → input_at h num ≡ Some v → input_at (Given u ∷ h) num ≡ Some v
given_older h num u v older =
    let less = input_below h num v older in
    cond-false (eqb (count_inputs h) num) (Some u) (input_at h num) (ne_eqb (count_inputs h) num (λ same. absurd (omega arith))) ∙ older

-- a heard value is no input
heard_older : (r : Rules) → IsFounded r → (h : List Entry) → IsHistory r h → (item : Item) (d : Option (List ℕ)) (num : ℕ) (v : List ℕ) →
    ((u : List ℕ) → d ≡ Some u → AreProper r.service (seat_of r) (Hear item.slot u ∷ (parts r h).words)) →
    started ((heard_at r item.slot d (taken_at item (parts r h))).calls (command_slot r.casts.me num)) ≡ Some v →
    started ((taken_at item (parts r h)).calls (command_slot r.casts.me num)) ≡ Some v
heard_older r laws h met item None num v proper e = e
heard_older r laws h met item (Some u) num v proper e =
    let p = parts r h in
    elim (started_from (r.service.says (seat_of r) p.words (Hear item.slot u)) (taken_at item p).calls (command_slot r.casts.me num) v e) [
      | inl older ↦ older
      | inr now ↦ absurd ((said_at r laws (Hear item.slot u) p.words (proper u refl) num v now).1)
    ]

pub input_started : (r : Rules) → IsFounded r → (h : List Entry) → IsHistory r h → (num : ℕ) (v : List ℕ) →
    started ((parts r h).calls (command_slot r.casts.me num)) ≡ Some v → input_at h num ≡ Some v
input_started r laws [] met num v e = absurd (cc)
input_started r laws (Took item ∷ h) met num v e =
    let p = parts r h in
    let s = command_slot r.casts.me num in
    input_started r laws h met.1 num v
    (take_started (is_slot item.slot s) item (p.calls s) v
    (heard_older r laws h met.1 item (item_delivers r item p) num v
    (λ u delivers. (laws.core.hears r laws.layers h met.1 item met.0 u delivers, laws.core.proper r laws.layers h met.1)) e))
input_started r laws (Given u ∷ h) met num v e =
    let p = parts r h in
    let s = command_slot r.casts.me num in
    elim (started_from (r.service.says (seat_of r) p.words (Ask u)) p.calls s v e) [
      | inl older ↦ given_older h num u v (input_started r laws h met.1 num v older)
      | inr now ↦ given_said r h num u v (said_at r laws (Ask u) p.words (met.0.may, laws.core.proper r laws.layers h met.1) num v now)
    ]
