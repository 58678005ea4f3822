-- Each body is of one case, and its fault is that of the case.
use Rattle.std.proofs.Common.{◌≡◌, ℕ, ◌-◌, ◌<◌, ◌≤◌, Bool, true, false, ltb, eqb, List, length, drop, Option, Some, None, Result, Ok, Err, refl, sym, ap, subst, ◌∙◌, arith, inl, inr}
use Rattle.std.specs.Prelude.{◌↔◌}
use Rattle.std.proofs.lemmas.Bool.{ltb-false, ltb-true, lt-ltb, le-ltb, eqb-false, ne_eqb}
use Rattle.ritas_base.specs.Numbers.{Numbers}
use Rattle.ritas_base.specs.Slots.{slot_fault, form_of}
use Rattle.ritas_base.specs.declared.slot.SlotFault.{SlotFault}
use Rattle.ritas_base.specs.declared.slot.SlotFault.TheVariants.{Whole}
use Rattle.ritas_base.specs.declared.mode.Mode.{Mode}
use Rattle.ritas_base.specs.declared.item.Item.{Item}
use Rattle.ritas_base.specs.declared.item.Kind.{Kind}
use Rattle.frame_codec.specs.declared.fault.BodyFault.{BodyFault}
use Rattle.frame_codec.specs.declared.fault.BodyFault.TheVariants as faults
use Rattle.frame_codec.specs.Format.{read}
use Rattle.frame_codec.specs.Grammar.{payload}
use Rattle.frame_codec.specs.Body.{body_kind, slot_at, is_of_form, head_answer, body_answer, Answers}
use Rattle.frame_codec.specs.Faults.{HasSlot, HasHead, IsKindFault, IsSlotFault, IsPayloadFault, IsRestFault}

abbrev reading : Numbers → Mode → Kind → List ℕ → Result (List ℕ) ℕ
reading p mode kind bytes = read (payload p mode kind (slot_at bytes)) (drop 10 bytes)

-- ---- the answer of each case

no_kind : (p : Numbers) (mode : Mode) (from : ℕ) (bytes : List ℕ) → body_kind mode.version bytes ≡ None → body_answer p mode from bytes ≡ Err faults.Kind
unfolding body_answer head_answer
no_kind p mode from bytes none = rw none refl

short_slot : (p : Numbers) (mode : Mode) (from : ℕ) (bytes : List ℕ) (kind : Kind) → body_kind mode.version bytes ≡ Some kind → length bytes < 10
    → body_answer p mode from bytes ≡ Err (faults.Slot Whole)
unfolding body_answer head_answer
short_slot p mode from bytes kind begins short = rw (begins, lt-ltb (length bytes) 10 short) refl

wrong_slot : (p : Numbers) (mode : Mode) (from : ℕ) (bytes : List ℕ) (kind : Kind) (x : SlotFault) → body_kind mode.version bytes ≡ Some kind → 10 ≤ length bytes
    → slot_fault p mode (slot_at bytes) ≡ Some x → body_answer p mode from bytes ≡ Err (faults.Slot x)
unfolding body_answer head_answer
wrong_slot p mode from bytes kind x begins whole wrong = rw (begins, le-ltb (length bytes) 10 whole, wrong) refl

other_kind : (p : Numbers) (mode : Mode) (from : ℕ) (bytes : List ℕ) (kind : Kind) → HasSlot p mode bytes kind
    → is_of_form (form_of mode (slot_at bytes)) kind ≡ false → body_answer p mode from bytes ≡ Err faults.Kind
unfolding body_answer head_answer
other_kind p mode from bytes kind has other = rw (has.begins, le-ltb (length bytes) 10 has.whole, has.right, other) refl

wrong_payload : (p : Numbers) (mode : Mode) (from : ℕ) (bytes : List ℕ) (kind : Kind) (left : ℕ) → HasHead p mode bytes kind
    → reading p mode kind bytes ≡ Err left → body_answer p mode from bytes ≡ Err (faults.Payload (length bytes - left))
unfolding body_answer head_answer
wrong_payload p mode from bytes kind left has wrong =
    rw (has.slot.begins, le-ltb (length bytes) 10 has.slot.whole, has.slot.right, has.goes, wrong) refl

more_bytes : (p : Numbers) (mode : Mode) (from : ℕ) (bytes : List ℕ) (kind : Kind) (rest : List ℕ) → HasHead p mode bytes kind
    → reading p mode kind bytes ≡ Ok rest → 0 < length rest → body_answer p mode from bytes ≡ Err (faults.Rest (length bytes - length rest))
unfolding body_answer head_answer
more_bytes p mode from bytes kind rest has right more =
    let some : eqb (length rest) 0 ≡ false = ne_eqb (length rest) 0 (omega (arith, more)) in
    rw (has.slot.begins, le-ltb (length bytes) 10 has.slot.whole, has.slot.right, has.goes, right, some) refl

no_fault : (p : Numbers) (mode : Mode) (from : ℕ) (bytes : List ℕ) (kind : Kind) (rest : List ℕ) → HasHead p mode bytes kind
    → reading p mode kind bytes ≡ Ok rest → eqb (length rest) 0 ≡ true
    → body_answer p mode from bytes ≡ Ok (record { from = from; kind = kind; slot = slot_at bytes; value = drop 10 bytes })
unfolding body_answer head_answer
no_fault p mode from bytes kind rest has right none =
    rw (has.slot.begins, le-ltb (length bytes) 10 has.slot.whole, has.slot.right, has.goes, right, none) refl

-- ---- the cases

abbrev Finding : Numbers → Mode → List ℕ → Result Item BodyFault → Type 0
Finding p mode bytes (Ok item) = Unit {0}
Finding p mode bytes (Err faults.Kind) = IsKindFault p mode bytes
Finding p mode bytes (Err (faults.Slot x)) = IsSlotFault p mode bytes x
Finding p mode bytes (Err (faults.Payload offset)) = IsPayloadFault p mode bytes offset
Finding p mode bytes (Err (faults.Rest offset)) = IsRestFault p mode bytes offset
Finding p mode bytes (Err faults.Mem) = ⊥

abbrev Found : Numbers → Mode → ℕ → List ℕ → Type 0
Found p mode from bytes = (answer : Result Item BodyFault) × (body_answer p mode from bytes ≡ answer) × Finding p mode bytes answer

by_rest : (p : Numbers) (mode : Mode) (from : ℕ) (bytes : List ℕ) (kind : Kind) (rest : List ℕ) (none : Bool) → HasHead p mode bytes kind
    → reading p mode kind bytes ≡ Ok rest → eqb (length rest) 0 ≡ none → Found p mode from bytes
by_rest p mode from bytes kind rest true has right e =
    (Ok (record { from = from; kind = kind; slot = slot_at bytes; value = drop 10 bytes }), no_fault p mode from bytes kind rest has right e, tt)
by_rest p mode from bytes kind rest false has right e =
    let some = eqb-false (length rest) 0 e in
    let more : 0 < length rest = omega (arith, some) in
    (Err (faults.Rest (length bytes - length rest)), more_bytes p mode from bytes kind rest has right more, (kind, has, rest, right, more, refl))

by_reading : (p : Numbers) (mode : Mode) (from : ℕ) (bytes : List ℕ) (kind : Kind) (r : Result (List ℕ) ℕ) → HasHead p mode bytes kind
    → reading p mode kind bytes ≡ r → Found p mode from bytes
by_reading p mode from bytes kind (Err left) has e =
    (Err (faults.Payload (length bytes - left)), wrong_payload p mode from bytes kind left has e, (kind, has, left, e, refl))
by_reading p mode from bytes kind (Ok rest) has e = by_rest p mode from bytes kind rest (eqb (length rest) 0) has e refl

by_broadcast : (p : Numbers) (mode : Mode) (from : ℕ) (bytes : List ℕ) (kind : Kind) (goes : Bool) → HasSlot p mode bytes kind
    → is_of_form (form_of mode (slot_at bytes)) kind ≡ goes → Found p mode from bytes
by_broadcast p mode from bytes kind true has e =
    by_reading p mode from bytes kind (reading p mode kind bytes) (record { slot = has; goes = e }) refl
by_broadcast p mode from bytes kind false has e = (Err faults.Kind, other_kind p mode from bytes kind has e, inr (kind, has, e))

by_slot : (p : Numbers) (mode : Mode) (from : ℕ) (bytes : List ℕ) (kind : Kind) (o : Option SlotFault) → body_kind mode.version bytes ≡ Some kind
    → 10 ≤ length bytes → slot_fault p mode (slot_at bytes) ≡ o → Found p mode from bytes
by_slot p mode from bytes kind None begins whole e =
    by_broadcast p mode from bytes kind (is_of_form (form_of mode (slot_at bytes)) kind) (record { begins = begins; whole = whole; right = e }) refl
by_slot p mode from bytes kind (Some x) begins whole e =
    (Err (faults.Slot x), wrong_slot p mode from bytes kind x begins whole e, (kind, begins, inr (whole, e)))

by_length : (p : Numbers) (mode : Mode) (from : ℕ) (bytes : List ℕ) (kind : Kind) (short : Bool) → body_kind mode.version bytes ≡ Some kind
    → ltb (length bytes) 10 ≡ short → Found p mode from bytes
by_length p mode from bytes kind true begins e =
    let short = ltb-true (length bytes) 10 e in
    (Err (faults.Slot Whole), short_slot p mode from bytes kind begins short, (kind, begins, inl (short, refl)))
by_length p mode from bytes kind false begins e =
    by_slot p mode from bytes kind (slot_fault p mode (slot_at bytes)) begins (ltb-false (length bytes) 10 e) refl

by_kind : (p : Numbers) (mode : Mode) (from : ℕ) (bytes : List ℕ) (o : Option Kind) → body_kind mode.version bytes ≡ o → Found p mode from bytes
by_kind p mode from bytes None e = (Err faults.Kind, no_kind p mode from bytes e, inl e)
by_kind p mode from bytes (Some kind) e = by_length p mode from bytes kind (ltb (length bytes) 10) e refl

found_at : (p : Numbers) (mode : Mode) (from : ℕ) (bytes : List ℕ) (answer : Result Item BodyFault)
    → body_answer p mode from bytes ≡ answer → Finding p mode bytes answer
found_at p mode from bytes answer e =
    let f = by_kind p mode from bytes (body_kind mode.version bytes) refl in
    subst (Finding p mode bytes) (sym f.1 ∙ e) f.2

-- ---- what is returned where a step fails

-- the fault of the whole answer isn't want of memory
answers_fault : (p : Numbers) (mode : Mode) (from : ℕ) (bytes : List ℕ) (fault : BodyFault) → body_answer p mode from bytes ≡ Err fault
    → Answers (Err fault) (body_answer p mode from bytes)
answers_fault p mode from bytes faults.Kind e = e
answers_fault p mode from bytes (faults.Slot x) e = e
answers_fault p mode from bytes (faults.Payload offset) e = e
answers_fault p mode from bytes (faults.Rest offset) e = e
answers_fault p mode from bytes faults.Mem e = absurd (found_at p mode from bytes (Err faults.Mem) e)

pub head_fails : (p : Numbers) (mode : Mode) (from : ℕ) (bytes : List ℕ) (fault : BodyFault) → head_answer p mode bytes ≡ Err fault
    → Answers (Err fault) (body_answer p mode from bytes)
unfolding body_answer
head_fails p mode from bytes fault wrong = answers_fault p mode from bytes fault (rw wrong refl)

-- ---- both ways

pub kind_fault : (p : Numbers) (mode : Mode) (from : ℕ) (bytes : List ℕ) → (body_answer p mode from bytes ≡ Err faults.Kind) ↔ IsKindFault p mode bytes
kind_fault p mode from bytes = (
  found_at p mode from bytes (Err faults.Kind),
  λ is. elim is [ inl none ↦ no_kind p mode from bytes none | inr w ↦ other_kind p mode from bytes w.0 w.1 w.2 ],
)

pub slot_fault_comes : (p : Numbers) (mode : Mode) (from : ℕ) (bytes : List ℕ) (x : SlotFault)
    → (body_answer p mode from bytes ≡ Err (faults.Slot x)) ↔ IsSlotFault p mode bytes x
slot_fault_comes p mode from bytes x = (
  found_at p mode from bytes (Err (faults.Slot x)),
  λ is. elim is.2 [
    | inl w ↦ short_slot p mode from bytes is.0 is.1 w.0 ∙ ap (λ (y : SlotFault). Err (faults.Slot y)) w.1
    | inr w ↦ wrong_slot p mode from bytes is.0 x is.1 w.0 w.1
  ],
)

pub payload_fault_comes : (p : Numbers) (mode : Mode) (from : ℕ) (bytes : List ℕ) (offset : ℕ)
    → (body_answer p mode from bytes ≡ Err (faults.Payload offset)) ↔ IsPayloadFault p mode bytes offset
payload_fault_comes p mode from bytes offset = (
  found_at p mode from bytes (Err (faults.Payload offset)),
  λ is. wrong_payload p mode from bytes is.0 is.2 is.1 is.3 ∙ ap (λ (n : ℕ). Err (faults.Payload n)) is.4,
)

pub rest_fault_comes : (p : Numbers) (mode : Mode) (from : ℕ) (bytes : List ℕ) (offset : ℕ)
    → (body_answer p mode from bytes ≡ Err (faults.Rest offset)) ↔ IsRestFault p mode bytes offset
rest_fault_comes p mode from bytes offset = (
  found_at p mode from bytes (Err (faults.Rest offset)),
  λ is. more_bytes p mode from bytes is.0 is.2 is.1 is.3 is.4 ∙ ap (λ (n : ℕ). Err (faults.Rest n)) is.5,
)
