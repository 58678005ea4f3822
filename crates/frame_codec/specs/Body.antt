-- Bodies: which bytes spell which item, and the fault of those that spell none.
use Rattle.std.specs.Prelude.{◌≡◌, ℕ, ◌-◌, Bool, true, false, not, ◌==◌, nat_lt, List, ◌∷◌, ◌++◌, length, slice_index, take, drop, Option, Some, None, Result, Ok, Err, if◌then◌else◌}
use Rattle.std.specs.Int.{w32, from_be_bytes}
use Rattle.ritas_base.specs.Numbers.{Numbers, IsSession}
use Rattle.ritas_base.specs.Slots.{slot_fault, slot_bytes, form_of}
use Rattle.ritas_base.specs.declared.slot.Slot.{Slot}
use Rattle.ritas_base.specs.declared.slot.SlotFault.{SlotFault}
use Rattle.ritas_base.specs.declared.slot.SlotFault.TheVariants.{Whole}
use Rattle.ritas_base.specs.declared.mode.Mode.{Mode}
use Rattle.ritas_base.specs.declared.mode.FrameVersion.{FrameVersion}
use Rattle.ritas_base.specs.declared.mode.FrameVersion.TheVariants.{One}
use Rattle.ritas_base.specs.declared.item.Item.{Item}
use Rattle.ritas_base.specs.declared.item.Kind.{Kind}
use Rattle.ritas_base.specs.declared.item.Kind.TheVariants as kinds
use Rattle.frame_codec.specs.declared.fault.BodyFault.{BodyFault}
use Rattle.frame_codec.specs.declared.fault.BodyFault.TheVariants as faults
use Rattle.frame_codec.specs.Format.{Is, read, ◌>>=◌}
use Rattle.frame_codec.specs.Grammar.{carries_digest, payload}

abbrev pub kind_byte : Kind → ℕ
kind_byte kinds.Init = 1
kind_byte kinds.Echo = 2
kind_byte kinds.Ready = 3
kind_byte kinds.Send = 4
kind_byte kinds.Hashes = 5
kind_byte kinds.Column = 6
kind_byte kinds.Want = 7
kind_byte kinds.Value = 8

-- whether a broadcast of this form has this kind: form 2 is echo broadcast, and 3 reliable broadcast with digests
abbrev pub is_of_form : ℕ → Kind → Bool
is_of_form form kinds.Init = not (form == 2)
is_of_form form kinds.Echo = not (form == 2)
is_of_form form kinds.Ready = not (form == 2)
is_of_form form kinds.Send = form == 2
is_of_form form kinds.Hashes = form == 2
is_of_form form kinds.Column = form == 2
is_of_form form kinds.Want = form == 3
is_of_form form kinds.Value = form == 3

-- whether what comes with this kind in a broadcast of this form is the slot's value
abbrev pub carries_value : ℕ → Kind → Bool
carries_value form kinds.Hashes = false
carries_value form kinds.Column = false
carries_value form kind = not (carries_digest form kind)

-- ---- the grammar

pub record IsInGrammar (p : Numbers) (mode : Mode) (item : Item) : Type 0 where
  pub session : IsSession p
  pub slot : slot_fault p mode item.slot ≡ None
  pub kind : is_of_form (form_of mode item.slot) item.kind ≡ true
  pub payload_is : Is (payload p mode item.kind item.slot) item.value

-- the one spelling of an item
abbrev pub spelling : Item → List ℕ
spelling item = kind_byte item.kind ∷ slot_bytes item.slot ++ item.value

pub record Spells (p : Numbers) (mode : Mode) (from : ℕ) (bytes : List ℕ) (item : Item) : Type 0 where
  pub sender : item.from ≡ from
  pub is_spelling : bytes ≡ spelling item
  pub in_grammar : IsInGrammar p mode item

-- ---- the answer

abbrev pub kind_of : ℕ → Option Kind
kind_of b =
    if b == 1 then Some kinds.Init
    else if b == 2 then Some kinds.Echo
    else if b == 3 then Some kinds.Ready
    else if b == 4 then Some kinds.Send
    else if b == 5 then Some kinds.Hashes
    else if b == 6 then Some kinds.Column
    else if b == 7 then Some kinds.Want
    else if b == 8 then Some kinds.Value
    else None

-- whether frames of this version have this kind
abbrev pub is_of_version : FrameVersion → Kind → Bool
is_of_version One kinds.Want = false
is_of_version One kinds.Value = false
is_of_version version kind = true

-- the kind, where frames of this version have it
abbrev pub if_of_version : FrameVersion → Option Kind → Option Kind
if_of_version version None = None
if_of_version version (Some kind) = if is_of_version version kind then Some kind else None

-- the kind that a body begins with
abbrev pub body_kind : FrameVersion → List ℕ → Option Kind
body_kind version bytes = if length bytes == 0 then None else if_of_version version (kind_of (slice_index bytes 0))

-- the slot that nine bytes are
unfoldable pub slot_of : List ℕ → Slot
slot_of b = record {
  class = slice_index b 0;
  a = from_be_bytes w32 (take 4 (drop 1 b));
  attempt = slice_index b 5;
  bround = slice_index b 6;
  step = slice_index b 7;
  origin = slice_index b 8;
}

-- the slot that stands behind the kind
abbrev pub slot_at : List ℕ → Slot
slot_at bytes = slot_of (take 9 (drop 1 bytes))

abbrev pub unless : {A : Type 0} → Option BodyFault → Result A BodyFault → Result A BodyFault
unless None answer = answer
unless (Some x) answer = Err x

-- the kind and the slot
abbrev pub slot_fault_of : Option SlotFault → Option BodyFault
slot_fault_of None = None
slot_fault_of (Some x) = Some (faults.Slot x)

abbrev pub slot_answer : Numbers → Mode → Kind → Slot → Result (Kind × Slot) BodyFault
slot_answer p mode kind slot =
    unless (slot_fault_of (slot_fault p mode slot))
    (if is_of_form (form_of mode slot) kind then Ok (kind, slot) else Err faults.Kind)

abbrev pub kind_answer : Numbers → Mode → List ℕ → Option Kind → Result (Kind × Slot) BodyFault
kind_answer p mode bytes None = Err faults.Kind
kind_answer p mode bytes (Some kind) =
    if nat_lt (length bytes) 10 then Err (faults.Slot Whole) else slot_answer p mode kind (slot_at bytes)

unfoldable pub head_answer : Numbers → Mode → List ℕ → Result (Kind × Slot) BodyFault
head_answer p mode bytes = kind_answer p mode bytes (body_kind mode.version bytes)

-- offsets are counted from the body's first byte
abbrev pub payload_fault : ℕ → Result (List ℕ) ℕ → Option BodyFault
payload_fault len (Err left) = Some (faults.Payload (len - left))
payload_fault len (Ok rest) = if length rest == 0 then None else Some (faults.Rest (len - length rest))

unfoldable pub body_answer : Numbers → Mode → ℕ → List ℕ → Result Item BodyFault
body_answer p mode from bytes = do
  head ← head_answer p mode bytes
  unless (payload_fault (length bytes) (read (payload p mode head.0 head.1) (drop 10 bytes)))
      (Ok (record { from = from; kind = head.0; slot = head.1; value = drop 10 bytes }))

-- What a function returned is this answer, or it has run out of memory where the answer is an item.
abbrev pub Answers : Result Item BodyFault → Result Item BodyFault → Type 0
Answers (Ok item) answer = answer ≡ Ok item
Answers (Err faults.Mem) answer = (item : Item) × (answer ≡ Ok item)
Answers (Err fault) answer = answer ≡ Err fault
