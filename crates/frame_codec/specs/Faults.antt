-- When each fault of a body comes, in words on the body.
use Rattle.std.specs.Prelude.{◌≡◌, ℕ, ◌-◌, ◌<◌, ◌≤◌, ◌⊎◌, true, false, List, length, drop, Some, None, Ok, Err}
use Rattle.ritas_base.specs.Numbers.{Numbers}
use Rattle.ritas_base.specs.Slots.{slot_fault, form_of}
use Rattle.ritas_base.specs.declared.slot.SlotFault.{SlotFault}
use Rattle.ritas_base.specs.declared.slot.SlotFault.TheVariants.{Whole}
use Rattle.ritas_base.specs.declared.mode.Mode.{Mode}
use Rattle.ritas_base.specs.declared.item.Kind.{Kind}
use Rattle.frame_codec.specs.Format.{read}
use Rattle.frame_codec.specs.Grammar.{payload}
use Rattle.frame_codec.specs.Body.{body_kind, slot_at, is_of_form}

-- a kind, and a whole slot that is right
pub record HasSlot (p : Numbers) (mode : Mode) (bytes : List ℕ) (kind : Kind) : Type 0 where
  pub begins : body_kind mode.version bytes ≡ Some kind
  pub whole : 10 ≤ length bytes
  pub right : slot_fault p mode (slot_at bytes) ≡ None

-- and the slot's broadcast has the kind
pub record HasHead (p : Numbers) (mode : Mode) (bytes : List ℕ) (kind : Kind) : Type 0 where
  pub slot : HasSlot p mode bytes kind
  pub goes : is_of_form (form_of mode (slot_at bytes)) kind ≡ true

-- there is no kind, or the broadcast of a right slot hasn't it
abbrev pub IsKindFault : Numbers → Mode → List ℕ → Type 0
IsKindFault p mode bytes =
    (body_kind mode.version bytes ≡ None)
    ⊎ ((kind : Kind) × HasSlot p mode bytes kind × (is_of_form (form_of mode (slot_at bytes)) kind ≡ false))

-- there is a kind, and the slot isn't whole or has this fault
abbrev pub IsSlotFault : Numbers → Mode → List ℕ → SlotFault → Type 0
IsSlotFault p mode bytes x =
    (kind : Kind) × (body_kind mode.version bytes ≡ Some kind)
    × (((length bytes < 10) × (Whole ≡ x)) ⊎ ((10 ≤ length bytes) × (slot_fault p mode (slot_at bytes) ≡ Some x)))

-- the payload is read from the left up to a fault at this offset
abbrev pub IsPayloadFault : Numbers → Mode → List ℕ → ℕ → Type 0
IsPayloadFault p mode bytes offset =
    (kind : Kind) × HasHead p mode bytes kind
    × (left : ℕ) × (read (payload p mode kind (slot_at bytes)) (drop 10 bytes) ≡ Err left) × (length bytes - left ≡ offset)

-- a whole payload is read, and bytes follow it from this offset on
abbrev pub IsRestFault : Numbers → Mode → List ℕ → ℕ → Type 0
IsRestFault p mode bytes offset =
    (kind : Kind) × HasHead p mode bytes kind
    × (rest : List ℕ) × (read (payload p mode kind (slot_at bytes)) (drop 10 bytes) ≡ Ok rest) × (0 < length rest)
    × (length bytes - length rest ≡ offset)
