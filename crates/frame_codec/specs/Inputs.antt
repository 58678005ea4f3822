-- The inputs of the root services: commands in 1, 2, 6 and 7, a bit in 3, and proposals in 4 and 5.
use Rattle.std.specs.Prelude.{ℕ, ◌-◌, Bool, ◌==◌, ◌&&◌, List, length, Option, Some, None, Result, Ok, Err, if◌then◌else◌}
use Rattle.ritas_base.specs.Numbers.{Numbers}
use Rattle.ritas_base.specs.declared.slot.Slot.{Slot}
use Rattle.ritas_base.specs.declared.mode.Mode.{Mode}
use Rattle.ritas_base.specs.declared.item.Kind.{Kind}
use Rattle.ritas_base.specs.declared.item.Kind.TheVariants.{Init, Send}
use Rattle.frame_codec.specs.Format.{Format, Is, read}
use Rattle.frame_codec.specs.Grammar.{class1, class2, class3, bit}

unfoldable pub input_format : Numbers → ℕ → Format
input_format p root =
    if root == 3 then bit 1
    else if root == 4 then class3 p root
    else if root == 5 then class2 p root
    else class1 root

-- The bytes are an input of the root service.
abbrev pub IsInput : Numbers → Mode → List ℕ → Type 0
IsInput p mode bytes = Is (input_format p mode.root) bytes

-- where a reading of so many bytes went wrong, counted from their first byte
abbrev pub fault_offset : ℕ → Result (List ℕ) ℕ → Option ℕ
fault_offset len (Err left) = Some (len - left)
fault_offset len (Ok rest) = if length rest == 0 then None else Some (len - length rest)

-- the offset of the first byte that is wrong, missing or too much
abbrev pub input_fault : Numbers → Mode → List ℕ → Option ℕ
input_fault p mode bytes = fault_offset (length bytes) (read (input_format p mode.root) bytes)

-- whether an input is the value of such a slot
abbrev pub takes_input : ℕ → Slot → Bool
takes_input root s =
    if root == 3 then s.class == 5 && s.step == 1
    else if root == 4 then s.class == 3
    else if root == 5 then s.class == 2
    else s.class == 1

-- the kind that begins a broadcast
abbrev pub first_kind : Bool → Kind
first_kind echo = if echo then Send else Init
