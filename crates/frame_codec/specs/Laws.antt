-- What holds of bodies and inputs, each statement with a name, so that a lemma can have it as a premise.
use Rattle.std.specs.Prelude.{◌≡◌, ◌↔◌, ℕ, ◌<◌, List, true, None, Ok}
use Rattle.ritas_base.specs.Limits.{number_limit}
use Rattle.ritas_base.specs.Numbers.{Numbers, IsSession}
use Rattle.ritas_base.specs.Slots.{has_class, slot_fault, command_slot}
use Rattle.ritas_base.specs.declared.slot.Slot.{Slot}
use Rattle.ritas_base.specs.declared.mode.Mode.{Mode}
use Rattle.ritas_base.specs.declared.item.Item.{Item}
use Rattle.frame_codec.specs.Format.{Is}
use Rattle.frame_codec.specs.Grammar.{value}
use Rattle.frame_codec.specs.Body.{Spells, IsInGrammar, body_answer}
use Rattle.frame_codec.specs.Inputs.{IsInput, takes_input, input_fault}
use Rattle.ritas_base.specs.Bytes.{IsBytes}

-- an item that bytes are answered as is in the grammar, and from the sender
abbrev pub AnswersGood : Type 0
AnswersGood = (p : Numbers) (mode : Mode) (from : ℕ) (bytes : List ℕ) (item : Item) → IsSession p
    → body_answer p mode from bytes ≡ Ok item → IsInGrammar p mode item × (item.from ≡ from)

-- and the bytes spell it
abbrev pub AnswersSpelled : Type 0
AnswersSpelled = (p : Numbers) (mode : Mode) (from : ℕ) (bytes : List ℕ) (item : Item) → IsSession p → IsBytes bytes
    → body_answer p mode from bytes ≡ Ok item → Spells p mode from bytes item

-- nothing is wrong with bytes exactly where they are an input
abbrev pub InputsFaultless : Type 0
InputsFaultless = (p : Numbers) (mode : Mode) (bytes : List ℕ) → (input_fault p mode bytes ≡ None) ↔ IsInput p mode bytes

-- an input is the value of each slot that it is for
abbrev pub InputsAreValues : Type 0
InputsAreValues = (p : Numbers) (mode : Mode) (s : Slot) (bytes : List ℕ) → takes_input mode.root s ≡ true
    → IsInput p mode bytes → Is (value p mode.root s) bytes

-- nothing is wrong with a replica's slot of a command, where the root service has commands
abbrev pub CommandSlotsRight : Type 0
CommandSlotsRight = (p : Numbers) (mode : Mode) (origin num : ℕ) → has_class mode.root 1 ≡ true → origin < p.n
    → num < number_limit → slot_fault p mode (command_slot origin num) ≡ None
