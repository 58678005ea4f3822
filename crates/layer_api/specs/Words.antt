-- Words to a layer, the newest first, and what it says: the broadcasts that it starts.
use Rattle.std.specs.Prelude.{◌≡◌, ℕ, ◌+◌, Bool, true, false, ◌||◌, List, [], ◌∷◌, ◌++◌, Option, Some, None, ⊤, ◌⊎◌, if◌then◌else◌}
use Rattle.std.specs.List.{list_any}
use Rattle.std.specs.Option.{option_or}
use Rattle.ritas_base.specs.declared.slot.Slot.{Slot}
use Rattle.ritas_base.specs.declared.item.Say.{Say}
use Rattle.ritas_base.specs.SlotOrder.{is_slot}

-- a word: an input or a proposal, or what a slot delivered
pub data Word : Type 0 where
  Ask : List ℕ → Word
  Hear : Slot → List ℕ → Word

-- whether the slot was heard
abbrev pub is_heard : List Word → Slot → Bool
is_heard [] s = false
is_heard (Ask v ∷ w) s = is_heard w s
is_heard (Hear q v ∷ w) s = is_slot q s || is_heard w s

-- the first value that was heard at a slot
abbrev pub value_at : List Word → Slot → Option (List ℕ)
value_at [] s = None
value_at (Ask v ∷ w) s = value_at w s
value_at (Hear q v ∷ w) s = option_or (value_at w s) (if is_slot q s then Some v else None)

-- how many inputs or proposals there were
abbrev pub asked : List Word → ℕ
asked [] = 0
asked (Ask v ∷ w) = asked w + 1
asked (Hear q v ∷ w) = asked w

-- the byte of a bit
abbrev pub bit_byte : Bool → ℕ
bit_byte false = 0
bit_byte true = 1

-- each of these words met its conditions
abbrev pub AllMet : (List Word → Word → Type 0) → List Word → Type 0
AllMet may [] = ⊤
AllMet may (c ∷ w) = may w c × AllMet may w

-- the say is among these
abbrev pub HasSay : List Say → Say → Type 0
HasSay [] y = ⊥
HasSay (x ∷ xs) y = (x ≡ y) ⊎ HasSay xs y

-- whether a slot is one of those said
abbrev pub is_said : List Say → Slot → Bool
is_said says s = list_any (λ y. is_slot y.slot s) says

-- the value that is said at a slot, if one is: that of the first of these says that is at it
abbrev pub said_value : List Say → Slot → Option (List ℕ)
said_value [] s = None
said_value (y ∷ ys) s = if is_slot y.slot s then Some y.value else said_value ys s

-- all that is said in some words
abbrev pub all_said : (List Word → Word → List Say) → List Word → List Say
all_said says [] = []
all_said says (c ∷ w) = says w c ++ all_said says w

-- each is as it must be, and at a slot where nothing was said before nor is by another of them
abbrev pub AreFresh : (Say → Type 0) → List Say → List Say → Type 0
AreFresh P before [] = ⊤
AreFresh P before (y ∷ ys) = P y × (is_said before y.slot ≡ false) × (is_said ys y.slot ≡ false) × AreFresh P before ys
