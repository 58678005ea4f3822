-- What a call says of each test that its closure computes, where the test opens by groups and what is held is at right slots.
use Rattle.std.specs.Prelude.{ℕ, Bool, List}
use Rattle.ritas_base.specs.declared.item.Item.{Item}
use Rattle.ritas_base.specs.declared.slot.Slot.{Slot}
use Rattle.ooc_buffers.specs.Lists.{HeldItem}
use Rattle.ooc_buffers.specs.Closures.{Computes}
use Rattle.ooc_buffers.specs.Groups.{GoesBy, EndsByGroups, AreRight, AreAllRight}
use Rattle.ooc_buffers.specs.Spots.{Spotted, held_in, AreAt}
use denote.Param.Members.{Shared}
use denote.Ref.{Bor}

-- of what is held for all peers
abbrev pub ByGroups : {F : Type 0} → Shared F (Bor Item × Unit {0}) Bool → F → List (List HeldItem) → ((Item → Bool) → Type 0) → Type 0
ByGroups g f held P = (t : Item → Bool) (right : Slot → Bool) → Computes g f t → GoesBy right t → AreAllRight right held → P t

-- the same of a test that ends whole groups
abbrev pub ByWholeGroups : {F : Type 0} → Shared F (Bor Item × Unit {0}) Bool → F → List (List HeldItem) → ((Item → Bool) → Type 0) → Type 0
ByWholeGroups g f held P = (t : Item → Bool) (right : Slot → Bool) → Computes g f t → EndsByGroups right t → AreAllRight right held → P t

-- of what is held for one peer
abbrev pub OneByGroups : {F : Type 0} → Shared F (Bor Item × Unit {0}) Bool → F → List HeldItem → ((Item → Bool) → Type 0) → Type 0
OneByGroups g f kept P = (t : Item → Bool) (right : Slot → Bool) → Computes g f t → GoesBy right t → AreRight right kept → P t

-- and of that by its spots
abbrev pub SpotsByGroups : {F : Type 0} → Shared F (Bor Item × Unit {0}) Bool → F → List Spotted → ((Item → Bool) → Type 0) → Type 0
SpotsByGroups g f xs P = (t : Item → Bool) (right : Slot → Bool) (next : ℕ) → Computes g f t → GoesBy right t → AreAt next xs → AreRight right (held_in xs) → P t
