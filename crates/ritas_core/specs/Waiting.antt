-- What held items wait for: what must be told of them where a step goes over some of them only.
use Rattle.std.specs.Prelude.{◌≡◌, Bool, true, ◌&&◌, List, []}
use Rattle.ritas_base.specs.declared.slot.Slot.{Slot}
use Rattle.ritas_base.specs.declared.item.Item.{Item}
use Rattle.ritas_base.specs.declared.item.Kind.TheVariants.{Column}
use Rattle.ritas_base.specs.SlotOrder.{is_slot}
use Rattle.ritas_base.specs.Messages.{kind_eq}
use Rattle.ooc_buffers.specs.Lists.{HeldItem, released, remaining}
use Rattle.ooc_buffers.specs.Groups.{OpensByGroups, EndsByGroups, AreAllRight}
use Rattle.ritas_core.specs.declared.change.Change.{Change}
use Rattle.ritas_core.specs.declared.change.Change.TheVariants as changes
use Rattle.ritas_core.specs.declared.layers.Layers.{Layers}
use Rattle.ritas_core.specs.Parts.{Parts}
use Rattle.ritas_core.specs.Stands.{Meaning, Each}
use Rattle.ritas_core.specs.LayerCalls.{is_past_in, is_open_in}

-- none of the held items passes
pub record NonePasses (test : Item → Bool) (held : List (List HeldItem)) : Type 0 where
  pub none : released test held ≡ []
  pub same : remaining test held ≡ held

-- the held items open by groups
pub record AreGrouped (test : Item → Bool) (held : List (List HeldItem)) : Type 0 where
  pub right : Slot → Bool
  pub opens : OpensByGroups right test
  pub all : AreAllRight right held

-- and end by groups
pub record AreEnding (test : Item → Bool) (held : List (List HeldItem)) : Type 0 where
  pub right : Slot → Bool
  pub ends : EndsByGroups right test
  pub all : AreAllRight right held

-- an item is a column of this slot
abbrev pub is_column_at : Slot → Item → Bool
is_column_at slot x = kind_eq x.kind Column && is_slot slot x.slot

-- the held items open by groups, and no others than columns of this slot do
pub record AreColumns (slot : Slot) (test : Item → Bool) (held : List (List HeldItem)) : Type 0 where
  pub grouped : AreGrouped test held
  pub columns : Each (λ x. test x ≡ true → is_column_at slot x ≡ true) held

-- held items may have opened, by what changed
abbrev pub MayOpen : {S E C T : Type 0} → Meaning S E C T → Change → Layers S E C T → Parts → List (List HeldItem) → Type 0
MayOpen m changes.Cast layers p held = NonePasses (is_open_in m layers p) held
MayOpen m (changes.Columns slot) layers p held = AreColumns slot (is_open_in m layers p) held
MayOpen m changes.Service layers p held = AreGrouped (is_open_in m layers p) held

-- and may be past
abbrev pub MayEnd : {S E C T : Type 0} → Meaning S E C T → Change → Layers S E C T → Parts → List (List HeldItem) → Type 0
MayEnd m changes.Cast layers p held = NonePasses (λ x. is_past_in m layers p x.slot) held
MayEnd m (changes.Columns slot) layers p held = NonePasses (λ x. is_past_in m layers p x.slot) held
MayEnd m changes.Service layers p held = AreEnding (λ x. is_past_in m layers p x.slot) held

-- both
pub record MayLeave {S E C T : Type 0} (m : Meaning S E C T) (change : Change) (layers : Layers S E C T) (p : Parts) (held : List (List HeldItem)) : Type 0 where
  pub opens : MayOpen m change layers p held
  pub ends : MayEnd m change layers p (remaining (is_open_in m layers p) held)
