-- Groups of held items: what opens and is past together.
use Rattle.std.specs.Prelude.{◌≡◌, ◌≤◌, Bool, true, ◌==◌, List, if◌then◌else◌}
use Rattle.std.specs.List.{AllByRecursion}
use Rattle.ritas_base.specs.declared.item.Kind.TheVariants.{Column}
use Rattle.ritas_base.specs.declared.item.Item.{Item}
use Rattle.ritas_base.specs.declared.slot.Slot.{Slot}
use Rattle.ritas_base.specs.Messages.{kind_eq}
use Rattle.ooc_buffers.specs.Lists.{HeldItem}
use Rattle.ooc_buffers.specs.declared.group.Group.{Group}

-- the slot of a group whose items aren't columns: of its class, number and attempt, and for commands of its origin
abbrev pub plain_slot : Slot → Slot
plain_slot s = record { class = s.class; a = s.a; attempt = s.attempt; bround = 0; step = 0; origin = if s.class == 1 then s.origin else 0 }

-- the group of an item: the columns of each slot are one, and of other items those of one class, number and attempt are, which
-- have rounds, and the commands of each origin
abbrev pub group_of : Item → Group
group_of item = record {
  is_column = kind_eq item.kind Column;
  slot = if kind_eq item.kind Column then item.slot else plain_slot item.slot;
}

-- where an item passes, each of its group whose round is no later passes too; this is said of items at right slots alone
abbrev pub OpensByGroups : (Slot → Bool) → (Item → Bool) → Type 0
OpensByGroups right t = (x y : Item) → right x.slot ≡ true → right y.slot ≡ true → group_of x ≡ group_of y → x.slot.bround ≤ y.slot.bround → t y ≡ true → t x ≡ true

-- the test opens by groups, as a record that is passed on whole
pub record GoesBy (right : Slot → Bool) (t : Item → Bool) : Type 0 where
  pub opens : OpensByGroups right t

-- where an item passes, each of its group does
abbrev pub EndsByGroups : (Slot → Bool) → (Item → Bool) → Type 0
EndsByGroups right t = (x y : Item) → right x.slot ≡ true → right y.slot ≡ true → group_of x ≡ group_of y → t y ≡ true → t x ≡ true

-- the held items are at right slots
abbrev pub AreRight : (Slot → Bool) → List HeldItem → Type 0
AreRight right kept = AllByRecursion (λ k. right k.item.slot ≡ true) kept

abbrev pub AreAllRight : (Slot → Bool) → List (List HeldItem) → Type 0
AreAllRight right held = AllByRecursion (AreRight right) held
