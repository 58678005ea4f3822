-- The firsts of a peer: for each group that has items, something like one of its items of the least round.
use Rattle.std.specs.Prelude.{◌≡◌, ℕ, ◌≤◌, ◌⊎◌, Bool, true, ◌&&◌, List, [], Some}
use Rattle.std.specs.List.{AllByRecursion, list_any}
use Rattle.std.specs.BTreeMap.{BTreeMap, get}
use Rattle.indexmap.specs.IndexMap.{IndexMap}
use Rattle.ritas_base.specs.declared.item.Item.{Item}
use Rattle.ritas_base.specs.Messages.{kind_eq}
use Rattle.ritas_base.specs.SlotOrder.{is_slot}
use Rattle.ooc_buffers.specs.Groups.{group_of}
use Rattle.ooc_buffers.specs.Spots.{group_cmp, Spotted, held_in, AreSpotted}
use Rattle.ooc_buffers.specs.declared.group.Group.{Group}
use Rattle.ooc_buffers.specs.declared.key.Key.{Key}

-- the item with an empty value
abbrev pub likeness : Item → Item
likeness item = record item { value = [] }

-- one of these has its kind and slot
abbrev pub is_like : List Spotted → Item → Bool
is_like xs like = list_any (λ k. kind_eq like.kind k.item.kind && is_slot like.slot k.item.slot) (held_in xs)

-- a group has a first of no later round
pub record HasUpTo (firsts : BTreeMap Group Item) (group : Group) (bround : ℕ) : Type 0 where
  pub first : Item
  pub is : get group_cmp firsts group ≡ Some first
  pub low : first.slot.bround ≤ bround

-- each item has
abbrev pub AreCovered : BTreeMap Group Item → List Spotted → Type 0
AreCovered firsts xs = AllByRecursion (λ e. HasUpTo firsts e.0.group e.0.bround) xs

-- each first is of its group
abbrev pub AreOwn : BTreeMap Group Item → Type 0
AreOwn firsts = (group : Group) (first : Item) → get group_cmp firsts group ≡ Some first → group_of first ≡ group

-- and like an item that is there
abbrev pub AreLike : BTreeMap Group Item → List Spotted → Type 0
AreLike firsts xs = (group : Group) (first : Item) → get group_cmp firsts group ≡ Some first → is_like xs first ≡ true

-- the firsts are those of the items
pub record AreFirsts (firsts : BTreeMap Group Item) (xs : List Spotted) : Type 0 where
  pub own : AreOwn firsts
  pub like : AreLike firsts xs
  pub covers : AreCovered firsts xs

-- a group has this one as its first, or one of no later round, and the others have what they had
pub record IsNoted (old new : BTreeMap Group Item) (group : Group) (like : Item) : Type 0 where
  pub from : (g : Group) (first : Item) → get group_cmp new g ≡ Some first → (get group_cmp old g ≡ Some first) ⊎ ((g ≡ group) × (first ≡ like))
  pub stays : (g : Group) (bround : ℕ) → HasUpTo old g bround → HasUpTo new g bround
  pub here : HasUpTo new group like.slot.bround

-- how the items of a peer are kept; the firsts are those of the items where they are fresh
pub record IsKept {S : Type 0} (index : IndexMap Key ℕ S) (bytes next : ℕ) (xs : List Spotted) (fresh : Bool) (firsts : BTreeMap Group Item) : Type 0 where
  pub spotted : AreSpotted index bytes next xs
  pub known : fresh ≡ true → AreFirsts firsts xs
