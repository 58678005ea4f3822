-- Held items: one list for each peer, each in the order in which its items were held.
use Rattle.std.specs.Prelude.{ℕ, ◌+◌, nat_le, nat_lt, Bool, not, ◌&&◌, ◌||◌, List, [], ◌∷◌, ◌++◌, map, filter, slice_index_or, slice_set, length, count_by, sum_by, Option, Some, None, if◌then◌else◌}
use Rattle.std.specs.List.{list_any}
use Rattle.std.specs.Str.{bytes_eq}
use Rattle.ritas_base.specs.declared.item.Kind.TheVariants.{Column}
use Rattle.ritas_base.specs.declared.item.Item.{Item}
use Rattle.ritas_base.specs.SlotOrder.{is_slot}
use Rattle.ritas_base.specs.Messages.{kind_eq}

-- an item that is held, and the length that it was held with
pub record HeldItem : Type 0 where
  pub item : Item
  pub len : ℕ

-- the items that are held for a peer
abbrev pub held_of_peer : List (List HeldItem) → ℕ → List HeldItem
held_of_peer held peer = slice_index_or held peer []

-- how many bytes are held for a peer
abbrev pub held_bytes : List (List HeldItem) → ℕ → ℕ
held_bytes held peer = sum_by (λ k. k.len) (held_of_peer held peer)

-- for how many peers something is held
abbrev pub busy_peers : List (List HeldItem) → ℕ
busy_peers held = count_by (λ kept. nat_lt 0 (length kept)) held

-- the most that are held for one peer
abbrev pub most_held_bytes : ℕ
most_held_bytes = 1048576

-- the bytes that are held for a peer, where these and so many more are too many
abbrev pub bytes_if_full : ℕ → ℕ → Option ℕ
bytes_if_full held len = if nat_le (held + len) most_held_bytes then None else Some held

-- whether two items of one peer are held as one: they are of one kind and slot, and where they are columns, of one value
abbrev pub is_same_item : Item → Item → Bool
is_same_item a b = kind_eq a.kind b.kind && (is_slot a.slot b.slot && (not (kind_eq a.kind Column) || bytes_eq a.value b.value))

-- whether the item is held
abbrev pub is_held : List (List HeldItem) → Item → Bool
is_held held item = list_any (λ k. is_same_item item k.item) (held_of_peer held item.from)

-- the item held behind those of its sender
abbrev pub with_item_held : List (List HeldItem) → Item → ℕ → List (List HeldItem)
with_item_held held item len = slice_set held item.from (held_of_peer held item.from ++ record { item = item; len = len } ∷ [])

-- those of one list that pass a test, and those that don't
abbrev pub passing : (Item → Bool) → List HeldItem → List HeldItem
passing test kept = filter (λ k. test k.item) kept

abbrev pub failing : (Item → Bool) → List HeldItem → List HeldItem
failing test kept = filter (λ k. not (test k.item)) kept

-- all that pass, by peer ascending and for each peer in the order in which they were held
abbrev pub released : (Item → Bool) → List (List HeldItem) → List Item
released test [] = []
released test (kept ∷ held) = map (λ k. k.item) (passing test kept) ++ released test held

-- what is still held then
abbrev pub remaining : (Item → Bool) → List (List HeldItem) → List (List HeldItem)
remaining test held = map (failing test) held
