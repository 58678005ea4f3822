-- Maps in a row, each slot in the map at its place. No public clause cites this file.
use Rattle.std.specs.Prelude.{◌≡◌, ◌≢◌, ℕ, suc, ◌+◌, ◌*◌, ◌%◌, ◌==◌, Some, List, slice_index_or, if◌then◌else◌}
use Rattle.std.specs.List.{flat_map}
use Rattle.std.specs.FinMap.{empty, get, entries, from_entries}
use Rattle.ritas_base.specs.declared.slot.Slot.{Slot}
use Rattle.ritas_base.specs.Limits.{number_limit}
use Rattle.instance_tree.specs.declared.span.Span.{Span}
use Rattle.instance_tree.specs.declared.span.Span.TheVariants.{Window, Session}
use Rattle.instance_tree.specs.SlotMaps.{SlotMap}

-- the map at a place, which is empty past the end
abbrev pub map_at : List (SlotMap ℕ) → ℕ → SlotMap ℕ
map_at maps place = slice_index_or maps place empty

-- all of them as one map
abbrev pub joined_map : List (SlotMap ℕ) → SlotMap ℕ
joined_map maps = from_entries (flat_map entries maps)

-- each slot stands in the map at its place
abbrev pub ArePlaced : (Slot → ℕ) → List (SlotMap ℕ) → Type 0
ArePlaced place_of maps = (place : ℕ) (s : Slot) (key : ℕ) → get (map_at maps place) s ≡ Some key → place_of s ≡ place

-- no map changed
abbrev pub AreSame : List (SlotMap ℕ) → List (SlotMap ℕ) → Type 0
AreSame old new = (i : ℕ) → map_at new i ≡ map_at old i

-- no map changed but at this place
abbrev pub AreOthersSame : List (SlotMap ℕ) → List (SlotMap ℕ) → ℕ → Type 0
AreOthersSame old new place = (i : ℕ) → i ≢ place → map_at new i ≡ map_at old i

-- the map at this place is another now, and no other map changed
pub record ChangesAt (old new : List (SlotMap ℕ)) (place : ℕ) (after : SlotMap ℕ) : Type 0 where
  pub changed : map_at new place ≡ after
  pub others : AreOthersSame old new place

-- the place of a slot in a ring of this width: its number, modulo the width
abbrev pub place_in_ring : ℕ → Slot → ℕ
place_in_ring width s = s.a % width

-- a number for the class, and in class 5 for the step
abbrev pub cell_kind : Slot → ℕ
cell_kind s = if s.class == 5 then 4 + s.step % 4 else s.class % 4

-- the place of a slot among those of its origin that aren't of commands: by try, binary round, class and step, and round; or for
-- a session, by round, class and step
abbrev pub cell_of : Span → Slot → ℕ
cell_of Window s = ((s.attempt % 4 * 4 + s.bround % 4) * 8 + cell_kind s) * 16 + s.a % 16
cell_of Session s = s.a % number_limit * 8 + cell_kind s

-- the place of a slot among those of its origin: commands stand in the first map, and the others in their cells
abbrev pub place_in_origin : Span → Slot → ℕ
place_in_origin span s = if s.class == 1 then 0 else suc (cell_of span s)
