-- Which map an arena of values and the keys of slots are together. No public clause cites this file.
use Rattle.std.specs.Prelude.{◌≡◌, ℕ, Option, Some, None, IsSome, List, [], ◌∷◌}
use Rattle.std.specs.FinMap as map
use Rattle.slab.specs.Slab.{Slab, get, slab_len}
use Rattle.ritas_base.specs.declared.slot.Slot.{Slot}
use Rattle.instance_tree.specs.SlotMaps.{SlotMap}

module _ {V : Type 0} where
  -- the slot has the value, where there is one
  abbrev pub at_slot : Slot → Option V → List (Slot × V) → List (Slot × V)
  at_slot s (Some v) rest = (s, v) ∷ rest
  at_slot s None rest = rest

  -- each slot with the value under its key
  abbrev pub stored : (ℕ → Option V) → List (Slot × ℕ) → List (Slot × V)
  stored value [] = []
  stored value (e ∷ es) = at_slot e.0 (value e.1) (stored value es)

  -- the value of each slot is the one under its key
  abbrev pub values_by_slot : SlotMap ℕ → Slab V → SlotMap V
  values_by_slot keys arena = map.from_entries (stored (get arena) (map.entries keys))

  -- under each key of a slot stands a value, no two slots have one key, and there are no other values
  pub record IsTied (keys : SlotMap ℕ) (arena : Slab V) : Type 0 where
    pub has : (s : Slot) (k : ℕ) → map.get keys s ≡ Some k → IsSome (get arena k)
    pub apart : (s t : Slot) (k : ℕ) → map.get keys s ≡ Some k → map.get keys t ≡ Some k → s ≡ t
    pub count : map.len keys ≡ slab_len arena
