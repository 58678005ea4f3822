-- The keys of slots: what takes one out, and how they are listed. No public clause cites this file.
use Rattle.std.specs.Prelude.{◌≡◌, ℕ, ◌<◌, Bool, true, false, Option, Some, None, List, [], ◌∷◌, length, slice_index_or, ◌≤◌, if◌then◌else◌}
use Rattle.std.specs.FinMap.{get, remove, find}
use Rattle.ritas_base.specs.declared.slot.Slot.{Slot}
use Rattle.ritas_base.specs.SlotOrder.{slot_cmp}
use Rattle.ritas_base.specs.Slots.{within}
use Rattle.instance_tree.specs.SlotMaps.{SlotMap}
use Rattle.instance_tree.specs.Places.{joined_map, ArePlaced, place_in_ring}

-- one of the slots that pass the test was taken out, and it had this key
pub record TakesSlotOut (gone : Slot → Bool) (old new : SlotMap ℕ) (key : ℕ) : Type 0 where
  pub slot : Slot
  pub passes : gone slot ≡ true
  pub had : get old slot ≡ Some key
  pub taken : new ≡ remove old slot

-- the same where there is a key; and where there is none, no slot passes that has one
abbrev pub TakesOut : (Slot → Bool) → SlotMap ℕ → SlotMap ℕ → Option ℕ → Type 0
TakesOut gone old new (Some key) = TakesSlotOut gone old new key
TakesOut gone old new None = (new ≡ old) × ((s : Slot) → gone s ≡ true → get old s ≡ None)

-- a slot with its key
abbrev pub KeyedSlot : Type 0
KeyedSlot = Slot × ℕ

-- one of the slots that pass the test was taken out, with its key
pub record TakesSpot (gone : Slot → Bool) (old new : SlotMap ℕ) (spot : KeyedSlot) : Type 0 where
  pub passes : gone spot.0 ≡ true
  pub had : get old spot.0 ≡ Some spot.1
  pub taken : new ≡ remove old spot.0

-- the same where there is one; and where there is none, no slot passes that has a key
abbrev pub TakesSpotOut : (Slot → Bool) → SlotMap ℕ → SlotMap ℕ → Option KeyedSlot → Type 0
TakesSpotOut gone old new (Some spot) = TakesSpot gone old new spot
TakesSpotOut gone old new None = (new ≡ old) × ((s : Slot) → gone s ≡ true → get old s ≡ None)

-- a place where the test passes; and where there is none, it fails everywhere
abbrev pub FindsOne : (KeyedSlot → Bool) → List KeyedSlot → Option ℕ → Type 0
FindsOne test es (Some i) = (i < length es) × ((d : KeyedSlot) → test (slice_index_or es i d) ≡ true)
FindsOne test es None = (i : ℕ) (d : KeyedSlot) → i < length es → test (slice_index_or es i d) ≡ false

-- no slot stands twice
abbrev pub AreApart : {V : Type 0} → List (Slot × V) → Type 0
AreApart [] = Unit {0}
AreApart (e ∷ es) = (find slot_cmp e.0 es ≡ None) × AreApart es

-- each slot stands in the bucket of its number, and none has a number below the least
pub record IsRing (width low : ℕ) (buckets : List (SlotMap ℕ)) : Type 0 where
  pub wide : 0 < width
  pub placed : ArePlaced (place_in_ring width) buckets
  pub least : (s : Slot) (key : ℕ) → get (joined_map buckets) s ≡ Some key → low ≤ s.a

-- the second map has the slots of rounds of the first, and no other
abbrev pub AreOfRounds : SlotMap ℕ → SlotMap ℕ → Type 0
AreOfRounds slots rounds = (s : Slot) → get rounds s ≡ (if within 2 5 s.class then get slots s else None)
