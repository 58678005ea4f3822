-- What the getters of a core show.
use Rattle.std.specs.Prelude.{ℕ, Bool, not, nat_le, ◌&&◌, if◌then◌else◌, Option, Some, None, List, [], ◌∷◌, sum_by}
use Rattle.std.specs.FinMap.{get}
use Rattle.std.specs.BTreeMap as map
use Rattle.ritas_base.specs.declared.item.Item.{Item}
use Rattle.ritas_base.specs.declared.slot.Slot.{Slot}
use Rattle.ritas_base.specs.declared.mode.Mode.{Mode}
use Rattle.ritas_base.specs.Numbers.{Numbers}
use Rattle.ritas_base.specs.SlotOrder.{slot_cmp}
use Rattle.layer_api.specs.BroadcastCalls.{CastShown}
use Rattle.layer_api.specs.Service.{is_past}
use Rattle.ooc_buffers.specs.Lists.{HeldItem}
use Rattle.ritas_core.specs.declared.cast.Cast.{Cast}
use Rattle.ritas_core.specs.declared.layers.Layers.{Layers}
use Rattle.ritas_core.specs.declared.kernel.Core.{Core}
use Rattle.ritas_core.specs.Rules.{Rules, seat_of, out_at_slot}
use Rattle.ritas_core.specs.Casts.{is_called, shown_out}
use Rattle.ritas_core.specs.Parts.{Entry, parts}

-- the numbers of the session, the mode, the replica and its tagger
abbrev pub params_of : {S E C T : Type 0} → Core S E C T → Numbers
params_of core = core.layers.params

abbrev pub mode_of : {S E C T : Type 0} → Core S E C T → Mode
mode_of core = core.layers.mode

abbrev pub me_of : {S E C T : Type 0} → Core S E C T → ℕ
me_of core = core.layers.me

abbrev pub tagger_of : {S E C T : Type 0} → Core S E C T → T
tagger_of core = core.layers.tagger

-- the item that waits first
abbrev pub first_waiting : List Item → Option Item
first_waiting [] = None
first_waiting (item ∷ waiting) = Some item

-- the bytes that are held for one peer, and for all
abbrev pub held_bytes_in : List HeldItem → ℕ
held_bytes_in kept = sum_by (λ k. k.len) kept

abbrev pub all_bytes : List (List HeldItem) → ℕ
all_bytes held = sum_by held_bytes_in held

-- what the layers show that a slot delivered: in root services 1 and 2 what they kept of that, and else what its broadcast shows
abbrev pub layers_out : {S E C T : Type 0} → (Cast E → CastShown) → Layers S E C T → Slot → Option (List ℕ)
layers_out shown layers s = if nat_le 3 layers.mode.root then shown_out shown (get layers.casts s) else map.get slot_cmp layers.outputs s

-- what a slot delivered in a history
abbrev pub delivered_at : Rules → List Entry → Slot → Option (List ℕ)
delivered_at r h s = out_at_slot r.casts s ((parts r h).calls s)

-- whether that is hidden: in root services 3 to 7 it is, once the slot is past
abbrev pub is_hidden : Rules → List Entry → Slot → Bool
is_hidden r h s = nat_le 3 r.mode.root && is_past r.service (seat_of r) (parts r h).words s

-- what a slot shows as delivered
abbrev pub shown_at : Rules → List Entry → Slot → Option (List ℕ)
shown_at r h s = if is_hidden r h s then None else delivered_at r h s

-- whether the broadcast of a slot is kept: it had a call, which took an item or started it, and its slot isn't past
abbrev pub keeps_broadcast : Rules → List Entry → Slot → Bool
keeps_broadcast r h s = not (is_past r.service (seat_of r) (parts r h).words s) && is_called ((parts r h).calls s)
