-- Which broadcasts a core drops: those of past slots. In version 3 no slot is past, so none is dropped and nothing is hidden.
use Rattle.std.specs.Prelude.{◌≡◌, ℕ, ◌<◌, nat_lt, nat_le, ◌==◌, Bool, true, false, ◌&&◌, if◌then◌else◌, None, List}
use Rattle.std.specs.FinMap.{get}
use Rattle.ritas_base.specs.declared.slot.Slot.{Slot}
use Rattle.ritas_base.specs.declared.mode.FrameVersion.{FrameVersion}
use Rattle.ritas_base.specs.declared.mode.Mode.{Mode}
use Rattle.ritas_base.specs.Slots.{within}
use Rattle.layer_api.specs.Service.{is_past}
use Rattle.layer_api.specs.Words.{Word}
use Rattle.layer_api.specs.ServiceCalls.{ServiceShown}
use Rattle.layer_api.specs.Windows.{is_behind}
use Rattle.instance_tree.specs.SlotMaps.{SlotMap}
use Rattle.ritas_core.specs.Rules.{Rules, seat_of}

-- the slot has one of the classes that there are, its origin is a replica, and it is past
abbrev pub is_dropped : Rules → List Word → Slot → Bool
is_dropped r w s = within 1 5 s.class && (nat_lt s.origin r.casts.numbers.n && is_past r.service (seat_of r) w s)

-- what a slot's window is counted from, and whether the slot is past, as the getters of a service answer; whether its broadcast is
-- dropped by that; and whether what it delivered is hidden by that, in a mode
abbrev pub mark_shown : ServiceShown → Slot → ℕ
mark_shown shown s = if s.class == 1 then shown.base s.origin else shown.completed

abbrev pub is_past_shown : FrameVersion → ServiceShown → ℕ → Slot → Bool
is_past_shown version shown n s = nat_lt s.origin n && is_behind version s (mark_shown shown s)

abbrev pub is_dropped_shown : FrameVersion → ServiceShown → ℕ → Slot → Bool
is_dropped_shown version shown n s = within 1 5 s.class && is_past_shown version shown n s

abbrev pub hides_shown : Mode → ServiceShown → ℕ → Slot → Bool
hides_shown mode shown n s = nat_le 3 mode.root && is_past_shown mode.version shown n s

-- of the values at slots of n replicas, those that are dropped by this test are gone, and the others are as before
pub record DropsPast {B : Type 0} (dropped : Slot → Bool) (n : ℕ) (old new : SlotMap B) : Type 0 where
  pub gone : (s : Slot) → dropped s ≡ true → get new s ≡ None
  pub kept : (s : Slot) → s.origin < n → dropped s ≡ false → get new s ≡ get old s
  pub none : (s : Slot) → get old s ≡ None → get new s ≡ None
