-- Which slots are open, by how far the instance has come.
use Rattle.std.specs.Prelude.{ℕ, Bool, ◌+◌, ◌==◌, ◌&&◌, nat_le, if◌then◌else◌}
use Rattle.ritas_base.specs.declared.slot.Slot.{Slot}
use Rattle.layer_api.specs.Multi.{is_slot_of}
use Rattle.multivalued.specs.declared.part.Part.{Part}
use Rattle.multivalued.specs.declared.settling.Progress.{Progress}

-- those of a step up to one round ahead, once the bit is proposed, and the others once a value is
abbrev pub is_class_allowed : Progress → ℕ → ℕ → Bool
is_class_allowed now class bround = if class == 5 then now.asked && nat_le bround (now.round + 1) else now.own

abbrev pub part_opens : Part → Progress → Slot → Bool
part_opens part now s = is_slot_of part.a part.attempt s && is_class_allowed now s.class s.bround
