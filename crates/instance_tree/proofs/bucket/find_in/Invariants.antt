use Rattle.std.proofs.Common.{◌≡◌, drop}
use Rattle.std.specs.FinMap.{find}
use Rattle.ritas_base.specs.SlotOrder.{slot_cmp}
use Rattle.instance_tree.proofs.bucket.find_in.Given as goal

abbrev pub invariant-loop-spot : goal.invariant-loop-spot
invariant-loop-spot l = find slot_cmp l.slot (drop l.spot-index l.spots) ≡ find slot_cmp l.slot l.spots
