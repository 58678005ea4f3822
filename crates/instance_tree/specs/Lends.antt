-- What a tree ends as, where a `&mut` to the value of a slot is returned.
use Rattle.std.specs.Prelude.{Option}
use Rattle.std.specs.Borrow.{LendsIf, Fml, RattleType, MutBor}
use Rattle.std.specs.FinMap.{insert}
use Rattle.ritas_base.specs.declared.slot.Slot.{Slot}
use Rattle.instance_tree.specs.SlotMaps.{SlotMap}
use Rattle.instance_tree.specs.contracts.tree.Tree.{the_row}

-- once the borrow ends, the slot has the last value written through r; at `None` the tree stays as it is
abbrev pub lends_at : (V : RattleType) → MutBor (SlotMap V.Denot) → Slot → Option (MutBor V.Denot) → Fml
lends_at V tree slot r = LendsIf (the_row V) V tree r (λ w. insert tree.now slot w) tree.now
