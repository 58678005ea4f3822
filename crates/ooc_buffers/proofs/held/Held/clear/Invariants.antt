use Rattle.std.proofs.Common.{◌≡◌, ◌++◌, Bool, map, take, drop}
use Rattle.ritas_base.specs.declared.item.Item.{Item}
use Rattle.ritas_base.specs.declared.slot.Slot.{Slot}
use Rattle.ooc_buffers.specs.Lists.{failing}
use Rattle.ooc_buffers.specs.Closures.{Computes}
use Rattle.ooc_buffers.specs.Groups.{GoesBy, AreAllRight}
use Rattle.ooc_buffers.proofs.held.Held.clear.Given as goal

abbrev pub invariant-loop-peer : goal.invariant-loop-peer
invariant-loop-peer g l = (t : Item → Bool) (right : Slot → Bool) → Computes g.F.Fn l.test t → GoesBy right t → AreAllRight right l.initial.peer-items
    → l.peer-items ≡ map (failing t) (take l.peer-index l.initial.peer-items) ++ drop l.peer-index l.initial.peer-items
