use Rattle.std.proofs.Common.{◌≡◌, ℕ, ◌≤◌, Bool, length}
use Rattle.ritas_base.specs.declared.item.Item.{Item}
use Rattle.ritas_base.specs.declared.slot.Slot.{Slot}
use Rattle.ooc_buffers.specs.Closures.{Computes}
use Rattle.ooc_buffers.specs.Groups.{GoesBy, AreRight}
use Rattle.ooc_buffers.specs.Spots.{held_in, pass, rest_from, AreAt}
use Rattle.ooc_buffers.proofs.search.next_open.Given as goal

abbrev pub invariant-loop-spot : goal.invariant-loop-spot
invariant-loop-spot g l = record {
  fewer : length (rest_from l.from l.items.entries) ≤ length (rest_from l.initial.from l.items.entries);
  same : (t : Item → Bool) (right : Slot → Bool) (next : ℕ) → Computes g.F.Fn l.test t → GoesBy right t → AreAt next l.items.entries → AreRight right (held_in l.items.entries)
      → pass t (rest_from l.from l.items.entries) ≡ pass t (rest_from l.initial.from l.items.entries);
}

abbrev pub decreases-loop-spot : goal.decreases-loop-spot
decreases-loop-spot g l = length (rest_from l.from l.items.entries)
