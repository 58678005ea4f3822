use Rattle.std.proofs.Common.{◌≡◌, ℕ, ◌+◌, ◌≤◌, Bool, length, sum_by}
use Rattle.std.specs.VecDeque.{deque_len, deque_capacity}
use Rattle.ritas_base.specs.declared.item.Item.{Item}
use Rattle.ritas_base.specs.declared.slot.Slot.{Slot}
use Rattle.ooc_buffers.specs.Lists.{HeldItem}
use Rattle.ooc_buffers.specs.Closures.{Computes}
use Rattle.ooc_buffers.specs.Groups.{GoesBy, AreRight}
use Rattle.ooc_buffers.specs.Spots.{held_in, AreAt, AreApart}
use Rattle.ooc_buffers.proofs.Leaving.{IsLeft, IsMoving}
use Rattle.ooc_buffers.proofs.search.take_open.Given as goal

abbrev pub invariant-loop-from : goal.invariant-loop-from
invariant-loop-from g l = record {
  same : (f : HeldItem → ℕ) → sum_by f (held_in l.moved.items) + sum_by f (held_in l.items.entries)
      ≡ sum_by f (held_in l.initial.moved.items) + sum_by f (held_in l.initial.items.entries);
  ats : (next : ℕ) → AreAt next l.initial.items.entries → AreAt next l.items.entries;
  apart : AreApart l.initial.items.entries → AreApart l.items.entries;
  left : (t : Item → Bool) (right : Slot → Bool) (next : ℕ) → Computes g.F.Fn l.test t → GoesBy right t → AreAt next l.initial.items.entries → AreRight right (held_in l.initial.items.entries)
      → IsLeft t right next l.initial.items.entries l.from l.items.entries;
  moving : (t : Item → Bool) (right : Slot → Bool) (next : ℕ) → Computes g.F.Fn l.test t → GoesBy right t → AreAt next l.initial.items.entries → AreRight right (held_in l.initial.items.entries)
      → IsMoving t l.initial.items.entries l.from l.items.entries l.initial.moved.items l.moved.items (deque_len l.initial.moved) (deque_len l.moved);
  capacity : deque_capacity l.initial.moved ≤ deque_capacity l.moved;
}

abbrev pub decreases-loop-from : goal.decreases-loop-from
decreases-loop-from g l = length l.items.entries
