use Rattle.std.proofs.Common.{◌≡◌, ℕ, ◌+◌, ◌<◌, ◌^◌, Bool, length, sum_by}
use Rattle.ritas_base.specs.declared.item.Item.{Item}
use Rattle.ritas_base.specs.declared.slot.Slot.{Slot}
use Rattle.ooc_buffers.specs.Closures.{Computes}
use Rattle.ooc_buffers.specs.Groups.{GoesBy, AreRight}
use Rattle.ooc_buffers.specs.Keys.{CountsKeys}
use Rattle.ooc_buffers.specs.Spots.{held_in, AreAt, AreApart}
use Rattle.ooc_buffers.proofs.Leaving.{IsLeft}
use Rattle.ooc_buffers.proofs.search.drop_open.Given as goal

abbrev pub invariant-loop-entry : goal.invariant-loop-entry
invariant-loop-entry g l = record {
  counts : CountsKeys l.initial.index (held_in l.initial.items.entries) → CountsKeys l.index (held_in l.items.entries);
  bytes : sum_by (λ k. k.len) (held_in l.initial.items.entries) < 2 ^ 32
      → sum_by (λ k. k.len) (held_in l.items.entries) + l.bytes ≡ sum_by (λ k. k.len) (held_in l.initial.items.entries);
  ats : (next : ℕ) → AreAt next l.initial.items.entries → AreAt next l.items.entries;
  apart : AreApart l.initial.items.entries → AreApart l.items.entries;
  left : (t : Item → Bool) (right : Slot → Bool) (next : ℕ) → Computes g.F.Fn l.test t → GoesBy right t → AreAt next l.initial.items.entries → AreRight right (held_in l.initial.items.entries)
      → IsLeft t right next l.initial.items.entries l.from l.items.entries;
}

abbrev pub decreases-loop-entry : goal.decreases-loop-entry
decreases-loop-entry g l = length l.items.entries
