use Rattle.std.proofs.Common.{◌≡◌}
use Rattle.std.specs.List.{list_any}
use Rattle.ooc_buffers.specs.Lists.{is_same_item}
use Rattle.ooc_buffers.specs.Keys.{mark_of}
use Rattle.ooc_buffers.specs.Spots.{held_in, AreAt}
use Rattle.ooc_buffers.proofs.peer.holds.Given as goal

abbrev pub invariant-loop-entry : goal.invariant-loop-entry
invariant-loop-entry l = record {
  can : (goal.iterator-loop-entry).can_next l.entry-iterator;
  finite : (goal.iterator-loop-entry).is_finite l.entry-iterator;
  same : AreAt l.next l.items.entries → l.mark ≡ mark_of l.item
      → list_any (λ k. is_same_item l.item k.item) (held_in l.entry-iterator) ≡ list_any (λ k. is_same_item l.item k.item) (held_in l.items.entries);
}
