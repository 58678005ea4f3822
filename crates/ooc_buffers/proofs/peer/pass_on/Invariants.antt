use Rattle.std.proofs.Common.{◌≡◌, ◌+◌, ◌<◌, ◌≤◌, ◌^◌, List, ◌++◌, length, sum_by}
use Rattle.std.specs.VecDeque.{deque_len, deque_capacity}
use Rattle.ooc_buffers.specs.Lists.{HeldItem}
use Rattle.ooc_buffers.specs.Keys.{CountsKeys}
use Rattle.ooc_buffers.specs.Spots.{held_in}
use Rattle.ooc_buffers.proofs.Clearing.{IsPassing}
use Rattle.ooc_buffers.proofs.peer.pass_on.Given as goal

abbrev pub invariant-loop-entry : goal.invariant-loop-entry
invariant-loop-entry l = record {
  counts : (others : List HeldItem) → CountsKeys l.initial.index (held_in l.initial.moved.items ++ others) → CountsKeys l.index (held_in l.moved.items ++ others);
  bytes : sum_by (λ k. k.len) (held_in l.initial.moved.items) < 2 ^ 32 → l.bytes + sum_by (λ k. k.len) (held_in l.moved.items) ≡ sum_by (λ k. k.len) (held_in l.initial.moved.items);
  capacity : deque_capacity l.moved ≡ deque_capacity l.initial.moved;
  room : deque_capacity l.inbox ≡ deque_capacity l.initial.inbox;
  items : deque_len l.initial.inbox + length l.initial.moved.items ≤ deque_capacity l.initial.inbox
      → IsPassing l.initial.moved.items l.moved.items l.initial.inbox.items l.inbox.items (deque_len l.initial.inbox) (deque_len l.inbox);
}

abbrev pub decreases-loop-entry : goal.decreases-loop-entry
decreases-loop-entry l = length l.moved.items
