use Rattle.std.proofs.Common.{◌≡◌, ◌+◌, ◌≤◌, Bool, length, []}
use Rattle.std.specs.VecDeque.{deque_len, deque_capacity}
use Rattle.ritas_base.specs.declared.item.Item.{Item}
use Rattle.ritas_base.specs.declared.slot.Slot.{Slot}
use Rattle.ooc_buffers.specs.Lists.{released}
use Rattle.ooc_buffers.specs.Closures.{Computes}
use Rattle.ooc_buffers.specs.Groups.{GoesBy, AreAllRight}
use Rattle.ooc_buffers.proofs.Peers.{IsReleasing}
use Rattle.ooc_buffers.proofs.held.release_all.Given as goal

abbrev pub invariant-loop-peer : goal.invariant-loop-peer
invariant-loop-peer g l = record {
  capacity : deque_capacity l.inbox ≡ deque_capacity l.initial.inbox;
  empty : l.moved.items ≡ [];
  grown : deque_capacity l.initial.moved ≤ deque_capacity l.moved;
  moves : (t : Item → Bool) (right : Slot → Bool) → Computes g.F.Fn l.test t → GoesBy right t → AreAllRight right l.initial.peers
      → length (released t l.initial.peers) ≤ deque_capacity l.initial.moved
      → deque_len l.initial.inbox + length (released t l.initial.peers) ≤ deque_capacity l.initial.inbox
      → IsReleasing t l.initial.peers l.peer-index l.peers l.initial.inbox.items l.inbox.items (deque_len l.initial.inbox) (deque_len l.inbox);
}
