use Rattle.std.proofs.Common.{◌<◌, ◌≤◌, ◌+◌, ◌∙◌, arith, length, get_or}
use Rattle.std.specs.VecDeque.{deque_len, deque_capacity}
use Rattle.ooc_buffers.specs.Lists.{passing, failing}
use Rattle.ooc_buffers.proofs.Peers.{release_more, room_next, right_next, few_next}
use Rattle.ooc_buffers.proofs.held.release_all.Goals as goal

pub loop-peer-preserved : goal.loop-peer-preserved
loop-peer-preserved g c = record {
  capacity = c.release.ensures.capacity ∙ c.loop-peer.invariant.capacity;
  empty = c.release.ensures.empty.0;
  grown = omega (arith, c.loop-peer.invariant.grown, c.release.ensures.empty.1);
  moves = λ t right computes goes rights few room.
      let before = c.loop-peer.invariant.moves t right computes goes rights few room in
      let within : c.loop-peer.peer-index < length c.args.peers.now = omega arith in
      let fine = right_next right (failing t) c.args.peers.now c.loop-peer.peers c.loop-peer.peer-index c.peer-item.result within c.peer-item.is before.lists rights in
      let fits : deque_len c.loop-peer.inbox + length (passing t (get_or c.loop-peer.peers c.loop-peer.peer-index c.peer-item.result)) ≤ deque_capacity c.loop-peer.inbox =
      omega (arith, c.loop-peer.invariant.capacity, room_next t _ _ _ _ _ _ _ (deque_capacity c.args.inbox.now) c.peer-item.result within c.peer-item.is room before) in
      let all = few_next t _ _ _ _ _ _ _ c.peer-item.result within before in
      let some : length (passing t (get_or c.loop-peer.peers c.loop-peer.peer-index c.peer-item.result)) ≤ deque_capacity c.loop-peer.moved =
      omega (arith, all, few, c.loop-peer.invariant.grown) in
      let did = c.release.ensures.moves t right computes goes fine some fits in
      release_more t _ _ _ _ _ _ _ _ _ c.peer-item.result _ within c.peer-item.is did.kept did.moved did.len before;
}
