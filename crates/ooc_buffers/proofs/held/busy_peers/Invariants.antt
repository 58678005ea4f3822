use Rattle.std.proofs.Common.{◌≡◌, ◌≤◌, take}
use Rattle.ooc_buffers.specs.Lists.{busy_peers}
use Rattle.ooc_buffers.proofs.held.busy_peers.Given as goal

abbrev pub invariant-loop-peer : goal.invariant-loop-peer
invariant-loop-peer l = record {
  busy : l.busy ≡ busy_peers (take l.peer-index l.peers);
  few : l.busy ≤ l.peer-index;
}
