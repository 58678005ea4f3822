use Rattle.std.proofs.Common.{◌≡◌, [], replicate}
use Rattle.ooc_buffers.proofs.held.Held.new.Given as goal

abbrev pub invariant-loop-peer : goal.invariant-loop-peer
invariant-loop-peer l = l.peers.items ≡ replicate l._peer []
