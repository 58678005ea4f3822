use Rattle.std.proofs.Common.{◌≡◌}
use Rattle.ooc_buffers.proofs.held.refresh_all.Given as goal

abbrev pub invariant-loop-peer : goal.invariant-loop-peer
invariant-loop-peer l = l.peers ≡ l.initial.peers
