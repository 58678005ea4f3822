use Rattle.std.proofs.Common.{◌≡◌, ◌*◌, ◌^◌, ◌≤◌, take}
use Rattle.ritas_core.specs.Shown.{all_bytes}
use Rattle.ritas_core.proofs.kernel.Core.held.Given as goal

-- the bytes of the peers so far
abbrev pub invariant-loop-peer : goal.invariant-loop-peer
invariant-loop-peer g l = record {
  sum : l.sum ≡ all_bytes (take l.peer l.self.held);
  small : l.sum ≤ l.peer * 2 ^ 32;
}
