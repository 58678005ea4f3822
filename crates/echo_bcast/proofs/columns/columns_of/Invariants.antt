use Rattle.std.proofs.Common.{◌≡◌, map, length}
use Rattle.ritas_base.specs.History.{replicas}
use Rattle.echo_bcast.specs.Matrix.{column_for}
use Rattle.echo_bcast.proofs.columns.columns_of.Given as goal

abbrev pub invariant-loop-k : goal.invariant-loop-k
invariant-loop-k l = (l.k-end ≡ l.p.n) × (length l.hashes ≡ l.p.n → l.columns.items ≡ map (column_for l.slot l.hashes) (replicas l.k))
