use Rattle.std.proofs.Common.{◌≡◌, ◌++◌, take}
use Rattle.std.specs.Int.{w32, to_be_bytes}
use Rattle.std.specs.List.{flat_map}
use Rattle.echo_bcast.proofs.ColumnSteps.{row_bytes}
use Rattle.echo_bcast.proofs.columns.column_for.Given as goal

abbrev pub invariant-loop-value : goal.invariant-loop-value
invariant-loop-value l = l.out.items ≡ to_be_bytes w32 l.fn.senders ++ flat_map (row_bytes l.fn.k) (take l.value-index l.hashes)
