use Rattle.std.proofs.Common.{◌≡◌, ◌-◌, ◌*◌, ◌≤◌, length, take, drop, reverse}
use Rattle.std.specs.List.{AllByRecursion}
use Rattle.command_log.specs.Pieces.{rows_bytes}
use Rattle.chain_file.specs.Epochs.{FitsRow}
use Rattle.chain_file.proofs.length.rows_len.Given as goal

abbrev pub invariant-loop-position : goal.invariant-loop-position
invariant-loop-position l = record {
  from : l.first ≤ l.position;
  fit : AllByRecursion FitsRow (take (l.position - l.first) (drop l.first (reverse l.rows)));
  len : l.len ≡ length (rows_bytes (take (l.position - l.first) (drop l.first (reverse l.rows))));
  most : l.len ≤ (l.position - l.first) * 65550;
}
