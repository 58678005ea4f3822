use Rattle.std.proofs.Common.{◌≡◌, ◌-◌, ◌≤◌, Ok, true, false, take, drop, reverse}
use Rattle.command_log.specs.Pieces.{rows_bytes}
use Rattle.outside.specs.declared.source.Failed.{Failed}
use Rattle.outside.specs.Writing.{Writes}
use Rattle.chain_file.proofs.writing.write_rows_from.Given as goal

abbrev pub invariant-loop-position : goal.invariant-loop-position
invariant-loop-position g l = record {
  from : l.first ≤ l.position;
  writes : Writes {E = Failed} (rows_bytes (take (l.position - l.first) (drop l.first (reverse l.rows)))) g.K.Sink.tells
      (g.K.Sink.taken l.initial.sink) (g.K.Sink.taken l.sink) (g.K.Sink.faults l.initial.sink) (g.K.Sink.faults l.sink) (Ok tt) (false ≡ true);
}
