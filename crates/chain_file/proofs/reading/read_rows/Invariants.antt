use Rattle.command_log.specs.Pieces.{rows_bytes}
use Rattle.chain_file.specs.Reading.{AreRows, BeginsAs}
use Rattle.chain_file.proofs.reading.read_rows.Given as goal

abbrev pub invariant-loop : goal.invariant-loop
invariant-loop l = BeginsAs (AreRows l.counter) rows_bytes l.bytes l.rows.items l.rest
