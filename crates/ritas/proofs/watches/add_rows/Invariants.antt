use Rattle.std.proofs.Common.{◌≡◌, ◌++◌, string_bytes}
use Rattle.schedule_replay.specs.Report.{row_lines_below}
use Rattle.ritas.proofs.watches.add_rows.Given as goal

abbrev pub invariant-loop-position : goal.invariant-loop-position
invariant-loop-position l = string_bytes l.text ≡ string_bytes l.initial.text ++ row_lines_below l.observer.rows l.position
