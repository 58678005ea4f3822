use Rattle.std.proofs.Common.{◌≡◌, ◌++◌, string_bytes}
use Rattle.schedule_replay.specs.Report.{row_lines_below}
use Rattle.schedule_replay.proofs.report.add_rows.Given as goal

abbrev pub invariant-loop-position : goal.invariant-loop-position
invariant-loop-position l = string_bytes l.text ≡ string_bytes l.initial.text ++ row_lines_below l.log.rows l.position
