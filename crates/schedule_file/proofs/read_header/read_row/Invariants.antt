use Rattle.std.proofs.Common.{◌≡◌, true}
use Rattle.schedule_file.specs.Place.{spot}
use Rattle.schedule_file.specs.ReadHeader.{each_key_at}
use Rattle.schedule_file.specs.Spelling.{IsRow}
use Rattle.schedule_file.proofs.KeyRows.{from_key}
use Rattle.schedule_file.proofs.read_header.read_row.Given as goal

abbrev pub invariant-loop-j : goal.invariant-loop-j
invariant-loop-j g l = record {
  row : IsRow l.j l.row;
  stands : g.S.Source.faults l.source ≡ g.S.Source.faults l.initial.source;
  read : g.S.Source.tells ≡ true → from_key l.n l.j l.row (spot l.pieces (g.S.Source.left l.source)) ≡ each_key_at l.n (spot l.initial.pieces (g.S.Source.left l.initial.source));
}
