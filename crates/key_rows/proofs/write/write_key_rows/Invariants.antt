use Rattle.std.proofs.Common.{◌≡◌, string_bytes}
use Rattle.std.specs.List.{flat_map, range_with_len}
use Rattle.key_rows.specs.KeyRows.{key_row}
use Rattle.key_rows.proofs.write.write_key_rows.Given as goal

abbrev pub invariant-loop-i : goal.invariant-loop-i
invariant-loop-i l = string_bytes l.text ≡ flat_map (key_row l.master l.session l.p.n) (range_with_len 0 l.i)
