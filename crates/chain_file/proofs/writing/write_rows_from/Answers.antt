use Rattle.std.proofs.Common.{◌≡◌, ◌+◌, ◌-◌, ◌≤◌, ◌++◌, true, false, length, drop, reverse, subst, sym, arith}
use Rattle.std.specs.List.{AllByRecursion}
use Rattle.std.proofs.lemmas.List.{length-reverse}
use Rattle.command_log.specs.Pieces.{rows_bytes}
use Rattle.outside.specs.WritingLaws.{writes_then, fails_as}
use Rattle.chain_file.specs.Epochs.{FitsRow}
use Rattle.chain_file.proofs.Lists.{all_behind, drop_on}
use Rattle.chain_file.proofs.Texts.{rows_until, row_there, rows_more, rows_cut, no_rows_yet, rows_all}
use Rattle.chain_file.proofs.Written.{begun}
use Rattle.chain_file.proofs.writing.write_rows_from.Goals as goal

pub loop-position-init : goal.loop-position-init
loop-position-init g c = record {
  from = omega arith;
  writes = begun _ (no_rows_yet (reverse c.args.rows.now) c.args.first) _ _ _;
}

pub write_row_at-requires : goal.write_row_at-requires
write_row_at-requires g c =
    let all = reverse c.args.rows.now in
    let at = c.loop-position.position in
    subst (AllByRecursion FitsRow) (drop_on all c.args.first at c.loop-position.invariant.from)
    (all_behind FitsRow (at - c.args.first) (drop c.args.first all) c.requires)

pub returns-in_err-write_row_at : goal.returns-in_err-write_row_at
returns-in_err-write_row_at g c =
    let all = reverse c.args.rows.now in
    let first = c.args.first in
    let at = c.loop-position.position in
    let le = c.loop-position.invariant.from in
    rw (rows_cut all first at le)
    (fails_as (rows_until all first at le ++ row_there all first at le) (rows_bytes (drop (at + 1 - first) (drop first all))) _ _ _ _ _ _ _ c.from_residual.ensures.0
    (writes_then {G = true ≡ true} (rows_until all first at le) (row_there all first at le) _ _ _ _ _ _ _ _ c.loop-position.invariant.writes c.in_err-write_row_at.ensures))

pub loop-position-preserved : goal.loop-position-preserved
loop-position-preserved g c =
    let all = reverse c.args.rows.now in
    let first = c.args.first in
    let at = c.loop-position.position in
    let le = c.loop-position.invariant.from in
    record {
      from = omega (arith, le);
      writes = rw (rows_more all first at le)
          (writes_then {G = false ≡ true} (rows_until all first at le) (row_there all first at le) _ _ _ _ _ _ _ _ c.loop-position.invariant.writes c.in_ok-write_row_at.ensures);
    }

pub returns : goal.returns
returns g c =
    let all = reverse c.args.rows.now in
    let past : length all ≤ c.loop-position.position =
    omega (arith, c.loop-position-test.false, c.len-position-end.ensures, length-reverse c.args.rows.now) in
    rw (sym (rows_all all c.args.first c.loop-position.position past)) c.loop-position.invariant.writes
