use Rattle.std.proofs.Common.{length, reverse, ap, ◌∙◌, subst, sym}
use Rattle.std.specs.Int.{w32, to_be_bytes}
use Rattle.std.specs.List.{AllByRecursion}
use Rattle.command_log.specs.Pieces.{rows_bytes}
use Rattle.chain_file.specs.Epochs.{FitsRow, rows_from}
use Rattle.chain_file.proofs.Lists.{all_reversed, rows_since}
use Rattle.chain_file.proofs.Written.{then_at, fails_at}
use Rattle.chain_file.proofs.writing.write_rows.Goals as goal

pub write_rows_from-requires : goal.write_rows_from-requires
write_rows_from-requires g c =
    let rows = rows_from c.args.rows.now c.args.first in
    subst (AllByRecursion FitsRow) (rows_since c.args.rows.now c.args.first) (all_reversed FitsRow rows c.requires)

pub returns-in_err-write_all : goal.returns-in_err-write_all
returns-in_err-write_all g c =
    let rows = rows_from c.args.rows.now c.args.first in
    fails_at c.to_be_bytes.result (to_be_bytes w32 (length rows)) (rows_bytes (reverse rows)) (c.to_be_bytes.ensures ∙ ap (to_be_bytes w32) c.row_count.ensures)
    _ _ _ _ _ _ _ c.from_residual.ensures.0 c.in_err-write_all.ensures

pub returns : goal.returns
returns g c =
    let rows = rows_from c.args.rows.now c.args.first in
    then_at c.to_be_bytes.result _ (to_be_bytes w32 (length rows)) (rows_bytes (reverse rows)) (c.to_be_bytes.ensures ∙ ap (to_be_bytes w32) c.row_count.ensures)
    (ap rows_bytes (sym (rows_since c.args.rows.now c.args.first)))
    _ _ _ _ _ _ _ _ c.in_ok-write_all.ensures c.write_rows_from.ensures
