use Rattle.outside.specs.WritingLaws.{writes_then, fails_as}
use Rattle.chain_file.specs.Epochs.{rows_from, rows_text, waiting_text}
use Rattle.chain_file.proofs.writing.write_epoch.Goals as goal

pub returns-in_err-write_rows : goal.returns-in_err-write_rows
returns-in_err-write_rows g c =
    fails_as (rows_text (rows_from c.args.rows.now c.args.first)) (waiting_text c.args.waiting.now) _ _ _ _ _ _ _ c.from_residual.ensures.0 c.in_err-write_rows.ensures

pub returns : goal.returns
returns g c =
    writes_then (rows_text (rows_from c.args.rows.now c.args.first)) (waiting_text c.args.waiting.now) _ _ _ _ _ _ _ _ c.in_ok-write_rows.ensures c.write_waiting.ensures
