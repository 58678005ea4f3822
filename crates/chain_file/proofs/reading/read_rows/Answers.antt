use Rattle.std.proofs.Common.{arith, sym, ◌∙◌, refl}
use Rattle.std.proofs.lemmas.Result.{err_from_is_err_and}
use Rattle.command_log.specs.Pieces.{row_bytes, rows_bytes}
use Rattle.chain_file.specs.Epochs.{FitsRow}
use Rattle.chain_file.specs.Reading.{AreRows}
use Rattle.chain_file.proofs.Fronts.{none_then}
use Rattle.chain_file.proofs.Unique.{one_row, next_of, grows}
use Rattle.chain_file.proofs.reading.read_rows.Goals as goal

pub returns-in_err-row : goal.returns-in_err-row
returns-in_err-row c =
    let p = err_from_is_err_and c.from_residual.result c.from_residual.ensures.1 in
    let so = c.loop.invariant in
    let few = c.loop-test.true in
    rw (p.1, p.2) (none_then FitsRow row_bytes (AreRows c.args.count) rows_bytes c.args.bytes.now c.loop.rest.now (λ rows more fits parts.
    next_of FitsRow row_bytes rows_bytes refl (λ x xs. refl) one_row c.loop.rows.items rows c.loop.rest.now more
    (omega (arith, so.fits.0, fits.0, few)) so.fits.1 fits.1 (sym so.parts ∙ parts)) c.in_err-row.field-0.0 c.in_err-row.ensures)

pub loop-preserved : goal.loop-preserved
loop-preserved c =
    let so = c.loop.invariant in
    let next = c.in_ok-row.ensures in
    rw c.in_ok-push.ensures.items (grows FitsRow row_bytes rows_bytes refl (λ x xs. refl) c.loop.rows.items c.in_ok-row.row c.args.bytes.now c.loop.rest.now c.in_ok-row.more.now c.loop.counter
    so.fits next.fits so.parts next.parts)
