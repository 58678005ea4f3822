use Rattle.std.specs.Int.{w16, to_be_bytes}
use Rattle.std.proofs.lemmas.Result.{err_from_is_err_and}
use Rattle.command_log.specs.Pieces.{rows_bytes}
use Rattle.chain_file.specs.Epochs.{IsEpoch, epoch_text, requests_text}
use Rattle.chain_file.specs.Reading.{AreRequests, AreRows, HasTwoBytes}
use Rattle.chain_file.proofs.Fronts.{none_then}
use Rattle.chain_file.proofs.Epoch.{has_rows, has_second, has_waiting, is_read}
use Rattle.chain_file.proofs.reading.read_parts.Goals as goal

pub returns-in_err-rows : goal.returns-in_err-rows
returns-in_err-rows c =
    let p = err_from_is_err_and c.from_residual-in_err-rows.result c.from_residual-in_err-rows.ensures.1 in
    let bytes = c.args.bytes.now in
    let count = c.in_ok-count.ensures in
    rw (p.1, p.2) (none_then (AreRows c.in_ok-count.count) rows_bytes IsEpoch epoch_text bytes c.in_ok-count.rest.now (λ e more is text.
    has_rows bytes c.in_ok-count.rest.now c.in_ok-count.count count.fits count.parts e more is text) c.in_err-rows.field-0.0 c.in_err-rows.ensures)

pub returns-in_err-count-2 : goal.returns-in_err-count-2
returns-in_err-count-2 c =
    let p = err_from_is_err_and c.from_residual-in_err-count-2.result c.from_residual-in_err-count-2.ensures.1 in
    let bytes = c.args.bytes.now in
    let count = c.in_ok-count.ensures in
    let rows = c.in_ok-rows.ensures in
    rw (p.1, p.2) (none_then HasTwoBytes (to_be_bytes w16) IsEpoch epoch_text bytes c.in_ok-rows.rest.now (λ e more is text.
    has_second bytes c.in_ok-count.rest.now c.in_ok-count.count count.fits count.parts e more is text
    c.in_ok-rows.rows.items c.in_ok-rows.rest.now rows.fits rows.parts) c.in_err-count-2.field-0.0 c.in_err-count-2.ensures)

pub returns-in_err-waiting : goal.returns-in_err-waiting
returns-in_err-waiting c =
    let p = err_from_is_err_and c.from_residual-in_err-waiting.result c.from_residual-in_err-waiting.ensures.1 in
    let bytes = c.args.bytes.now in
    let count = c.in_ok-count.ensures in
    let rows = c.in_ok-rows.ensures in
    let second = c.in_ok-count-2.ensures in
    rw (p.1, p.2) (none_then (AreRequests c.in_ok-count-2.count) requests_text IsEpoch epoch_text bytes c.in_ok-count-2.rest.now (λ e more is text.
    has_waiting bytes c.in_ok-count.rest.now c.in_ok-count.count count.fits count.parts e more is text
    c.in_ok-rows.rows.items c.in_ok-rows.rest.now rows.fits rows.parts
    c.in_ok-count-2.rest.now c.in_ok-count-2.count second.fits second.parts) c.in_err-waiting.field-0.0 c.in_err-waiting.ensures)

pub returns : goal.returns
returns c =
    let count = c.in_ok-count.ensures in
    let rows = c.in_ok-rows.ensures in
    let second = c.in_ok-count-2.ensures in
    let waiting = c.in_ok-waiting.ensures in
    is_read c.args.bytes.now c.in_ok-count.rest.now c.in_ok-rows.rest.now c.in_ok-count-2.rest.now c.in_ok-waiting.rest.now c.in_ok-count.count c.in_ok-count-2.count
    c.in_ok-rows.rows.items c.in_ok-waiting.waiting.items
    count.fits count.parts rows.fits rows.parts second.fits second.parts waiting.fits waiting.parts
