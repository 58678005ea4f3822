use Rattle.std.proofs.Common.{arith, sym, ◌∙◌, refl}
use Rattle.std.proofs.lemmas.Result.{err_from_is_err_and}
use Rattle.chain_file.specs.Epochs.{IsRequest, request_text, requests_text}
use Rattle.chain_file.specs.Reading.{AreRequests}
use Rattle.chain_file.proofs.Fronts.{none_then}
use Rattle.chain_file.proofs.Unique.{one_request, next_of, grows}
use Rattle.chain_file.proofs.reading.read_requests.Goals as goal

pub returns-in_err-request : goal.returns-in_err-request
returns-in_err-request c =
    let p = err_from_is_err_and c.from_residual.result c.from_residual.ensures.1 in
    let so = c.loop.invariant in
    let few = c.loop-test.true in
    rw (p.1, p.2) (none_then IsRequest request_text (AreRequests c.args.count) requests_text c.args.bytes.now c.loop.rest.now (λ rows more fits parts.
    next_of IsRequest request_text requests_text refl (λ x xs. refl) one_request c.loop.requests.items rows c.loop.rest.now more
    (omega (arith, so.fits.0, fits.0, few)) so.fits.1 fits.1 (sym so.parts ∙ parts)) c.in_err-request.field-0.0 c.in_err-request.ensures)

pub loop-preserved : goal.loop-preserved
loop-preserved c =
    let so = c.loop.invariant in
    let next = c.in_ok-request.ensures in
    rw c.in_ok-push.ensures.items (grows IsRequest request_text requests_text refl (λ x xs. refl) c.loop.requests.items c.in_ok-request.request c.args.bytes.now c.loop.rest.now c.in_ok-request.more.now c.loop.counter
    so.fits next.fits so.parts next.parts)
