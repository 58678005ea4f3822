use Rattle.std.proofs.Common.{rules, ◌≡◌, ◌+◌, ◌++◌, true, false, get_or, take, drop, ap, refl, subst, sym}
use Rattle.outside.specs.WritingLaws.{fails_as}
use Rattle.chain_file.specs.Epochs.{IsRequest, request_text, requests_text}
use Rattle.chain_file.proofs.Lists.{all_at}
use Rattle.chain_file.proofs.Texts.{request_more, request_cut}
use Rattle.chain_file.proofs.Written.{then_at}
use Rattle.chain_file.proofs.writing.write_requests.Goals as goal

pub write_request-requires : goal.write_request-requires
write_request-requires g c =
    let rs = c.args.waiting.now in
    let i = c.loop-request.request-index in
    let item = c.request-item.result in
    let same : c.as_slice.result.now ≡ get_or rs i item = search rules in
    subst IsRequest (sym same) (all_at IsRequest rs i item c.loop-request-test.true c.requires)

pub returns-in_err-write_request : goal.returns-in_err-write_request
returns-in_err-write_request g c =
    let rs = c.args.waiting.now in
    let i = c.loop-request.request-index in
    let item = c.request-item.result in
    let front = requests_text (take i rs) in
    let next = request_text (get_or rs i item) in
    let same : c.as_slice.result.now ≡ get_or rs i item = search rules in
    rw (request_cut rs i item c.loop-request-test.true)
    (fails_as (front ++ next) (requests_text (drop (i + 1) rs)) _ _ _ _ _ _ _ c.from_residual.ensures.0
    (then_at {G = true ≡ true} front _ front next refl (ap request_text same) _ _ _ _ _ _ _ _ c.loop-request.invariant c.in_err-write_request.ensures))

pub loop-request-preserved : goal.loop-request-preserved
loop-request-preserved g c =
    let rs = c.args.waiting.now in
    let i = c.loop-request.request-index in
    let item = c.request-item.result in
    let front = requests_text (take i rs) in
    let same : c.as_slice.result.now ≡ get_or rs i item = search rules in
    rw (request_more rs i item c.loop-request-test.true)
    (then_at {G = false ≡ true} front _ front (request_text (get_or rs i item)) refl (ap request_text same) _ _ _ _ _ _ _ _ c.loop-request.invariant c.in_ok-write_request.ensures)
