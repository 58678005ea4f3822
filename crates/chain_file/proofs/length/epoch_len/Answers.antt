use Rattle.std.proofs.Common.{ℕ, ◌<◌, ◌≤◌, ◌^◌, length, ◌∙◌, subst, arith}
use Rattle.chain_file.proofs.Lists.{some_leads, none_leads}
use Rattle.chain_file.proofs.Lengths.{rows_fit, is_epoch, text_long}
use Rattle.chain_file.proofs.length.epoch_len.Goals as goal

pub returns-in-Some-requests_len-clause-some : goal.returns-in-Some-requests_len-clause-some
returns-in-Some-requests_len-clause-some c =
    let log = c.args.rows.now in
    let first = c.args.first in
    let waiting = c.args.waiting.now in
    let rows = c.in-Some.ensures in
    let requests = c.in-Some-requests_len.ensures in
    let few : length waiting < 2 ^ 16 = omega (arith, c.if-waiting-gt65535.false) in
    some_leads _ c.record_len.result
    (λ short same. (is_epoch log first waiting rows.0 rows.3 requests.0 few, same ∙ text_long log first waiting c.in-Some.rows_len c.in-Some-requests_len.requests_len rows.1 requests.1))
    c.record_len.ensures

pub returns-in-Some-requests_len-clause-none : goal.returns-in-Some-requests_len-clause-none
returns-in-Some-requests_len-clause-none c =
    let long = text_long c.args.rows.now c.args.first c.args.waiting.now c.in-Some.rows_len c.in-Some-requests_len.requests_len c.in-Some.ensures.1 c.in-Some-requests_len.ensures.1 in
    none_leads _ c.record_len.result (λ much is. subst (λ (n : ℕ). 2 ^ 32 ≤ n) long much) c.record_len.ensures

pub returns-in-None-clause-none : goal.returns-in-None-clause-none
returns-in-None-clause-none c = λ is. absurd (c.in-None.ensures (rows_fit c.args.rows.now c.args.first c.args.waiting.now is))
