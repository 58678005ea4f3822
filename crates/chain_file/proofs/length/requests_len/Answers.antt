use Rattle.std.proofs.Common.{rules, ◌≡◌, [], ◌∷◌, get_or, length, take, ap, subst, sym, arith, length-append}
use Rattle.std.specs.List.{AllByRecursion}
use Rattle.std.proofs.lemmas.List.{take_more}
use Rattle.chain_file.specs.Epochs.{IsRequest, request_text, requests_text}
use Rattle.chain_file.proofs.Lists.{all_at, all_joined}
use Rattle.chain_file.proofs.Texts.{request_more}
use Rattle.chain_file.proofs.length.requests_len.Goals as goal

pub returns-in-None : goal.returns-in-None
returns-in-None c = λ all.
    let rs = c.args.waiting.now in
    let i = c.loop-request.request-index in
    let item = c.request-item.result in
    let same : c.as_slice.result.now ≡ get_or rs i item = search rules in
    c.in-None.ensures (subst IsRequest (sym same) (all_at IsRequest rs i item c.loop-request-test.true all))

pub loop-request-preserved : goal.loop-request-preserved
loop-request-preserved c =
    let rs = c.args.waiting.now in
    let i = c.loop-request.request-index in
    let item = c.request-item.result in
    let same : c.as_slice.result.now ≡ get_or rs i item = search rules in
    let inv = c.loop-request.invariant in
    let more = ap length (request_more rs i item c.loop-request-test.true) in
    let both = length-append (requests_text (take i rs)) (request_text (get_or rs i item)) in
    let long = ap length same in
    let size = c.in-Some.ensures.1 in
    let low = c.in-Some.ensures.2 in
    let len = inv.len in
    let most = inv.most in
    record {
      each = subst (AllByRecursion IsRequest) (sym (take_more rs i item c.loop-request-test.true))
          (all_joined IsRequest (take i rs) (get_or rs i item ∷ []) inv.each (subst IsRequest same c.in-Some.ensures.0, tt));
      len = omega (arith, len, size, more, both, long);
      most = omega (arith, most, low);
    }
