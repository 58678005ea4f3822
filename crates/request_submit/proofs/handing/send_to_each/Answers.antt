use Rattle.std.proofs.Common.{Err, refl, ap, ◌∙◌, take_all, arith}
use Rattle.std.proofs.lemmas.List.FromFn.{length-range_with_len, get_or-range_with_len}
use Rattle.std.proofs.lemmas.Result.{err_from_is_err_and}
use Rattle.ritas_base.specs.History.{replicas}
use Rattle.outside.specs.LinkCallsLaws.{did_none, did_one, each_goes, each_fails}
use Rattle.outside.specs.declared.link.LinkFault.{LinkFault}
use Rattle.request_submit.specs.Submitting.{message_sent_to}
use Rattle.request_submit.proofs.handing.send_to_each.Goals as goal

pub loop-node-init : goal.loop-node-init
loop-node-init g c = did_none _ _ _

pub loop-node-preserved : goal.loop-node-preserved
loop-node-preserved g c =
    let n = c.args.count in
    let k = c.loop-node.node in
    let act = message_sent_to c.args.message.now k in
    let here = get_or-range_with_len 0 n k 0 c.loop-node-test.true in
    each_goes (message_sent_to c.args.message.now) (replicas n) k k 0 _ _ _ _ _ _ _
    (rw (length-range_with_len 0 n) c.loop-node-test.true) (omega (arith, here)) c.loop-node.invariant
    (did_one _ act act _ _ _ _ _ refl c.in_ok-send.ensures.ok c.in_ok-send.ensures.err c.in_ok-send.ensures.cause c.in_ok-send.ensures.count)

pub returns-in_err-send : goal.returns-in_err-send
returns-in_err-send g c =
    let n = c.args.count in
    let k = c.loop-node.node in
    let act = message_sent_to c.args.message.now k in
    let here = get_or-range_with_len 0 n k 0 c.loop-node-test.true in
    let fault = err_from_is_err_and c.from_residual.result c.from_residual.ensures.1 in
    record {
      sent = rw (fault.1 ∙ ap (λ (x : LinkFault). Err x) fault.2)
          (each_fails (message_sent_to c.args.message.now) (replicas n) k k 0 _ _ _ _ _ _ _ _
          (rw (length-range_with_len 0 n) c.loop-node-test.true) (omega (arith, here)) c.loop-node.invariant
          (did_one _ act act _ _ _ _ _ refl c.in_err-send.ensures.ok c.in_err-send.ensures.err c.in_err-send.ensures.cause c.in_err-send.ensures.count));
    }

pub returns : goal.returns
returns g c =
    let n = c.args.count in
    let k = c.loop-node.node in
    let len = length-range_with_len 0 n in
    record { sent = rw (take_all k (replicas n) (omega (arith, len, c.loop-node-test.false))) at c.loop-node.invariant }
