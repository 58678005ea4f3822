use Rattle.std.proofs.Common.{◌≡◌, ℕ, List, map, reverse, ap, take_all, Err, ◌∙◌}
use Rattle.std.proofs.lemmas.Simd.{map-map}
use Rattle.std.proofs.lemmas.Result.{err_from_is_err_and}
use Rattle.outside.specs.Links.{Replies}
use Rattle.outside.specs.declared.link.LinkFault.{LinkFault}
use Rattle.node_loop.specs.declared.output.Reply.{Reply}
use Rattle.node_loop.specs.Standing.{reply_by}
use Rattle.outside.specs.LinkCalls.{each_act}
use Rattle.node_loop.proofs.Taking.{given_none, given_one, each_given, each_stops}
use Rattle.node_loop.proofs.deliver.reply_all.Goals as goal

-- the two ways to say what is replied
as_two : (at : ℕ) (replies : List Reply) → reverse (map Replies (map (reply_by at) replies)) ≡ each_act (λ r. Replies (reply_by at r)) replies
as_two at replies = ap reverse (map-map Replies (reply_by at) replies)

same : {at to : ℕ} {a b : List ℕ} → a ≡ b → Replies (record { at = at; to = to; bytes = a }) ≡ Replies (record { at = at; to = to; bytes = b })
same {at} {to} e = ap (λ (bytes : List ℕ). Replies (record { at = at; to = to; bytes = bytes })) e

pub loop-given-init : goal.loop-given-init
loop-given-init g c = given_none _ _ _

pub loop-given-preserved : goal.loop-given-preserved
loop-given-preserved g c =
    each_given (λ r. Replies (reply_by c.args.at r)) c.args.replies.now c.loop-given.given-index c.given-item.result c.given-item.result _ _ _ _ _ _ _ c.loop-given-test.true c.given-item.is c.loop-given.invariant
    (given_one _ _ _ _ _ _ _ _ (same c.as_slice.ensures.said) c.in_ok-reply.ensures.ok c.in_ok-reply.ensures.err c.in_ok-reply.ensures.cause c.in_ok-reply.ensures.count)

pub returns-in_err-reply : goal.returns-in_err-reply
returns-in_err-reply g c = record {
  replies =
      let fault = err_from_is_err_and c.from_residual.result c.from_residual.ensures.1 in
      rw (fault.1 ∙ ap (λ (x : LinkFault). Err x) fault.2)
      (rw (as_two c.args.at c.args.replies.now)
      (each_stops (λ r. Replies (reply_by c.args.at r)) c.args.replies.now c.loop-given.given-index c.given-item.result c.given-item.result _ _ _ _ _ _ _ _ c.loop-given-test.true c.given-item.is c.loop-given.invariant
      (given_one _ _ _ _ _ _ _ _ (same c.as_slice.ensures.said) c.in_err-reply.ensures.ok c.in_err-reply.ensures.err c.in_err-reply.ensures.cause c.in_err-reply.ensures.count)));
}

pub returns : goal.returns
returns g c = record {
  replies = rw (as_two c.args.at c.args.replies.now) (rw (take_all c.loop-given.given-index c.args.replies.now c.loop-given-test.false) at c.loop-given.invariant);
}
