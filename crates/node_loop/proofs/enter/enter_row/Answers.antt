use Rattle.std.proofs.Common.{◌≢◌, [], ◌++◌, List, map, ap₂, ◌∙◌, subst, OnErr}
use Rattle.std.proofs.lemmas.Result.{on_ok_weaker}
use Rattle.outside.specs.declared.link.Sent.{Sent}
use Rattle.node_loop.specs.Calls.{reply_each}
use Rattle.node_loop.specs.Standing.{reply_by}
use Rattle.node_loop.proofs.enter.enter_row.Goals as goal

pub returns : goal.returns
returns c = record {
  enters = λ ws is.
      let at = c.args.at in
      let before = map (reply_by at) c.args.replies.now.items in
      on_ok_weaker c.reply_each.result
      (λ e. (
        c.take-conns.ensures.rest ws is,
        e ∙ ap₂ (λ bytes conns. before ++ reply_each at bytes conns) c.write_reply.ensures (c.as_slice.ensures.value ∙ c.take-conns.ensures.those ws is),
      ))
      (c.reply_each.ensures.replies at);
  memory = λ ws is.
      subst (λ (said : List Sent). OnErr c.reply_each.result (said ≢ []))
      (ap₂ (λ bytes conns. reply_each c.args.at bytes conns) c.write_reply.ensures (c.as_slice.ensures.value ∙ c.take-conns.ensures.those ws is))
      (c.reply_each.ensures.memory c.args.at);
}
