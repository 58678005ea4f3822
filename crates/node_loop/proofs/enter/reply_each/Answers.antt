use Rattle.std.proofs.Common.{map, Some, None, sym, ap, ◌∙◌, append-nil}
use Rattle.std.proofs.lemmas.List.{map-append}
use Rattle.std.proofs.lemmas.Result.{err_from_is_err_and}
use Rattle.node_loop.specs.Standing.{reply_by}
use Rattle.node_loop.proofs.Entering.{replied_more, some_replied}
use Rattle.node_loop.proofs.enter.reply_each.Goals as goal
use Rattle.node_loop.proofs.enter.reply_each.Goals.{in-Some+in_ok-push, in_default}

pub loop-conn-preserved : goal.loop-conn-preserved
loop-conn-preserved c = λ at. elim c.match-conn.branch [
  | in-Some+in_ok-push w ↦
      replied_more at c.args.bytes c.args.conns.now c.loop-conn.conn-index (Some w.in-Some.conn) _ c.loop-conn.replies.items c.match-conn.replies.items c.loop-conn-test.true w.in-Some.is (c.loop-conn.invariant at)
      (ap (λ r. map (reply_by at) r.items) w.replies-is ∙ ap (map (reply_by at)) w.in_ok-push.ensures.items ∙ map-append (reply_by at) _ _)
  | in_default w ↦
      replied_more at c.args.bytes c.args.conns.now c.loop-conn.conn-index None _ c.loop-conn.replies.items c.match-conn.replies.items c.loop-conn-test.true w.in_default.is (c.loop-conn.invariant at)
      (ap (λ r. map (reply_by at) r.items) w.replies-is ∙ sym (append-nil _))
]

pub returns-in_err-push-clause-memory : goal.returns-in_err-push-clause-memory
returns-in_err-push-clause-memory c = λ at.
    let p = err_from_is_err_and c.from_residual.result c.from_residual.ensures.1 in
    rw p.1 (some_replied at c.args.bytes c.args.conns.now c.loop-conn.conn-index c.in-Some.conn c.loop-conn-test.true c.in-Some.is)
