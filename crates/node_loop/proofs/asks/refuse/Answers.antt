use Rattle.std.proofs.Common.{List, ℕ, ◌++◌, map, ap, ◌∙◌}
use Rattle.std.proofs.lemmas.Result.{on_ok_weaker}
use Rattle.node_loop.specs.Calls.{reply}
use Rattle.node_loop.specs.Standing.{reply_by}
use Rattle.node_loop.proofs.asks.refuse.Goals as goal

pub returns-clause-replies : goal.returns-clause-replies
returns-clause-replies c = λ at.
    on_ok_weaker c.reply.result
    (λ replied. replied ∙ ap (λ (b : List ℕ). map (reply_by at) c.args.output.now.replies.items ++ reply at b c.args.conn) c.write_refusal-bytes.ensures)
    (c.reply.ensures.replies at)
