use Rattle.std.proofs.Common.{arith}
use Rattle.world_model.proofs.Tables.{pushed, kept, on_err}
use Rattle.world_model.proofs.made.push_at.Goals as goal

pub returns-in_ok-push-clause-ok : goal.returns-in_ok-push-clause-ok
returns-in_ok-push-clause-ok c =
    pushed (λ frames. frames.items) c.args.at c.args.lists.now.items c.index_mut.result.now c.push.new.self c.args.frame
    (omega arith) c.index_mut.ensures.value c.in_ok-push.ensures.items

pub returns-in_err-push-clause-err : goal.returns-in_err-push-clause-err
returns-in_err-push-clause-err c =
    on_err c.from_residual.result
    (kept (λ frames. frames.items) c.args.at c.args.lists.now.items c.index_mut.result.now c.push.new.self
    (omega arith) c.index_mut.ensures.value c.in_err-push.ensures.items)
