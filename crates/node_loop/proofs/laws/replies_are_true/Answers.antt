use Rattle.node_loop.proofs.TrueReplies.{replies_true}
use Rattle.node_loop.proofs.laws.replies_are_true.Goals as goal

pub returns : goal.returns
returns g c = record {
  replies = λ w past start groups is once. replies_true w once (λ more es i. c.logs_grow.ensures w more es i is) past start groups;
}
