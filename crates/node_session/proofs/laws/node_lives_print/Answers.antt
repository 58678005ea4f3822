use Rattle.node_session.proofs.NodePrints.{node_prints}
use Rattle.node_session.proofs.laws.node_lives_print.Goals as goal

pub returns : goal.returns
returns c = record {
  print = node_prints (λ me head file es fs. c.journal_laws.ensures.opens me head file es fs);
}
