use Rattle.node_loop.proofs.Earning.{are_earned}
use Rattle.node_loop.proofs.EarningRounds.{acks_of_rounds}
use Rattle.node_loop.proofs.laws.acks_are_earned.Goals as goal

pub returns : goal.returns
returns c = record {
  earned = are_earned;
  rounds = acks_of_rounds;
}
