use Rattle.node_loop.proofs.Grown.{groups_are_rounds}
use Rattle.node_loop.proofs.OneRun.{runs_one}
use Rattle.node_loop.proofs.laws.one_run.Goals as goal

pub returns : goal.returns
returns c = record {
  runs = runs_one;
  groups = groups_are_rounds;
}
