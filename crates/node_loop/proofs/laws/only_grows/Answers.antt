use Rattle.node_loop.proofs.Grown.{rounds_grow, groups_grow}
use Rattle.node_loop.proofs.laws.only_grows.Goals as goal

pub returns : goal.returns
returns c = record {
  events = rounds_grow;
  calls = groups_grow;
}
