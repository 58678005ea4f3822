use Rattle.node_loop.proofs.Reopening.{resends_open}
use Rattle.node_loop.proofs.laws.resends_are_open.Goals as goal

pub returns : goal.returns
returns c = record {
  unacknowledged = resends_open;
}
