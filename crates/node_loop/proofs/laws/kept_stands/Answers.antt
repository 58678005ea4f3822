use Rattle.node_loop.proofs.KeptEvents.{stands_kept}
use Rattle.node_loop.proofs.laws.kept_stands.Goals as goal

pub returns : goal.returns
returns c = record {
  stands = stands_kept;
}
