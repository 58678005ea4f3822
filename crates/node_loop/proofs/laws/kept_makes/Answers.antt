use Rattle.node_loop.proofs.KeptEvents.{makes_kept}
use Rattle.node_loop.proofs.laws.kept_makes.Goals as goal

pub returns : goal.returns
returns c = record {
  makes = makes_kept;
}
