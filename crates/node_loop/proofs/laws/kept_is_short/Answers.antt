use Rattle.node_loop.proofs.KeptEvents.{short_kept}
use Rattle.node_loop.proofs.laws.kept_is_short.Goals as goal

pub returns : goal.returns
returns c = record {
  short = short_kept;
}
