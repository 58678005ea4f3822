use Rattle.node_loop.proofs.Fitting.{all_fit}
use Rattle.node_loop.proofs.laws.events_fit.Goals as goal

pub returns : goal.returns
returns c = record {
  fit = all_fit;
}
