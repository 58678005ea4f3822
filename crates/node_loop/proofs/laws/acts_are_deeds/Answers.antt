use Rattle.node_loop.proofs.FramesSent.{acts_are, deeds_behind}
use Rattle.node_loop.proofs.laws.acts_are_deeds.Goals as goal

pub returns : goal.returns
returns c = record {
  deeds = acts_are;
  behind = deeds_behind;
}
