use Rattle.node_loop.proofs.FramesSent.{are_made}
use Rattle.node_loop.proofs.laws.frames_are_made.Goals as goal

pub returns : goal.returns
returns c = record {
  made = are_made;
}
