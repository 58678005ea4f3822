use Rattle.frame_codec.proofs.Readings.{faultless}
use Rattle.frame_codec.proofs.body_laws.right_input.Goals as goal

pub returns : goal.returns
returns c = faultless
