use Rattle.frame_codec.specs.VectorLaws.{class2_short}
use Rattle.frame_codec.proofs.laws.class2_is_short.Goals as goal

pub returns : goal.returns
returns c = class2_short
