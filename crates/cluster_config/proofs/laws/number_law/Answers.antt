use Rattle.cluster_config.proofs.Numerals.{numeral_is}
use Rattle.cluster_config.proofs.laws.number_law.Goals as goal

pub returns : goal.returns
returns c = numeral_is
