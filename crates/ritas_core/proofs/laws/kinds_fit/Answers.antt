use Rattle.ritas_core.specs.RulesLaws.{kinds_fit}
use Rattle.ritas_core.proofs.laws.kinds_fit.Goals as goal

pub returns : goal.returns
returns c = kinds_fit
