use Rattle.bracha_validation.proofs.Formulas.{same_counts}
use Rattle.bracha_validation.proofs.laws.set_of_votes.Goals as goal

pub returns-clause-same : goal.returns-clause-same
returns-clause-same c = same_counts
