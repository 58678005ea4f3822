use Rattle.observer.proofs.Parts.{longest_there, row_is_true}
use Rattle.observer.proofs.laws.row_is_true.Goals as goal

pub returns-clause-longest : goal.returns-clause-longest
returns-clause-longest c = longest_there

pub returns-clause-row : goal.returns-clause-row
returns-clause-row c = row_is_true
