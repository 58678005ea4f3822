use Rattle.observer.proofs.Parts.{given_row_is_true}
use Rattle.observer.proofs.laws.given_row_is_true.Goals as goal

pub returns : goal.returns
returns c = given_row_is_true
