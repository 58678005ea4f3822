use Rattle.replica.proofs.Made.{made_length}
use Rattle.replica.proofs.laws.made_length.Goals as goal

pub returns : goal.returns
returns c = made_length
