use Rattle.replica.proofs.Counting.{made_more}
use Rattle.replica.proofs.laws.made_in_all.Goals as goal

pub returns : goal.returns
returns c = made_more
