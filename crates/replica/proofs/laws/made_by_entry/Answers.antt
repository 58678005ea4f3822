use Rattle.replica.proofs.Made.{made_by_entry}
use Rattle.replica.proofs.laws.made_by_entry.Goals as goal

pub returns : goal.returns
returns c = made_by_entry
