use Rattle.reliable_bcast.proofs.Reading.{backed_value}
use Rattle.reliable_bcast.proofs.laws.one_backed.Goals as goal

pub returns : goal.returns
returns c = backed_value
