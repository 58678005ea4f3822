use Rattle.reliable_bcast.proofs.Reading.{carried_value}
use Rattle.reliable_bcast.proofs.laws.one_carried.Goals as goal

pub returns : goal.returns
returns c = carried_value
