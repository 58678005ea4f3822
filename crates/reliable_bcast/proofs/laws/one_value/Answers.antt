use Rattle.reliable_bcast.specs.Laws.OneValue.{one_value_of_bracha}
use Rattle.reliable_bcast.proofs.laws.one_value.Goals as goal

pub returns : goal.returns
returns c = one_value_of_bracha
