use Rattle.client_port.proofs.Positions.{position_law_holds}
use Rattle.client_port.proofs.laws.position_is_true.Goals as goal

pub returns : goal.returns
returns c = position_law_holds
