use Rattle.client_port.proofs.Written.{position_is_read, refusal_is_read}
use Rattle.client_port.proofs.laws.replies_are_read.Goals as goal

pub returns-clause-position : goal.returns-clause-position
returns-clause-position c = position_is_read

pub returns-clause-refusal : goal.returns-clause-refusal
returns-clause-refusal c = refusal_is_read
