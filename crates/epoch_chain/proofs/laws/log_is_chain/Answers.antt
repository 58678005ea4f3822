use Rattle.epoch_chain.proofs.LogChains.{log_is_chain, over_is_closed}
use Rattle.epoch_chain.proofs.laws.log_is_chain.Goals as goal

pub returns-clause-rows : goal.returns-clause-rows
returns-clause-rows c = log_is_chain

pub returns-clause-over : goal.returns-clause-over
returns-clause-over c = over_is_closed
