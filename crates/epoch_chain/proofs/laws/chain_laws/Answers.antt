use Rattle.epoch_chain.proofs.Chains.{chains_agree, chains_once, rows_are_of_epochs}
use Rattle.epoch_chain.proofs.TakingOver.{marked_is_closed}
use Rattle.epoch_chain.proofs.laws.chain_laws.Goals as goal

pub returns-clause-agree : goal.returns-clause-agree
returns-clause-agree c = chains_agree

pub returns-clause-once : goal.returns-clause-once
returns-clause-once c = chains_once

pub returns-clause-confirmed : goal.returns-clause-confirmed
returns-clause-confirmed c = rows_are_of_epochs

pub returns-clause-closed : goal.returns-clause-closed
returns-clause-closed c = marked_is_closed
