use Rattle.epoch_chain.proofs.Adopting.{adopted_is_true, adopted_is_part}
use Rattle.epoch_chain.proofs.TakingOver.{taken_over_is_kept}
use Rattle.epoch_chain.proofs.laws.rows_taken_over.Goals as goal

pub returns-clause-row : goal.returns-clause-row
returns-clause-row c = adopted_is_true

pub returns-clause-chain : goal.returns-clause-chain
returns-clause-chain c = adopted_is_part

pub returns-clause-epoch : goal.returns-clause-epoch
returns-clause-epoch c = taken_over_is_kept
