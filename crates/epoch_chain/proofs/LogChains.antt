-- A log over the chain of the epochs before is the chain.
use Rattle.std.specs.Prelude.{List, ◌++◌, refl}
use Rattle.std.proofs.Common.{ap}
use Rattle.command_log.specs.Rows.{Row, chained_on}
use Rattle.command_log.specs.ChainLaws.{of_log, over_of_log}
use Rattle.epoch_chain.specs.Chain.{chain_of}
use Rattle.epoch_chain.specs.Epochs.{LogIsChain, OverIsClosed}

pub log_is_chain : LogIsChain
log_is_chain earlier f es = ap (λ (rows : List Row). rows ++ chain_of earlier) (of_log (chained_on (chain_of earlier)) f es refl)

pub over_is_closed : OverIsClosed
over_is_closed earlier f es = over_of_log (chained_on (chain_of earlier)) f es refl
