-- The chain: the rows that each epoch gave it, those of epoch 0 first. Of an epoch it gets the rows whose client and request have none
-- yet, up to the first of these that closes. Lists have the newest first.
use Rattle.std.specs.Prelude.{List, [], ◌∷◌, ◌++◌}
use Rattle.command_log.specs.Rows.{Row}
use Rattle.command_log.specs.Fresh.{fresh, closed_part}

-- the chain after an epoch with this log
abbrev pub chain_after : List Row → List Row → List Row
chain_after chain log = closed_part (fresh chain log) ++ chain

-- the chain of the epochs with these logs
abbrev pub chain_of : List (List Row) → List Row
chain_of [] = []
chain_of (log ∷ logs) = chain_after (chain_of logs) log
