use Rattle.command_log.specs.Fits.{chain_fits}
use Rattle.command_log.specs.Laws.{alone_rows, chain_once, chain_part, base_part, own_is, own_confirmed, own_covers}
use Rattle.command_log.specs.ChainLaws.{of_log, over_of_log}
use Rattle.command_log.proofs.laws.chain_rows.Goals as goal

pub returns-clause-base : goal.returns-clause-base
returns-clause-base c = base_part

pub returns-clause-once : goal.returns-clause-once
returns-clause-once c = chain_once

pub returns-clause-part : goal.returns-clause-part
returns-clause-part c = chain_part

pub returns-clause-listed : goal.returns-clause-listed
returns-clause-listed c = own_is

pub returns-clause-many : goal.returns-clause-many
returns-clause-many c = chain_fits

pub returns-clause-confirmed : goal.returns-clause-confirmed
returns-clause-confirmed c = own_confirmed

pub returns-clause-covered : goal.returns-clause-covered
returns-clause-covered c = own_covers

pub returns-clause-of_log : goal.returns-clause-of_log
returns-clause-of_log c = of_log

pub returns-clause-over : goal.returns-clause-over
returns-clause-over c = over_of_log

pub returns-clause-no_base : goal.returns-clause-no_base
returns-clause-no_base c = alone_rows
