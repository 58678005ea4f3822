use Rattle.command_log.specs.Laws.{rows_once, command_part, row_is, row_confirmed, row_covers, origin_is}
use Rattle.command_log.proofs.laws.command_rows.Goals as goal

pub returns-clause-once : goal.returns-clause-once
returns-clause-once c = rows_once

pub returns-clause-part : goal.returns-clause-part
returns-clause-part c = command_part

pub returns-clause-listed : goal.returns-clause-listed
returns-clause-listed c = row_is

pub returns-clause-confirmed : goal.returns-clause-confirmed
returns-clause-confirmed c = row_confirmed

pub returns-clause-covered : goal.returns-clause-covered
returns-clause-covered c = row_covers

pub returns-clause-origin : goal.returns-clause-origin
returns-clause-origin c = origin_is
