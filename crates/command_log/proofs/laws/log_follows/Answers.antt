use Rattle.command_log.specs.Fits.{log_fits, rows_fit}
use Rattle.command_log.specs.Laws.{same_entries}
use Rattle.command_log.proofs.laws.log_follows.Goals as goal

pub returns-clause-identifiers : goal.returns-clause-identifiers
returns-clause-identifiers c = log_fits

pub returns-clause-rows : goal.returns-clause-rows
returns-clause-rows c = rows_fit

pub returns-clause-entries : goal.returns-clause-entries
returns-clause-entries c = same_entries
