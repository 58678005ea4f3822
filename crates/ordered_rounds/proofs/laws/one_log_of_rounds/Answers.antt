use Rattle.ordered_rounds.specs.Laws.LogLaw.{one_log_law}
use Rattle.ordered_rounds.specs.Laws.Appending.{appends_proposed}
use Rattle.ordered_rounds.proofs.laws.one_log_of_rounds.Goals as goal

pub returns-clause-log : goal.returns-clause-log
returns-clause-log c = one_log_law

pub returns-clause-proposed : goal.returns-clause-proposed
returns-clause-proposed c = appends_proposed
