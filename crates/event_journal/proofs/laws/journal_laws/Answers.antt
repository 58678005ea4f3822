use Rattle.event_journal.proofs.Readings.{one_list, not_broken, not_foreign, not_both, one_broken, one_foreign}
use Rattle.event_journal.proofs.laws.journal_laws.Goals as goal

pub returns-clause-opens : goal.returns-clause-opens
returns-clause-opens c = λ me head file es fs long. one_list me head file long es fs

pub returns-clause-whole : goal.returns-clause-whole
returns-clause-whole c = λ me head file es p long. not_broken me head file long es p

pub returns-clause-own : goal.returns-clause-own
returns-clause-own c = λ me head file es p long. not_foreign me head file long es p

pub returns-clause-either : goal.returns-clause-either
returns-clause-either c = λ me head file p q long. not_both me head file long p q

pub returns-clause-broken : goal.returns-clause-broken
returns-clause-broken c = one_broken

pub returns-clause-foreign : goal.returns-clause-foreign
returns-clause-foreign c = λ head file. one_foreign 0 head file
