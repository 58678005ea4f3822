use Rattle.record_file.proofs.Readings.{one_list, not_broken, not_foreign, not_both, one_broken, one_foreign}
use Rattle.record_file.proofs.Walking.{read_as}
use Rattle.record_file.proofs.laws.record_laws.Goals as goal

pub returns-clause-opens : goal.returns-clause-opens
returns-clause-opens c = λ form head file rs ss long. one_list form head file long rs ss

pub returns-clause-read : goal.returns-clause-read
returns-clause-read c = λ form head file rs long. read_as form head file long rs

pub returns-clause-whole : goal.returns-clause-whole
returns-clause-whole c = λ form head file rs p long. not_broken form head file long rs p

pub returns-clause-own : goal.returns-clause-own
returns-clause-own c = λ form head file rs p long. not_foreign form head file long rs p

pub returns-clause-either : goal.returns-clause-either
returns-clause-either c = λ form head file p q long. not_both form head file long p q

pub returns-clause-broken : goal.returns-clause-broken
returns-clause-broken c = one_broken

pub returns-clause-foreign : goal.returns-clause-foreign
returns-clause-foreign c = one_foreign
