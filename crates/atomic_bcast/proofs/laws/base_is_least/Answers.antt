use Rattle.atomic_bcast.specs.Laws.Commands.{base_is, heard_near}
use Rattle.atomic_bcast.proofs.laws.base_is_least.Goals as goal

pub returns-clause-missing : goal.returns-clause-missing
returns-clause-missing c = λ w o. (base_is w o).missing

pub returns-clause-below : goal.returns-clause-below
returns-clause-below c = λ w o. (base_is w o).below

pub returns-clause-near : goal.returns-clause-near
returns-clause-near c = heard_near
