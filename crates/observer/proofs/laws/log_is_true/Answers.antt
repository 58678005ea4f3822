use Rattle.observer.proofs.Parts.{log_is_true}
use Rattle.observer.proofs.Standing.{all_entered}
use Rattle.observer.proofs.laws.log_is_true.Goals as goal

pub returns-clause-prefix : goal.returns-clause-prefix
returns-clause-prefix c = log_is_true

pub returns-clause-whole : goal.returns-clause-whole
returns-clause-whole c = all_entered
