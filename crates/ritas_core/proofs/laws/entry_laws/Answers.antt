use Rattle.ritas_core.proofs.Conditions.{may_start_given, may_hear, may_start_heard}
use Rattle.ritas_core.proofs.laws.entry_laws.Goals as goal

pub returns : goal.returns
returns c = record { given = may_start_given; hears = may_hear; heard = may_start_heard }
