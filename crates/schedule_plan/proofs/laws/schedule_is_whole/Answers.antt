use Rattle.schedule_plan.proofs.Whole.{whole_law}
use Rattle.schedule_plan.proofs.laws.schedule_is_whole.Goals as goal

pub returns : goal.returns
returns c = whole_law
