use Rattle.schedule_plan.proofs.Copies.{copies_law}
use Rattle.schedule_plan.proofs.laws.copies_go_apart.Goals as goal

pub returns : goal.returns
returns c = copies_law
