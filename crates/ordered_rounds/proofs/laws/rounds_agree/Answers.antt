use Rattle.ordered_rounds.specs.Laws.OneLog.{decisions_agree}
use Rattle.ordered_rounds.proofs.laws.rounds_agree.Goals as goal

pub returns : goal.returns
returns c = decisions_agree
