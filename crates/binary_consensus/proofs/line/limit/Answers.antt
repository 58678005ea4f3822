use Rattle.binary_consensus.proofs.Lines.{limit_third, limit_other}
use Rattle.binary_consensus.proofs.line.limit.Goals as goal

pub returns-then-t-eq2 : goal.returns-then-t-eq2
returns-then-t-eq2 c = limit_third c.args.t c.if-t-eq2.true

pub returns-else-t-eq2 : goal.returns-else-t-eq2
returns-else-t-eq2 c = limit_other c.args.t c.if-t-eq2.false
