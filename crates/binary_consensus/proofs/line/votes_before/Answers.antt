use Rattle.std.proofs.Common.{arith}
use Rattle.binary_consensus.proofs.Lines.{before_first, before_later}
use Rattle.binary_consensus.proofs.line.votes_before.Goals as goal

pub returns-then-t-eq0 : goal.returns-then-t-eq0
returns-then-t-eq0 c = before_first c.args.steps.now c.args.t c.if-t-eq0.true

pub returns-else-t-eq0 : goal.returns-else-t-eq0
returns-else-t-eq0 c = let some = c.if-t-eq0.false in let inside = c.requires in before_later c.args.steps.now c.args.t some (omega (arith, some, inside))
