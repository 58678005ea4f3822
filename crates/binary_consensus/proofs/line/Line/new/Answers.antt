use Rattle.binary_consensus.proofs.Lines.{empty_line}
use Rattle.binary_consensus.proofs.line.Line.new.Goals as goal

pub invariant_of-result : goal.invariant_of-result
invariant_of-result c = empty_line c.args.params.now c.new.result.items c.new.ensures.items
