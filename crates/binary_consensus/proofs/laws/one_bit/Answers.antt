use Rattle.binary_consensus.specs.Laws.FirstStep.{one_bit_law}
use Rattle.binary_consensus.proofs.laws.one_bit.Goals as goal

pub returns : goal.returns
returns c = one_bit_law
