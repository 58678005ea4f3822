use Rattle.binary_consensus.specs.Laws.Box.{box_laws_hold}
use Rattle.binary_consensus.proofs.laws.box_laws.Goals as goal

pub returns : goal.returns
returns c = box_laws_hold
