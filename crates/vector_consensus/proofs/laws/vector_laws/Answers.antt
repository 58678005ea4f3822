use Rattle.vector_consensus.specs.Laws.Box.{vector_laws_law}
use Rattle.vector_consensus.proofs.laws.vector_laws.Goals as goal

pub returns : goal.returns
returns c = λ m laws. vector_laws_law m laws
