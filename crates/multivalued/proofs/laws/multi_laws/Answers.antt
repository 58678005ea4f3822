use Rattle.multivalued.specs.Laws.Box.{multi_laws_law}
use Rattle.multivalued.proofs.laws.multi_laws.Goals as goal

pub returns : goal.returns
returns c = λ b laws. multi_laws_law b laws
