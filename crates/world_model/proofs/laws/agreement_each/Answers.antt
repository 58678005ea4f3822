use Rattle.world_model.proofs.Agreed.{agree_law}
use Rattle.world_model.proofs.laws.agreement_each.Goals as goal

pub returns : goal.returns
returns c = agree_law c.core_laws.ensures
