use Rattle.world_model.proofs.Law.{world_law}
use Rattle.world_model.proofs.laws.one_value_each.Goals as goal

pub returns : goal.returns
returns c = world_law c.core_laws.ensures
