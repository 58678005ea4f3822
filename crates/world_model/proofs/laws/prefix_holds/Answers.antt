use Rattle.world_model.proofs.Prefixes.{holds_before}
use Rattle.world_model.proofs.laws.prefix_holds.Goals as goal

pub returns : goal.returns
returns c = holds_before
