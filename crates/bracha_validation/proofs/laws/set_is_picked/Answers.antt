use Rattle.bracha_validation.specs.PickLaws.{picked, set_passes}
use Rattle.bracha_validation.proofs.laws.set_is_picked.Goals as goal

pub returns : goal.returns
returns c = λ test m vs. (picked test m vs, set_passes test m vs)
