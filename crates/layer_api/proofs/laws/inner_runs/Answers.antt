use Rattle.layer_api.specs.RunsLaws.{inner_calls}
use Rattle.layer_api.proofs.laws.inner_runs.Goals as goal

pub returns : goal.returns
returns c = λ f i xs. inner_calls f i xs
