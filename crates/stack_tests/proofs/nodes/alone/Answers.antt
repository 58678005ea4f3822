use Rattle.std.proofs.Common.{refl}
use Rattle.ritas_core.specs.Rules.{other_form}
use Rattle.stack_tests.proofs.nodes.alone.Goals as goal

pub new-requires-3-clause-form : goal.new-requires-3-clause-form
unfolding other_form
new-requires-3-clause-form g c = refl
