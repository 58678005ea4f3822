use Rattle.std.proofs.Common.{refl}
use Rattle.world_model.proofs.Left.{happens_left}
use Rattle.world_model.proofs.Happening.{input_happens}
use Rattle.world_model.proofs.events.input_comes.Goals as goal

pub returns : goal.returns
returns g c = λ w states replicas.
    input_happens _ w states c.args.at c.args.bytes.now _ _ c.new-out.result.items c.new-out.ensures.items (c.in_ok-seen.ensures w states replicas) refl refl refl

pub returns-in_err-seen : goal.returns-in_err-seen
returns-in_err-seen g c = λ w states replicas.
    let without = c.in_err-seen.ensures w states replicas in
    happens_left _ w states _ _ c.from_residual.result _ c.from_residual.ensures.0 without.0 without.1
