use Rattle.std.proofs.Common.{◌≡◌, true, refl, sym, ◌∙◌, ap}
use Rattle.replica.specs.Handling.{Frame}
use Rattle.world_model.specs.World.{call_at}
use Rattle.world_model.specs.Steps.{is_took}
use Rattle.world_model.proofs.Needs.{taking_needs}
use Rattle.world_model.proofs.Left.{left_after, happens_left}
use Rattle.world_model.proofs.Happening.{made_happens}
use Rattle.world_model.proofs.Passed.{fair_to_pass}
use Rattle.world_model.proofs.events.made_comes.Goals as goal

pub returns : goal.returns
returns g c = λ w states seats replicas from below there.
    made_happens c.spelled.ensures.answered _ w c.args.seats.now states c.args.to c.args.frame.now _ _ c.new-out.result.items
    seats c.new-out.ensures.items (c.in_ok-seen.ensures w states replicas) refl refl
    (fair_to_pass w c.args.seats.now states from c.args.to c.args.frame.now seats below there) c.in_ok-taken.ensures.is

pub returns-in_err-seen : goal.returns-in_err-seen
returns-in_err-seen g c = λ w states seats replicas from below there.
    let without = c.in_err-seen.ensures w states replicas in
    happens_left _ w states _ _ c.from_residual.result _ c.from_residual.ensures.0 without.0 without.1

pub returns-in_err-taken : goal.returns-in_err-taken
returns-in_err-taken g c = λ w states seats replicas from below there.
    let did = c.in_ok-seen.ensures w states replicas in
    let took : is_took c.in_ok-seen.seen ≡ true = c.in_err-taken.ensures.only in
    happens_left _ w states _ _ c.from_residual-in_err-taken.result _ c.from_residual-in_err-taken.ensures.0 (left_after _ w states _ _ _ did.replicas)
    (taking_needs w states (call_at w c.args.to (Frame c.args.frame.now)) (ap is_took (sym did.seen) ∙ took))
