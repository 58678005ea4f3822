use Rattle.std.proofs.Common.{refl, sym, subst}
use Rattle.replica.specs.Handling.{Turn}
use Rattle.world_model.specs.Needs.{CallNeeds}
use Rattle.world_model.proofs.AtPlaces.{correct_call}
use Rattle.world_model.proofs.Left.{left_before, happens_left}
use Rattle.world_model.proofs.Happening.{turn_happens}
use Rattle.world_model.proofs.events.turn_comes.Goals as goal

pub returns : goal.returns
returns g c = λ w states seats replicas.
    turn_happens _ w states c.args.at _ _ c.new-out.result.items c.in_ok-front.front c.new-out.ensures.items (c.in_ok-seen.ensures w states replicas) refl refl
    (c.in_ok-front.ensures.is w states seats.mode replicas) c.if_took-taken.ensures

pub returns-in_err-front : goal.returns-in_err-front
returns-in_err-front g c = λ w states seats replicas.
    let waits = c.in_err-front.ensures.only w states replicas in
    happens_left _ w states _ _ c.from_residual.result _ c.from_residual.ensures.0 (left_before _ w states _ _ c.args.replicas.now replicas)
    (subst (CallNeeds w states) (sym (correct_call w c.args.at Turn waits.0)) waits.1)

pub returns-in_err-seen : goal.returns-in_err-seen
returns-in_err-seen g c = λ w states seats replicas.
    let without = c.in_err-seen.ensures w states replicas in
    happens_left _ w states _ _ c.from_residual-in_err-seen.result _ c.from_residual-in_err-seen.ensures.0 without.0 without.1
