use Rattle.std.proofs.Common.{◌∷◌}
use Rattle.std.proofs.lemmas.Result.{IfOk-weaker}
use Rattle.world_model.specs.World.{call_of, states_of}
use Rattle.world_model.proofs.TakenOut.{members_stand, members_left}
use Rattle.world_model.proofs.world.World.into_replicas.Goals as goal

pub returns-clause-is : goal.returns-clause-is
returns-clause-is g c = λ w es stand.
    IfOk-weaker c.present.result _ _ (λ replicas is. members_stand _ w (states_of w es) c.args.self.replicas.items replicas.items stand.replicas is) c.present.ensures

pub returns-clause-stopped : goal.returns-clause-stopped
returns-clause-stopped g c = λ w es e stand.
    IfOk-weaker c.present.result _ _
    (λ replicas is. members_left _ w (states_of w es) (states_of w (e ∷ es)) (call_of w (states_of w es) e) c.args.self.replicas.items replicas.items stand.replicas is) c.present.ensures
