use Rattle.std.proofs.Common.{◌∷◌}
use Rattle.world_model.specs.World.{call_of, states_of}
use Rattle.world_model.proofs.Continues.{replica_at, no_replica_at}
use Rattle.world_model.proofs.Left.{left_replica_at, no_left_replica_at}
use Rattle.world_model.proofs.world.World.replica.Goals as goal

pub returns-in-Some-clause-is : goal.returns-in-Some-clause-is
returns-in-Some-clause-is g c = λ w es stand.
    replica_at _ w (states_of w es) c.args.i c.from.result c.args.self.now.replicas.items c.deref.result.now c.in-Some.place.now c.as_ref.result
    stand.replicas c.deref.ensures.value c.from.ensures c.in-Some.ensures.lookup.3.0 c.in-Some.ensures.lookup.1 c.as_ref.ensures.value

pub returns-in-Some-clause-stopped : goal.returns-in-Some-clause-stopped
returns-in-Some-clause-stopped g c = λ w es e stopped.
    left_replica_at _ w (states_of w es) (states_of w (e ∷ es)) (call_of w (states_of w es) e) c.args.i c.from.result c.args.self.now.replicas.items c.deref.result.now c.in-Some.place.now c.as_ref.result
    stopped.replicas c.deref.ensures.value c.from.ensures c.in-Some.ensures.lookup.3.0 c.in-Some.ensures.lookup.1 c.as_ref.ensures.value

pub returns-in-None-clause-is : goal.returns-in-None-clause-is
returns-in-None-clause-is g c = λ w es stand.
    no_replica_at _ w (states_of w es) c.args.i c.from.result c.args.self.now.replicas.items c.deref.result.now stand.replicas c.deref.ensures.value c.from.ensures c.in-None.ensures.lookup.3

pub returns-in-None-clause-stopped : goal.returns-in-None-clause-stopped
returns-in-None-clause-stopped g c = λ w es e stopped.
    no_left_replica_at _ w (states_of w es) (states_of w (e ∷ es)) (call_of w (states_of w es) e) c.args.i c.from.result c.args.self.now.replicas.items c.deref.result.now stopped.replicas
    c.deref.ensures.value c.from.ensures c.in-None.ensures.lookup.3
