use Rattle.std.proofs.Common.{arith}
use Rattle.replica.specs.Handling.{Input}
use Rattle.world_model.proofs.AtPlaces.{called_at, none_at, past_at}
use Rattle.world_model.proofs.calls.give_input.Goals as goal

pub returns-then-place-replicas : goal.returns-then-place-replicas
returns-then-place-replicas g c = λ w states stand.
    past_at _ w states c.args.at c.from-place.result (Input c.args.bytes.now) c.args.replicas.now c.args.out.now.items stand c.from-place.ensures (omega arith)

pub returns-in-Some : goal.returns-in-Some
returns-in-Some g c = λ w states stand.
    called_at _ w states c.args.at c.from-place.result (Input c.args.bytes.now) c.args.replicas.now c.index-replicas-place.result c.in-Some.replica c.on_input_lazily.new.self
    c.args.out.now.items c.on_input_lazily.new.out.items c.on_input_lazily.result c.seen.result
    stand c.from-place.ensures (omega arith) c.in-Some.is (c.on_input_lazily.ensures w.start) c.seen.ensures

pub returns-in-None : goal.returns-in-None
returns-in-None g c = λ w states stand.
    none_at _ w states c.args.at c.from-place.result (Input c.args.bytes.now) c.args.replicas.now c.index-replicas-place.result c.args.out.now.items
    stand c.from-place.ensures (omega arith) c.in-None.is
