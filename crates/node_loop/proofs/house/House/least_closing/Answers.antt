use Rattle.node_loop.specs.Serving.{wishes_to_close}
use Rattle.node_loop.proofs.Busy.{least_at_first}
use Rattle.node_loop.proofs.Chaining.{least_by_test}
use Rattle.node_loop.proofs.Seating.{least_of}
use Rattle.node_loop.proofs.house.House.least_closing.Goals as goal

pub loop-place-init : goal.loop-place-init
loop-place-init g c = λ w es numbers ws p stands. least_at_first (wishes_to_close w c.args.closing es ws) numbers

pub loop-place-preserved : goal.loop-place-preserved
loop-place-preserved g c = λ w es numbers ws p stands.
    least_by_test _ w es numbers c.args.self.now.replicas.items c.deref-replica-items.result.now c.loop-place.place c.replica-item.result (wishes_to_close w c.args.closing es ws) c.number_of.result c.loop-place.least c.lesser_closing-least.result
    stands.here c.deref-replica-items.ensures.value c.loop-place-test.true c.replica-item.is c.number_of.ensures.number
    (λ placed. c.lesser_closing-least.ensures.least w es numbers ws p stands placed) (c.loop-place.invariant w es numbers ws p stands)

pub returns : goal.returns
returns g c = record {
  least = λ w es numbers ws p stands.
      least_of _ w es numbers c.args.self.now.replicas.items c.deref-replica-items.result.now (wishes_to_close w c.args.closing es ws) c.loop-place.place c.loop-place.least
      stands.here c.deref-replica-items.ensures.value c.loop-place.auto.place-end c.loop-place-test.false (c.loop-place.invariant w es numbers ws p stands);
}
