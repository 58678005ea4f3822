use Rattle.node_loop.specs.Serving.{is_overfull}
use Rattle.node_loop.proofs.Busy.{least_at_first}
use Rattle.node_loop.proofs.Overfull.{least_over_next}
use Rattle.node_loop.proofs.Seating.{least_of}
use Rattle.node_loop.proofs.house.House.least_overfull.Goals as goal

pub loop-place-init : goal.loop-place-init
loop-place-init g c = λ w es numbers ws p stands. least_at_first (is_overfull w p) numbers

pub loop-place-preserved : goal.loop-place-preserved
loop-place-preserved g c = λ w es numbers ws p stands.
    least_over_next _ w es numbers c.args.self.now.replicas.items c.deref-replica-items.result.now c.loop-place.place c.replica-item.result p c.number_of.result c.loop-place.least c.lesser_overfull-least.result
    stands.here c.deref-replica-items.ensures.value c.loop-place-test.true c.replica-item.is c.number_of.ensures.number
    (λ at placed. c.lesser_overfull-least.ensures.least w es numbers ws p at stands placed) (c.loop-place.invariant w es numbers ws p stands)

pub returns : goal.returns
returns g c = record {
  least = λ w es numbers ws p stands.
      least_of _ w es numbers c.args.self.now.replicas.items c.deref-replica-items.result.now (is_overfull w p) c.loop-place.place c.loop-place.least
      stands.here c.deref-replica-items.ensures.value c.loop-place.auto.place-end c.loop-place-test.false (c.loop-place.invariant w es numbers ws p stands);
}
