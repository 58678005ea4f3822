use Rattle.node_loop.proofs.Busy.{least_at_first}
use Rattle.node_loop.proofs.Seating.{is_busy_at, least_next, least_is}
use Rattle.node_loop.proofs.house.House.least_busy.Goals as goal

pub loop-replica-init : goal.loop-replica-init
loop-replica-init g c = λ w es numbers stand. least_at_first (is_busy_at w es) numbers

pub loop-replica-preserved : goal.loop-replica-preserved
loop-replica-preserved g c = λ w es numbers stand.
    least_next _ w es numbers c.args.self.now.replicas.items c.deref-replica-items.result.now c.loop-replica.replica-index c.replica-item.result c.loop-replica.least c.lesser-least.result
    stand c.deref-replica-items.ensures.value c.loop-replica-test.true c.replica-item.is c.lesser-least.ensures.least (c.loop-replica.invariant w es numbers stand)

pub returns : goal.returns
returns g c = record {
  least = λ w es numbers stand.
      least_is _ w es numbers c.args.self.now.replicas.items c.deref-replica-items.result.now c.loop-replica.replica-index c.loop-replica.least
      stand c.deref-replica-items.ensures.value c.loop-replica.auto.replica-index-end c.loop-replica-test.false (c.loop-replica.invariant w es numbers stand);
}
