use Rattle.std.proofs.Common.{sym, ◌∙◌}
use Rattle.node_loop.proofs.Seating.{number_read, placed, not_placed, others_more}
use Rattle.node_loop.proofs.house.House.place_of.Goals as goal

pub returns-then-number_of-at : goal.returns-then-number_of-at
returns-then-number_of-at g c = record {
  place = λ w es numbers stand.
      placed _ w es numbers c.args.self.now.replicas.items c.deref-replica-items.result.now c.loop-place.place c.args.at c.replica-item.result
      stand c.deref-replica-items.ensures.value c.loop-place-test.true c.replica-item.is
      (sym (number_read _ w es numbers c.args.self.now.replicas.items c.deref-replica-items.result.now c.loop-place.place c.replica-item.result c.number_of.result
      stand c.deref-replica-items.ensures.value c.loop-place-test.true c.replica-item.is c.number_of.ensures.number) ∙ c.if-number_of-at.true);
}

pub loop-place-preserved : goal.loop-place-preserved
loop-place-preserved g c = λ w es numbers stand.
    others_more numbers c.args.at c.loop-place.place (c.loop-place.invariant w es numbers stand)
    (λ same. c.if-number_of-at.false
    (number_read _ w es numbers c.args.self.now.replicas.items c.deref-replica-items.result.now c.loop-place.place c.replica-item.result c.number_of.result
    stand c.deref-replica-items.ensures.value c.loop-place-test.true c.replica-item.is c.number_of.ensures.number ∙ same))

pub returns : goal.returns
returns g c = record {
  place = λ w es numbers stand.
      not_placed _ w es numbers c.args.self.now.replicas.items c.deref-replica-items.result.now c.loop-place.place c.args.at
      stand c.deref-replica-items.ensures.value c.loop-place-test.false (c.loop-place.invariant w es numbers stand);
}
