use Rattle.std.proofs.Common.{true, false, sym}
use Rattle.node_loop.proofs.Seating.{rows_read, all_have, one_lacks, have_more}
use Rattle.node_loop.proofs.house.House.is_done.Goals as goal

pub returns-then-not-has_rows : goal.returns-then-not-has_rows
returns-then-not-has_rows g c = record {
  done = λ w es numbers stand.
      one_lacks _ w es numbers c.args.self.now.replicas.items c.deref-replica-items.result.now c.loop-replica.replica-index c.args.until c.replica-item.result
      stand c.deref-replica-items.ensures.value c.loop-replica-test.true c.replica-item.is c.if-until-eq0.false
      (sym (rows_read _ w es numbers c.args.self.now.replicas.items c.deref-replica-items.result.now c.loop-replica.replica-index c.args.until c.replica-item.result false
      stand c.deref-replica-items.ensures.value c.loop-replica-test.true c.replica-item.is c.if-not-has_rows.ensures.enough));
}

pub loop-replica-preserved : goal.loop-replica-preserved
loop-replica-preserved g c = λ w es numbers stand.
    have_more w es numbers c.args.until c.loop-replica.replica-index (c.loop-replica.invariant w es numbers stand)
    (sym (rows_read _ w es numbers c.args.self.now.replicas.items c.deref-replica-items.result.now c.loop-replica.replica-index c.args.until c.replica-item.result true
    stand c.deref-replica-items.ensures.value c.loop-replica-test.true c.replica-item.is c.if-not-has_rows.ensures.enough))

pub returns : goal.returns
returns g c = record {
  done = λ w es numbers stand.
      all_have _ w es numbers c.args.self.now.replicas.items c.deref-replica-items.result.now c.args.until c.loop-replica.replica-index
      stand c.deref-replica-items.ensures.value c.loop-replica-test.false c.if-until-eq0.false (c.loop-replica.invariant w es numbers stand);
}
