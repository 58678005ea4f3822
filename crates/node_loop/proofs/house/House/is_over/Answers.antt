use Rattle.std.proofs.Common.{◌≡◌, ◌<◌, vec_len, sym, ◌∙◌, arith}
use Rattle.std.proofs.lemmas.Bool.{eqb-true}
use Rattle.node_loop.proofs.Busy.{below_next}
use Rattle.node_loop.proofs.Chaining.{is_some_number, nobody_here, all_ended, one_lasts, ended_read}
use Rattle.node_loop.proofs.house.House.is_over.Goals as goal

pub returns-then-is_empty : goal.returns-then-is_empty
returns-then-is_empty g c = record {
  over = λ w es numbers stand.
      let v = c.args.self.now.replicas in
      let none : vec_len v ≡ 0 = eqb-true (vec_len v) 0 (sym c.is_empty.ensures ∙ c.if-is_empty.true) in
      nobody_here _ w es numbers v.items stand (omega (arith, none, v.ok.0));
}

pub returns-then-not-has_ended : goal.returns-then-not-has_ended
returns-then-not-has_ended g c = record {
  over = λ w es numbers stand.
      one_lasts _ w es numbers c.args.self.now.replicas.items c.deref-replica-items.result.now c.loop-replica.replica-index c.replica-item.result
      stand c.deref-replica-items.ensures.value c.loop-replica-test.true c.replica-item.is
      (sym (ended_read _ w es numbers c.args.self.now.replicas.items c.deref-replica-items.result.now c.loop-replica.replica-index c.replica-item.result _
      stand c.deref-replica-items.ensures.value c.loop-replica-test.true c.replica-item.is c.if-not-has_ended.ensures.ended));
}

pub loop-replica-preserved : goal.loop-replica-preserved
loop-replica-preserved g c = λ w es numbers stand.
    below_next _ c.loop-replica.replica-index (c.loop-replica.invariant w es numbers stand)
    (sym (ended_read _ w es numbers c.args.self.now.replicas.items c.deref-replica-items.result.now c.loop-replica.replica-index c.replica-item.result _
    stand c.deref-replica-items.ensures.value c.loop-replica-test.true c.replica-item.is c.if-not-has_ended.ensures.ended))

pub returns : goal.returns
returns g c = record {
  over = λ w es numbers stand.
      let v = c.args.self.now.replicas in
      let some : 0 < vec_len v = is_some_number (vec_len v) (sym c.is_empty.ensures ∙ c.if-is_empty.false) in
      all_ended _ w es numbers v.items c.deref-replica-items.result.now c.loop-replica.replica-index stand c.deref-replica-items.ensures.value
      c.loop-replica-test.false (omega (arith, some, v.ok.0)) (c.loop-replica.invariant w es numbers stand);
}
