use Rattle.std.proofs.Common.{◌<◌, List, length, reverse, sym, subst, arith}
use Rattle.std.proofs.lemmas.Result.{err_from_is_err_and}
use Rattle.std.proofs.lemmas.List.{take_all}
use Rattle.std.proofs.lemmas.List.Elements.{All-from_recursion}
use Rattle.ritas_base.specs.declared.event.Event.{Event}
use Rattle.node_loop.specs.Meanings.{meaning_of}
use Rattle.node_loop.specs.Laws.{IsServed}
use Rattle.node_loop.specs.Recovering.{recalled_waiting, recalled_peers}
use Rattle.node_loop.specs.Standing.{HouseStands}
use Rattle.node_loop.proofs.Recalling.{turned_next}
use Rattle.node_loop.proofs.house.House.recall_all.Goals as goal

pub loop-event-init : goal.loop-event-init
loop-event-init g c = λ w numbers stand served. stand

pub loop-event-preserved : goal.loop-event-preserved
loop-event-preserved g c = λ w numbers stand served.
    let m = meaning_of g.S.Service g.E.Broadcast g.C.Coin in
    let es = c.args.events.now in
    let i = c.loop-event.event-index in
    let e : Event = c.event-item.result in
    let one : IsServed w e = subst (λ (x : Event). IsServed w x) (sym c.event-item.is) (All-from_recursion (IsServed w) es served i e c.loop-event-test.true) in
    subst (λ (l : List Event). HouseStands m w l numbers c.recall.new.self (recalled_waiting w l) (recalled_peers w l)) (sym (turned_next es i e c.loop-event-test.true c.event-item.is))
    (c.in_ok-recall.ensures.happens w _ numbers _ _ (c.loop-event.invariant w numbers stand served) one)

pub returns : goal.returns
returns g c = record {
  happen = λ w numbers stand served.
      let m = meaning_of g.S.Service g.E.Broadcast g.C.Coin in
      subst (λ (l : List Event). HouseStands m w (reverse l) numbers c.loop-event.self (recalled_waiting w (reverse l)) (recalled_peers w (reverse l)))
      (take_all c.loop-event.event-index c.args.events.now c.loop-event-test.false) (c.loop-event.invariant w numbers stand served);
  memory = tt;
}

pub returns-in_err-recall-clause-memory : goal.returns-in_err-recall-clause-memory
returns-in_err-recall-clause-memory g c =
    let failed = err_from_is_err_and c.from_residual.result c.from_residual.ensures.1 in
    rw failed.1 (λ none. let some = subst (λ (l : List Event). c.loop-event.event-index < length l) none c.loop-event-test.true in omega (arith, some))
