use Rattle.std.proofs.Common.{false, Err, refl, sym, ap, ◌∙◌, arith}
use Rattle.std.proofs.lemmas.Bool.{both_ways}
use Rattle.std.proofs.lemmas.Result.{err_from_is_err_and}
use Rattle.client_port.specs.Messages.{query_bytes}
use Rattle.log_watch.specs.declared.end.WatchEnd.{WatchEnd}
use Rattle.log_watch.proofs.Going.{item_short, item_passes, query_fails, query_goes}
use Rattle.log_watch.proofs.watching.take.Goals as goal

pub returns-in_err-node : goal.returns-in_err-node
returns-in_err-node g c =
    let end = err_from_is_err_and c.from_residual-in_err-node.result c.from_residual-in_err-node.ensures.1 in
    record {
      waits = λ p nodes base before waits.
          rw (end.1 ∙ ap (λ (x : WatchEnd). Err x) end.2)
          (item_short p nodes c.args.until _ base _ _ before _ _ c.args.observer.now c.observe.new.observer c.in_ok-item.item waits c.in_ok-item.ensures.ok c.in_ok-item.ensures.count
          c.in_err-node.ensures.kept);
    }

pub returns-in_default : goal.returns-in_default
returns-in_default g c = record {
  waits = λ p nodes base before waits.
      item_passes p nodes c.args.until _ base _ _ before _ _ c.args.observer.now c.observe.new.observer c.in_ok-item.item waits c.in_ok-item.ensures.ok c.in_ok-item.ensures.count
      (λ e. both_ways false refl (c.if-is_end.ensures.1 e)) (sym c.in_default.is ∙ c.in_ok-node.ensures.asked p waits.items waits.stands)
      (c.in_ok-node.ensures.stands p waits.items waits.stands);
}

pub returns-in_err-send : goal.returns-in_err-send
returns-in_err-send g c =
    let end = err_from_is_err_and c.from_residual-in_err-send.result c.from_residual-in_err-send.ensures.1 in
    record {
      waits = λ p nodes base before waits.
          rw end.1
          (query_fails p nodes c.args.until _ base _ _ _ before _ _ _ c.args.observer.now c.observe.new.observer c.in_ok-item.item _ _ waits c.in_ok-item.ensures.ok c.in_ok-item.ensures.count
          (c.in_ok-node.ensures.stands p waits.items waits.stands) c.in_err-send.ensures.err c.in_err-send.ensures.cause.later (λ e. c.in_err-send.ensures.cause.cause (ap Err e))
          c.in_err-send.ensures.count end.2);
    }

pub returns : goal.returns
returns g c = record {
  waits = λ p nodes base before waits.
      query_goes p nodes c.args.until _ base _ _ _ before _ _ _ c.args.observer.now c.observe.new.observer c.in_ok-item.item c.in-Some.node c.write_query.result waits
      c.in_ok-item.ensures.ok c.in_ok-item.ensures.count (λ e. both_ways false refl (c.if-is_end.ensures.1 e)) (sym c.in-Some.is ∙ c.in_ok-node.ensures.asked p waits.items waits.stands)
      (c.in_ok-node.ensures.stands p waits.items waits.stands) (omega (arith, c.if-len-until.false, c.len.ensures)) c.in_ok-send.ensures.ok
      (c.write_query.ensures ∙ ap query_bytes c.len-2.ensures) c.in_ok-send.ensures.count;
}
