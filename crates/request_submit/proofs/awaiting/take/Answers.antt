use Rattle.std.proofs.Common.{false, Err, refl, ap}
use Rattle.std.proofs.lemmas.Bool.{both_ways}
use Rattle.std.proofs.lemmas.Result.{err_from_is_err_and}
use Rattle.request_submit.proofs.Going.{next_fails, item_passes}
use Rattle.request_submit.proofs.awaiting.take.Goals as goal

pub returns-in_err-item : goal.returns-in_err-item
returns-in_err-item g c =
    let end = err_from_is_err_and c.from_residual.result c.from_residual.ensures.1 in
    record {
      waits = λ w nodes payload base before waits.
          rw end.1 (next_fails w nodes payload _ base _ _ before _ _ _ _ _ waits c.in_err-item.ensures.err c.in_err-item.ensures.cause.later (λ e. c.in_err-item.ensures.cause.cause (ap Err e))
          c.in_err-item.ensures.count end.2);
    }

pub returns : goal.returns
returns g c = record {
  waits = λ w nodes payload base before waits.
      item_passes w nodes payload _ base _ _ before _ _ _ _ c.in_ok-item.item waits c.in_ok-item.ensures.ok c.in_ok-item.ensures.count (c.in-None.ensures.settled w waits.items waits.stands)
      (λ e. both_ways false refl (c.if-is_end.ensures.1 e)) (c.in-None.ensures.stands w waits.items waits.stands);
}
