use Rattle.std.proofs.Common.{◌<◌, ◌≤◌, ◌∙◌, arith, length}
use Rattle.std.proofs.lemmas.List.{drop_all}
use Rattle.std.proofs.lemmas.Result.{err_from_is_err_and}
use Rattle.ordered_rounds.proofs.LedgerSteps.{append_next, append_done, append_between}
use Rattle.ordered_rounds.proofs.Listed.{left_next, item_at}
use Rattle.ordered_rounds.proofs.ledger.Ledger.append_new.Goals as goal

pub loop-id-preserved : goal.loop-id-preserved
loop-id-preserved c = record {
  shown = c.in_ok-append_one.ensures.bases ∙ c.loop-id.invariant.shown;
  did = λ delivered log ready sorted stands.
      let ids = c.args.wanted.now in
      let i = c.loop-id.id-index in
      let within : i < length ids = omega arith in
      append_next _ _ delivered log ids _ _ (item_at ids i) (left_next ids i within)
      c.in_ok-append_one.ensures.ok (c.loop-id.invariant.did delivered log ready sorted stands);
}

pub returns-in_err-append_one-clause-err : goal.returns-in_err-append_one-clause-err
returns-in_err-append_one-clause-err c =
    rw (err_from_is_err_and c.from_residual.result c.from_residual.ensures.1).1
    (λ delivered log ready sorted stands.
    let parts = append_between c.loop-id.self c.append_one.new.self c.loop-id.bases delivered log c.args.wanted.now _
    c.in_err-append_one.ensures.err (c.loop-id.invariant.did delivered log ready sorted stands) in
    record { grown = parts.0; within = parts.1; bases = c.in_err-append_one.ensures.bases ∙ c.loop-id.invariant.shown })

pub returns-clause-ok : goal.returns-clause-ok
returns-clause-ok c = λ delivered log ready sorted stands.
    let past : length c.args.wanted.now ≤ c.loop-id.id-index = omega arith in
    append_done _ delivered log c.args.wanted.now _ (drop_all c.loop-id.id-index c.args.wanted.now past) (c.loop-id.invariant.did delivered log ready sorted stands)
