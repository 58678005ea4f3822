use Rattle.std.proofs.Common.{◌++◌, map, sym, ap, ◌∙◌, subst, arith}
use Rattle.std.specs.Option.{option_copied}
use Rattle.std.proofs.lemmas.Result.{err_from_is_err_and}
use Rattle.node_loop.specs.declared.waiting.Waiters.{Waiters}
use Rattle.node_loop.specs.Waiting.{Waiting, without_asked}
use Rattle.node_loop.specs.Calls.{asked_by, waiting_left_by, replies_by}
use Rattle.node_loop.specs.Standing.{reply_by}
use Rattle.node_loop.specs.WaitersStanding.{IsWaiting}
use Rattle.node_loop.proofs.Rows.{first, starts, enters_more, no_row, all_first, some_by_row}
use Rattle.node_loop.proofs.enter.enter_rows.Goals as goal
use Rattle.node_loop.proofs.enter.enter_rows.Goals.{in-Some+in_ok-enter_row, in_default}

pub loop-position-init : goal.loop-position-init
loop-position-init c = λ ws is. starts c.args.at c.args.count c.args.log.now.rows c.args.waiting.now _ ws is

pub loop-position-preserved : goal.loop-position-preserved
loop-position-preserved c = λ ws is. elim c.match-row.branch [
  | in-Some+in_ok-enter_row w ↦
      let before = c.loop-position.invariant ws is in
      let left = waiting_left_by c.args.at c.args.count (first c.args.log.now.rows c.loop-position.position) ws in
      let entered = w.in_ok-enter_row.ensures.enters left before.waits in
      let P : Waiters → Type 0 = λ x. IsWaiting x (without_asked (asked_by c.args.at w.in-Some.row.now) left) in
      enters_more c.args.at c.args.count c.args.log.now.rows c.loop-position.position w.in-Some.row.now c.loop-position.waiting c.match-row.waiting _
      (map (reply_by c.args.at) c.loop-position.replies.items) (map (reply_by c.args.at) c.match-row.replies.items) ws before c.loop-position.auto.position
      (sym c.row.ensures ∙ ap option_copied w.in-Some.is)
      (subst P (sym w.waiting-is) entered.0) (ap (λ r. map (reply_by c.args.at) r.items) w.replies-is ∙ entered.1)
  | in_default w ↦
      absurd (no_row c.args.log.now.rows c.loop-position.position (let within = c.loop-position-test.true in let long = c.len-position-end.ensures in omega arith)
      (sym (ap option_copied w.in_default.is) ∙ c.row.ensures))
]

pub returns : goal.returns
returns c = record {
  enters = λ ws is.
      let done = c.loop-position.invariant ws is in
      let all = all_first c.args.log.now.rows c.loop-position.position (let past = c.loop-position-test.false in let long = c.len-position-end.ensures in omega arith) in
      let P : Waiting → Type 0 = λ x. IsWaiting c.loop-position.waiting x in (
        subst P (ap (λ rows. waiting_left_by c.args.at c.args.count rows ws) all) done.waits,
        done.replies ∙ ap (λ rows. map (reply_by c.args.at) c.args.replies.now.items ++ replies_by c.args.at c.args.count rows ws) all,
      );
  memory = λ ws is. tt;
}

pub returns-in_err-enter_row-clause-memory : goal.returns-in_err-enter_row-clause-memory
returns-in_err-enter_row-clause-memory c = λ ws is.
    let p = err_from_is_err_and c.from_residual.result c.from_residual.ensures.1 in
    let rows = c.args.log.now.rows in
    let before = c.loop-position.invariant ws is in
    let left = waiting_left_by c.args.at c.args.count (first rows c.loop-position.position) ws in
    rw p.1 (some_by_row c.args.at c.args.count rows c.loop-position.position c.in-Some.row.now ws c.loop-position.auto.position
    (sym c.row.ensures ∙ ap option_copied c.in-Some.is) (c.in_err-enter_row.ensures.memory left before.waits))
