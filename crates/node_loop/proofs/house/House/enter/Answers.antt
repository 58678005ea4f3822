use Rattle.std.proofs.Common.{◌≡◌, ◌≢◌, [], ◌++◌, List, OnErr, map, refl, subst, ap, ◌∙◌}
use Rattle.std.proofs.lemmas.Result.{on_ok_weaker}
use Rattle.command_log.specs.Rows.{Row}
use Rattle.world_model.specs.Agree.{rows_at}
use Rattle.node_loop.specs.Calls.{waiting_left_by, replies_by}
use Rattle.node_loop.specs.Standing.{reply_by}
use Rattle.node_loop.specs.WaitersStanding.{IsWaiting}
use Rattle.node_loop.proofs.Heres.{as_here, nowhere, read_at, log_at}
use Rattle.node_loop.proofs.Comings.{wait_else}
use Rattle.node_loop.proofs.house.House.enter.Goals as goal

pub returns-in-Some-clause-enters : goal.returns-in-Some-clause-enters
returns-in-Some-clause-enters g c = λ w es numbers ws p stand number.
    let at = c.args.output.now.at in
    let is = read_at _ w es numbers c.args.self.now.replicas.items c.deref.result.now c.args.place at c.in-Some.replica.now stand.here c.deref.ensures.value number c.in-Some.ensures.lookup.3.0 c.in-Some.ensures.lookup.1 in
    let rows : c.log.result.now.rows ≡ rows_at w es at = log_at _ w es at c.in-Some.replica.now c.log.result.now.rows is (c.log.ensures.live w.start) in
    on_ok_weaker c.enter_rows.result
    (λ entered. (
      wait_else _ w es numbers c.args.self.now (record { replicas = c.args.self.now.replicas; waiting = c.enter_rows.new.waiting; keepers = c.args.self.now.keepers }) ws (waiting_left_by at c.args.count (rows_at w es at) ws) p stand refl refl
          (let P : List Row → Type 0 = λ x. IsWaiting c.enter_rows.new.waiting (waiting_left_by at c.args.count x ws) in subst P rows entered.0),
      entered.1 ∙ ap (λ x. map (reply_by at) c.args.output.now.replies.items ++ replies_by at c.args.count x ws) rows,
    ))
    (c.enter_rows.ensures.enters ws stand.waiting)

pub returns-in-Some-clause-memory : goal.returns-in-Some-clause-memory
returns-in-Some-clause-memory g c = λ w es numbers ws p stand number.
    let at = c.args.output.now.at in
    let is = read_at _ w es numbers c.args.self.now.replicas.items c.deref.result.now c.args.place at c.in-Some.replica.now stand.here c.deref.ensures.value number c.in-Some.ensures.lookup.3.0 c.in-Some.ensures.lookup.1 in
    let rows : c.log.result.now.rows ≡ rows_at w es at = log_at _ w es at c.in-Some.replica.now c.log.result.now.rows is (c.log.ensures.live w.start) in
    let P : List Row → Type 0 = λ x. OnErr c.enter_rows.result (replies_by at c.args.count x ws ≢ []) in
    subst P rows (c.enter_rows.ensures.memory ws stand.waiting)

pub returns-in-None-clause-enters : goal.returns-in-None-clause-enters
returns-in-None-clause-enters g c = λ w es numbers ws p stand number.
    absurd (nowhere _ w es numbers c.deref.result.now c.args.place c.args.output.now.at
    (as_here _ w es numbers c.args.self.now.replicas.items c.deref.result.now c.deref.ensures.value stand.here) number c.in-None.ensures.lookup.3)
