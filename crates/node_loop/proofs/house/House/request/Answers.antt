use Rattle.std.proofs.Common.{sym, ap, ◌∙◌, subst}
use Rattle.std.proofs.lemmas.Result.{on_ok_weaker, on_err_weaker}
use Rattle.client_port.specs.Messages.{request_in}
use Rattle.command_log.specs.Rows.{position_of}
use Rattle.world_model.specs.Agree.{rows_at}
use Rattle.node_loop.specs.Calls.{asked_in, asked_so, asks_so, submitted}
use Rattle.node_loop.specs.Wanting.{WaitMayWant, RequestMayWant}
use Rattle.node_loop.proofs.Indexing.{at_error}
use Rattle.node_loop.proofs.Querying.{may_request}
use Rattle.node_loop.proofs.Comings.{quietly, comes_as, asks_is, asks_none}
use Rattle.node_loop.proofs.house.House.request.Goals as goal

pub returns-in-Some-clause-comes : goal.returns-in-Some-clause-comes
returns-in-Some-clause-comes g c = λ w es numbers ws p stand number clear.
    let at = c.args.output.now.at in
    let bytes = c.args.bytes in
    let some = c.in-Some.ensures.asked in
    let is = asks_is w es at c.args.conn bytes ws (λ none. some.0 (ap request_in c.as_slice.ensures ∙ none)) in
    on_ok_weaker c.ask_for.result
    (λ comes. comes_as _ w es numbers c.ask_for.new.self c.ask_for.new.output
    (asked_so w es at c.args.conn bytes ws (position_of (rows_at w es at) (asked_in at bytes).client (asked_in at bytes).request)) (asks_so w es at c.args.conn bytes ws (request_in bytes)) (quietly w es p) (sym is) comes)
    (c.ask_for.ensures.comes w es numbers ws p stand number clear (some.1 ∙ ap (asked_in at) c.as_slice.ensures))

pub returns-in-None-clause-comes : goal.returns-in-None-clause-comes
returns-in-None-clause-comes g c = λ w es numbers ws p stand number clear.
    let at = c.args.output.now.at in
    let bytes = c.args.bytes in
    let is = asks_none w es at c.args.conn bytes ws (ap request_in (sym c.as_slice.ensures) ∙ c.in-None.ensures.asked) in
    on_ok_weaker c.submit.result
    (λ comes. comes_as _ w es numbers c.submit.new.self c.submit.new.output (submitted w es at c.args.conn bytes ws) (asks_so w es at c.args.conn bytes ws (request_in bytes)) (quietly w es p) (sym is) comes)
    (c.submit.ensures.comes w es numbers ws p stand number clear (c.asked_in-asked.ensures.asked ∙ ap (asked_in at) c.as_slice-in-None.ensures))

pub returns-in-Some-clause-memory : goal.returns-in-Some-clause-memory
returns-in-Some-clause-memory g c = λ w es numbers ws p stand number.
    let at = c.args.output.now.at in
    let asked_is = c.in-Some.ensures.asked.1 ∙ ap (asked_in at) c.as_slice.ensures in
    on_err_weaker c.ask_for.result (λ may. may_request w es at c.args.conn c.args.bytes ws (request_in c.args.bytes) (subst (WaitMayWant w es at c.args.conn ws) asked_is may))
    (c.ask_for.ensures.memory w es numbers ws p stand number)

pub returns-in-None-clause-memory : goal.returns-in-None-clause-memory
returns-in-None-clause-memory g c = λ w es numbers ws p stand number.
    let none = ap request_in (sym c.as_slice.ensures) ∙ c.in-None.ensures.asked in
    at_error c.submit.result (subst (RequestMayWant w es c.args.output.now.at c.args.conn c.args.bytes ws) (sym none) tt)
