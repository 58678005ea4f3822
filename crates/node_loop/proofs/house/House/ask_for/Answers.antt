use Rattle.std.proofs.Common.{[], ◌++◌, map, refl, sym, ap, ◌∙◌, subst, OnErr}
use Rattle.std.proofs.lemmas.Result.{on_ok_weaker, on_err_weaker}
use Rattle.client_port.specs.Messages.{position_reply, refusal_reply}
use Rattle.command_log.specs.Rows.{position_of}
use Rattle.world_model.specs.Agree.{rows_at}
use Rattle.node_loop.specs.declared.waiting.Asked.{Asked}
use Rattle.node_loop.specs.Waiting.{with_waiter}
use Rattle.node_loop.specs.Calls.{asked_in, reply, silent, turned_away, submitted, asked_so}
use Rattle.node_loop.specs.Chains.{is_reserved, is_crowded}
use Rattle.node_loop.specs.Standing.{reply_by}
use Rattle.node_loop.specs.Wanting.{AskedMayWant}
use Rattle.node_loop.proofs.Indexing.{at_error}
use Rattle.node_loop.proofs.Comings.{wait_else, quietly, only_replies, nothing_comes, comes_as, asked_reserved, asked_waits, asked_crowded, asked_first}
use Rattle.node_loop.proofs.Querying.{may_reserved, may_wait, may_refuse, may_submit}
use Rattle.node_loop.proofs.house.House.ask_for.Goals as goal

pub returns-in-Some-clause-comes : goal.returns-in-Some-clause-comes
returns-in-Some-clause-comes g c = λ w es numbers ws p stand number clear asked.
    let at = c.args.output.now.at in
    let bytes = c.args.message.bytes in
    let found = ap (λ (a : Asked). position_of (rows_at w es at) a.client a.request) (sym asked) ∙ sym (c.in-Some.ensures.position w es numbers at stand.here number) in
    let said = c.write_reply-bytes.ensures ∙ ap (λ (a : Asked). position_reply a.client a.request c.in-Some.position) asked in
    let more = reply at (position_reply (asked_in at bytes).client (asked_in at bytes).request c.in-Some.position) c.args.message.conn in
    on_ok_weaker c.reply.result
    (λ replied. comes_as _ w es numbers c.args.self.now c.reply.new.output (silent more ws)
    (asked_so w es at c.args.message.conn bytes ws (position_of (rows_at w es at) (asked_in at bytes).client (asked_in at bytes).request)) (quietly w es p)
    (sym (ap (asked_so w es at c.args.message.conn bytes ws) found))
    (only_replies _ w es numbers c.args.self.now c.args.output.now c.reply.new.output more ws p stand clear c.reply.ensures.same.0 c.reply.ensures.same.1 c.reply.ensures.same.4 c.reply.ensures.same.2 c.reply.ensures.same.3
    (replied ∙ ap (λ b. map (reply_by at) c.args.output.now.replies.items ++ reply at b c.args.message.conn) said)))
    (c.reply.ensures.replies at)

pub returns-then-has-clause-comes : goal.returns-then-has-clause-comes
returns-then-has-clause-comes g c = λ w es numbers ws p stand number clear asked.
    let at = c.args.output.now.at in
    let bytes = c.args.message.bytes in
    let us = with_waiter c.args.message.asked c.args.message.conn ws in
    on_ok_weaker c.push.result
    (λ waits. comes_as _ w es numbers (record { replicas = c.args.self.now.replicas; waiting = c.push.new.self; keepers = c.args.self.now.keepers }) c.args.output.now (silent [] us)
    (asked_so w es at c.args.message.conn bytes ws (position_of (rows_at w es at) (asked_in at bytes).client (asked_in at bytes).request)) (quietly w es p)
    (asked_waits w es at c.args.message.conn bytes ws c.args.message.asked asked (sym (c.position_at.ensures.position w es numbers at stand.here number) ∙ c.in_default.is)
    (sym (c.is_reserved.ensures.reserved w es numbers at stand.here number) ∙ c.if-is_reserved.false) (sym (c.has.ensures.waits ws stand.waiting) ∙ c.if-has.true))
    (nothing_comes _ w es numbers (record { replicas = c.args.self.now.replicas; waiting = c.push.new.self; keepers = c.args.self.now.keepers }) c.args.output.now us p
    (wait_else _ w es numbers c.args.self.now (record { replicas = c.args.self.now.replicas; waiting = c.push.new.self; keepers = c.args.self.now.keepers }) ws us p stand refl refl waits) clear))
    (c.push.ensures.waits ws stand.waiting)

pub returns-clause-comes : goal.returns-clause-comes
returns-clause-comes g c = λ w es numbers ws p stand number clear asked.
    let at = c.args.output.now.at in
    let bytes = c.args.message.bytes in
    on_ok_weaker c.submit.result
    (comes_as _ w es numbers c.submit.new.self c.submit.new.output (submitted w es at c.args.message.conn bytes ws)
    (asked_so w es at c.args.message.conn bytes ws (position_of (rows_at w es at) (asked_in at bytes).client (asked_in at bytes).request)) (quietly w es p)
    (asked_first w es at c.args.message.conn bytes ws c.args.message.asked asked (sym (c.position_at.ensures.position w es numbers at stand.here number) ∙ c.in_default.is)
    (sym (c.is_reserved.ensures.reserved w es numbers at stand.here number) ∙ c.if-is_reserved.false) (sym (c.has.ensures.waits ws stand.waiting) ∙ c.if-has.false)
    (sym (c.is_crowded.ensures.crowded w es numbers at stand.here number) ∙ c.if-is_crowded.false)))
    (c.submit.ensures.comes w es numbers ws p stand number clear asked)

pub returns-then-is_reserved-clause-comes : goal.returns-then-is_reserved-clause-comes
returns-then-is_reserved-clause-comes g c = λ w es numbers ws p stand number clear asked.
    let at = c.args.output.now.at in
    let bytes = c.args.message.bytes in
    let more = reply at (refusal_reply (asked_in at bytes).client (asked_in at bytes).request 8) c.args.message.conn in
    on_ok_weaker c.refuse.result
    (λ replied. comes_as _ w es numbers c.args.self.now c.refuse.new.output (turned_away at c.args.message.conn bytes 8 ws)
    (asked_so w es at c.args.message.conn bytes ws (position_of (rows_at w es at) (asked_in at bytes).client (asked_in at bytes).request)) (quietly w es p)
    (asked_reserved w es at c.args.message.conn bytes ws c.args.message.asked asked (sym (c.position_at.ensures.position w es numbers at stand.here number) ∙ c.in_default.is)
    (sym (c.is_reserved.ensures.reserved w es numbers at stand.here number) ∙ c.if-is_reserved.true))
    (only_replies _ w es numbers c.args.self.now c.args.output.now c.refuse.new.output more ws p stand clear c.refuse.ensures.same.0 c.refuse.ensures.same.1 c.refuse.ensures.same.4 c.refuse.ensures.same.2 c.refuse.ensures.same.3
    (replied ∙ ap (λ (a : Asked). map (reply_by at) c.args.output.now.replies.items ++ reply at (refusal_reply a.client a.request 8) c.args.message.conn) asked)))
    (c.refuse.ensures.replies at)

pub returns-then-is_crowded-clause-comes : goal.returns-then-is_crowded-clause-comes
returns-then-is_crowded-clause-comes g c = λ w es numbers ws p stand number clear asked.
    let at = c.args.output.now.at in
    let bytes = c.args.message.bytes in
    let more = reply at (refusal_reply (asked_in at bytes).client (asked_in at bytes).request 7) c.args.message.conn in
    on_ok_weaker c.refuse-then-is_crowded.result
    (λ replied. comes_as _ w es numbers c.args.self.now c.refuse-then-is_crowded.new.output (turned_away at c.args.message.conn bytes 7 ws)
    (asked_so w es at c.args.message.conn bytes ws (position_of (rows_at w es at) (asked_in at bytes).client (asked_in at bytes).request)) (quietly w es p)
    (asked_crowded w es at c.args.message.conn bytes ws c.args.message.asked asked (sym (c.position_at.ensures.position w es numbers at stand.here number) ∙ c.in_default.is)
    (sym (c.is_reserved.ensures.reserved w es numbers at stand.here number) ∙ c.if-is_reserved.false) (sym (c.has.ensures.waits ws stand.waiting) ∙ c.if-has.false)
    (sym (c.is_crowded.ensures.crowded w es numbers at stand.here number) ∙ c.if-is_crowded.true))
    (only_replies _ w es numbers c.args.self.now c.args.output.now c.refuse-then-is_crowded.new.output more ws p stand clear c.refuse-then-is_crowded.ensures.same.0 c.refuse-then-is_crowded.ensures.same.1 c.refuse-then-is_crowded.ensures.same.4 c.refuse-then-is_crowded.ensures.same.2 c.refuse-then-is_crowded.ensures.same.3
    (replied ∙ ap (λ (a : Asked). map (reply_by at) c.args.output.now.replies.items ++ reply at (refusal_reply a.client a.request 7) c.args.message.conn) asked)))
    (c.refuse-then-is_crowded.ensures.replies at)

pub returns-in-Some-clause-memory : goal.returns-in-Some-clause-memory
returns-in-Some-clause-memory g c = λ w es numbers ws p stand number.
    let at = c.args.output.now.at in
    let a = c.args.message.asked in
    subst (λ o. OnErr c.reply.result (AskedMayWant c.args.message.conn (ws a) (is_reserved w a.client) (is_crowded w es at) o)) (c.in-Some.ensures.position w es numbers at stand.here number)
    c.reply.ensures.memory

-- what it may want where there is no row

pub returns-then-is_reserved-clause-memory : goal.returns-then-is_reserved-clause-memory
returns-then-is_reserved-clause-memory g c = λ w es numbers ws p stand number.
    let at = c.args.output.now.at in
    let a = c.args.message.asked in
    let none = sym (c.position_at.ensures.position w es numbers at stand.here number) ∙ c.in_default.is in
    on_err_weaker c.refuse.result
    (may_reserved c.args.message.conn (ws a) (is_reserved w a.client) (is_crowded w es at) _ none (sym (c.is_reserved.ensures.reserved w es numbers at stand.here number) ∙ c.if-is_reserved.true))
    c.refuse.ensures.memory

pub returns-then-has-clause-memory : goal.returns-then-has-clause-memory
returns-then-has-clause-memory g c = λ w es numbers ws p stand number.
    let at = c.args.output.now.at in
    let a = c.args.message.asked in
    let none = sym (c.position_at.ensures.position w es numbers at stand.here number) ∙ c.in_default.is in
    on_err_weaker c.push.result
    (may_wait c.args.message.conn (ws a) (is_reserved w a.client) (is_crowded w es at) _ none (sym (c.is_reserved.ensures.reserved w es numbers at stand.here number) ∙ c.if-is_reserved.false)
    (sym (c.has.ensures.waits ws stand.waiting) ∙ c.if-has.true))
    (c.push.ensures.memory ws stand.waiting)

pub returns-then-is_crowded-clause-memory : goal.returns-then-is_crowded-clause-memory
returns-then-is_crowded-clause-memory g c = λ w es numbers ws p stand number.
    let at = c.args.output.now.at in
    let a = c.args.message.asked in
    let none = sym (c.position_at.ensures.position w es numbers at stand.here number) ∙ c.in_default.is in
    on_err_weaker c.refuse-then-is_crowded.result
    (may_refuse c.args.message.conn (ws a) (is_reserved w a.client) (is_crowded w es at) _ none (sym (c.is_reserved.ensures.reserved w es numbers at stand.here number) ∙ c.if-is_reserved.false)
    (sym (c.has.ensures.waits ws stand.waiting) ∙ c.if-has.false))
    c.refuse-then-is_crowded.ensures.memory

pub returns-clause-memory : goal.returns-clause-memory
returns-clause-memory g c = λ w es numbers ws p stand number.
    let at = c.args.output.now.at in
    let a = c.args.message.asked in
    let none = sym (c.position_at.ensures.position w es numbers at stand.here number) ∙ c.in_default.is in
    at_error c.submit.result
    (may_submit c.args.message.conn (ws a) (is_reserved w a.client) (is_crowded w es at) _ none (sym (c.is_reserved.ensures.reserved w es numbers at stand.here number) ∙ c.if-is_reserved.false)
    (sym (c.has.ensures.waits ws stand.waiting) ∙ c.if-has.false) (sym (c.is_crowded.ensures.crowded w es numbers at stand.here number) ∙ c.if-is_crowded.false))
