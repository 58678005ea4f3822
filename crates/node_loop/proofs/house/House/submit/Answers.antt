use Rattle.std.proofs.Common.{◌≡◌, ◌∷◌, ◌++◌, map, Some, None, refl, sym, ap, ◌∙◌, subst}
use Rattle.std.proofs.lemmas.Result.{on_ok_weaker}
use Rattle.ritas_base.specs.declared.event.Event.{Event}
use Rattle.ritas_base.specs.declared.event.Event.TheVariants.{Input}
use Rattle.client_port.specs.Messages.{refusal_reply}
use Rattle.world_model.specs.World.{seen_of}
use Rattle.node_loop.specs.declared.waiting.Asked.{Asked}
use Rattle.node_loop.specs.Waiting.{with_waiter}
use Rattle.node_loop.specs.Calls.{event_called, asked_in, refusal_in, reply, refusal_replied, request_taken, submitted, submitted_so}
use Rattle.node_loop.specs.Standing.{reply_by}
use Rattle.node_loop.specs.WaitersStanding.{IsWaiting}
use Rattle.node_loop.specs.Keeping.{is_kept_so}
use Rattle.node_loop.proofs.Comings.{right_at, given_stands, wait_else, quietly, came_quietly, replied_too, comes_as}
use Rattle.node_loop.proofs.house.House.submit.Goals as goal

pub returns-in_ok-enter-in-Some-clause-comes : goal.returns-in_ok-enter-in-Some-clause-comes
returns-in_ok-enter-in-Some-clause-comes g c = λ w es numbers ws p stand number clear asked.
    let at = c.args.output.now.at in
    let bytes = c.args.message.bytes in
    let e : Event = Input at bytes in
    let did = c.in_ok-answer.ensures.does w es numbers at stand.here number refl in
    let given = given_stands _ w es (e ∷ es) numbers c.args.self.now c.give.new.self ws p stand did.0 c.give.ensures.same.0 c.give.ensures.same.1 in
    let entered = c.in_ok-enter-in-Some.ensures.enters w (e ∷ es) numbers ws p given number in
    let right = right_at _ w es numbers c.args.self.now.replicas.items c.args.place at stand.here number in
    let seen = c.in_ok-answer.ensures.answered w es numbers at stand.here number refl in
    let comes = came_quietly _ w es numbers c.enter.new.self c.enter.new.output at c.rows_at-count.result e c.args.output.now.frames.items c.give.new.frames.items c.args.output.now.replies.items ws p
    (c.rows_at-count.ensures.count w es numbers at stand.here number) clear.frames did.1 clear.replies right (c.enter.ensures.same.3 ∙ clear.more)
    entered.0 entered.1 c.enter.ensures.same.0 c.enter.ensures.same.1 (c.enter.ensures.same.4 ∙ c.is_kept-output.ensures.kept ∙ ap (is_kept_so e) seen) (ap (λ v. v.items) c.enter.ensures.same.2) in
    let code : refusal_in (seen_of w es e) ≡ Some c.in-Some.code = ap refusal_in (sym seen) ∙ sym c.refusal_in.ensures.number ∙ c.in-Some.is in
    let said = c.write_refusal-refusal.ensures ∙ ap (λ (a : Asked). refusal_reply a.client a.request c.in-Some.code) asked in
    let more = reply at (refusal_reply (asked_in at bytes).client (asked_in at bytes).request c.in-Some.code) c.args.message.conn in
    on_ok_weaker c.reply.result
    (λ replied. comes_as _ w es numbers c.enter.new.self c.reply.new.output (refusal_replied w es at c.args.message.conn bytes c.in-Some.code ws) (submitted w es at c.args.message.conn bytes ws) (quietly w es p)
    (sym (ap (submitted_so w es at c.args.message.conn bytes ws) code))
    (replied_too _ w es numbers c.enter.new.self c.enter.new.output c.reply.new.output at (event_called w es at e ws) more (quietly w es p (event_called w es at e ws)) comes c.enter.ensures.same.0
    c.reply.ensures.same.0 c.reply.ensures.same.1 c.reply.ensures.same.4 c.reply.ensures.same.2 c.reply.ensures.same.3
    (replied ∙ ap (λ b. map (reply_by at) c.enter.new.output.replies.items ++ reply at b c.args.message.conn) said)))
    (c.reply.ensures.replies at)

pub returns-in_ok-push-in-None-clause-comes : goal.returns-in_ok-push-in-None-clause-comes
returns-in_ok-push-in-None-clause-comes g c = λ w es numbers ws p stand number clear asked.
    let at = c.args.output.now.at in
    let bytes = c.args.message.bytes in
    let e : Event = Input at bytes in
    let did = c.in_ok-answer.ensures.does w es numbers at stand.here number refl in
    let given = given_stands _ w es (e ∷ es) numbers c.args.self.now c.give.new.self ws p stand did.0 c.give.ensures.same.0 c.give.ensures.same.1 in
    let us = with_waiter (asked_in at bytes) c.args.message.conn ws in
    let P : Asked → Type 0 = λ a. IsWaiting c.push.new.self (with_waiter a c.args.message.conn ws) in
    let waits = subst P asked (c.in_ok-push-in-None.ensures.waits ws given.waiting) in
    let seen = c.in_ok-answer.ensures.answered w es numbers at stand.here number refl in
    let code : refusal_in (seen_of w es e) ≡ None = ap refusal_in (sym seen) ∙ sym c.refusal_in.ensures.number ∙ c.in-None.is in
    let right = right_at _ w es numbers c.args.self.now.replicas.items c.args.place at stand.here number in
    on_ok_weaker c.enter-in-None.result
    (λ x. comes_as _ w es numbers c.enter-in-None.new.self c.enter-in-None.new.output (request_taken w es at c.args.message.conn bytes ws) (submitted w es at c.args.message.conn bytes ws) (quietly w es p)
    (sym (ap (submitted_so w es at c.args.message.conn bytes ws) code))
    (came_quietly _ w es numbers c.enter-in-None.new.self c.enter-in-None.new.output at c.rows_at-count.result e c.args.output.now.frames.items c.give.new.frames.items c.args.output.now.replies.items us p
    (c.rows_at-count.ensures.count w es numbers at stand.here number) clear.frames did.1 clear.replies right (c.enter-in-None.ensures.same.3 ∙ clear.more)
    x.0 x.1 c.enter-in-None.ensures.same.0 c.enter-in-None.ensures.same.1 (c.enter-in-None.ensures.same.4 ∙ c.is_kept-output.ensures.kept ∙ ap (is_kept_so e) seen) (ap (λ v. v.items) c.enter-in-None.ensures.same.2)))
    (c.enter-in-None.ensures.enters w (e ∷ es) numbers us p (wait_else _ w (e ∷ es) numbers c.give.new.self (record { replicas = c.give.new.self.replicas; waiting = c.push.new.self; keepers = c.give.new.self.keepers }) ws us p given refl refl waits) number)
