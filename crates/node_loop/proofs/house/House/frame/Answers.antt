use Rattle.std.proofs.Common.{◌≡◌, ◌∷◌, Some, refl, sym, ap, ◌∙◌}
use Rattle.std.specs.List.{slice_get}
use Rattle.std.proofs.lemmas.Result.{on_ok_weaker}
use Rattle.ritas_base.specs.declared.event.Event.{Event}
use Rattle.ritas_base.specs.declared.event.Event.TheVariants.{Frame}
use Rattle.keyed_channel.specs.Frames.{opening}
use Rattle.node_loop.specs.Calls.{event_called}
use Rattle.node_loop.specs.Peers.{keep_all}
use Rattle.node_loop.specs.Resending.{opened_so}
use Rattle.node_loop.specs.Serving.{frames_made_by}
use Rattle.node_loop.specs.Keeping.{is_kept_so}
use Rattle.node_loop.proofs.Comings.{right_at, given_stands, came, same_more, comes_at}
use Rattle.node_loop.proofs.Hearing.{heard, reads_of, entered_at}
use Rattle.node_loop.proofs.house.House.frame.Goals as goal

pub returns-clause-comes : goal.returns-clause-comes
returns-clause-comes g c = λ w es numbers ws p i stand one at_number clear.
    let at = c.args.output.now.at in
    let bytes = c.args.bytes in
    let e : Event = Frame at bytes in
    let number : slice_get numbers c.args.place ≡ Some at = at_number ∙ ap (λ k. Some k) one in
    let did = c.in_ok-answer.ensures.does w es numbers at stand.here number refl in
    let given = given_stands _ w es (e ∷ es) numbers c.args.self.now c.give.new.self ws p stand did.0 c.give.ensures.same.0 c.give.ensures.same.1 in
    let seen = c.in_ok-answer.ensures.answered w es numbers at stand.here number refl in
    let right = right_at _ w es numbers c.args.self.now.replicas.items c.args.place at stand.here number in
    let h = heard _ w es numbers c.args.self.now.replicas.items c.give.new.self c.respond.new.self ws p c.args.place at bytes c.frame_header-carried.result c.args.output.now.more c.respond.new.output.more c.in_ok-answer.answer
    stand.here number given clear.more seen (reads_of c.as_slice.result.now bytes c.frame_header-carried.result c.as_slice.ensures c.frame_header-carried.ensures) c.opened_parts.ensures c.opened_from_peer.ensures
    c.respond.ensures.none (c.respond.ensures.marks w (e ∷ es) numbers ws p at given number) (c.respond.ensures.takes w (e ∷ es) numbers at given.here number) in
    let at_is = c.respond.ensures.same.0 in
    on_ok_weaker c.enter.result
    (λ x.
    let y = entered_at _ w (e ∷ es) numbers c.enter.new.self c.rows_at-count.result ws h.before c.enter.new.output.replies.items c.respond.new.output.replies.items c.respond.new.output.at at at_is x in
    comes_at _ w es numbers c.enter.new.self c.enter.new.output (λ k. event_called w es k (Frame k bytes) ws) (λ k. opened_so w es k bytes (keep_all w.mode.version (frames_made_by w es (Some (Frame k bytes))) p) (opening (w.keys k) bytes)) at i (sym one)
    (came _ w es numbers c.enter.new.self c.enter.new.output at c.rows_at-count.result e c.args.output.now.frames.items c.give.new.frames.items c.respond.new.output.replies.items ws h.before
    (opened_so w es at bytes (keep_all w.mode.version (frames_made_by w es (Some e)) p) (opening (w.keys at) bytes))
    (c.rows_at-count.ensures.count w es numbers at stand.here number) clear.frames did.1 (ap (λ v. v.items) c.respond.ensures.same.3 ∙ clear.replies) right
    (same_more w at at c.enter.new.output.more c.respond.new.output.more _ refl c.enter.ensures.same.3 h.besides) h.kept y.0 y.1
    (c.enter.ensures.same.0 ∙ at_is) (c.enter.ensures.same.1 ∙ c.respond.ensures.same.1) (c.enter.ensures.same.4 ∙ c.respond.ensures.same.4 ∙ c.is_kept-output.ensures.kept ∙ ap (is_kept_so e) seen) (ap (λ v. v.items) (c.enter.ensures.same.2 ∙ c.respond.ensures.same.2))))
    (c.enter.ensures.enters w (e ∷ es) numbers ws h.before h.stands (number ∙ ap (λ k. Some k) (sym at_is)))
