use Rattle.std.proofs.Common.{[], Err, ap, ◌∙◌}
use Rattle.std.proofs.lemmas.Result.{err_from_is_err_and}
use Rattle.node_loop.specs.declared.end.ServeEnd.{ServeEnd}
use Rattle.node_loop.specs.Serving.{so_far, Turned, Closed, Reminded}
use Rattle.node_loop.specs.Told.{after_groups}
use Rattle.node_loop.proofs.Rounding.{turn_at_correct, turn_wanted, close_at_correct, close_wanted, remind_of_peer, remind_wanted}
use Rattle.node_loop.proofs.Gathering.{is_ended, finishes, overflows, halts, under_none, gathers_first, first_short}
use Rattle.node_loop.proofs.server.Server.begin_group.Goals as goal

pub returns-in-Finish-clause-begins : goal.returns-in-Finish-clause-begins
returns-in-Finish-clause-begins g c = λ o run.
    let s = after_groups o.world o.past o.start run.groups in
    finishes _ o.world o.past o.numbers _ o.base _ o.start _ _ _ run (c.in-Finish.ensures.next o.world (so_far o.past s) o.numbers s.waiting s.peers run.stands)

pub returns-in-End-clause-begins : goal.returns-in-End-clause-begins
returns-in-End-clause-begins g c = λ o run.
    let s = after_groups o.world o.past o.start run.groups in
    is_ended _ o.world o.past o.numbers _ o.base _ o.start _ _ _ run (c.in-End.ensures.next o.world (so_far o.past s) o.numbers s.waiting s.peers run.stands)

pub returns-in-Overflow-clause-begins : goal.returns-in-Overflow-clause-begins
returns-in-Overflow-clause-begins g c = λ o run.
    let s = after_groups o.world o.past o.start run.groups in
    overflows _ o.world o.past o.numbers _ o.base _ o.start _ _ _ run c.in-Overflow.bytes
    (c.in-Overflow.ensures.next o.world (so_far o.past s) o.numbers s.waiting s.peers run.stands)

pub returns-in-Halt-clause-begins : goal.returns-in-Halt-clause-begins
returns-in-Halt-clause-begins g c = λ o run.
    let s = after_groups o.world o.past o.start run.groups in
    halts _ o.world o.past o.numbers _ o.base _ o.start _ _ _ run (c.in-Halt.ensures.next o.world (so_far o.past s) o.numbers s.waiting s.peers run.stands)

pub returns-in-Ask-clause-begins : goal.returns-in-Ask-clause-begins
returns-in-Ask-clause-begins g c = λ o run.
    let s = after_groups o.world o.past o.start run.groups in
    c.take_first.ensures.begins o run (c.in-Ask.ensures.next o.world (so_far o.past s) o.numbers s.waiting s.peers run.stands)

-- a turn

pub returns-in_err-join_turn-in-Turn-clause-begins : goal.returns-in_err-join_turn-in-Turn-clause-begins
returns-in_err-join_turn-in-Turn-clause-begins g c = λ o run.
    let pace = c.args.self.now.pace in
    let at = c.in-Turn.at in
    let s = after_groups o.world o.past o.start run.groups in
    let is = c.in-Turn.ensures.next o.world (so_far o.past s) o.numbers s.waiting s.peers run.stands in
    let end = err_from_is_err_and c.from_residual.result c.from_residual.ensures.1 in
    rw (end.1 ∙ ap (λ (x : ServeEnd). Err x) end.2)
    (first_short _ o.world o.past o.numbers _ o.base pace.limits o.start _ _ pace.taken [] run _ _ (Turned at)
    (turn_wanted o.world o.past pace.limits s pace.taken run.rest run.count at is) tt run.agrees run.kept)

pub returns-in_ok-join_turn-in-Turn-clause-begins : goal.returns-in_ok-join_turn-in-Turn-clause-begins
returns-in_ok-join_turn-in-Turn-clause-begins g c = λ o run.
    let pace = c.args.self.now.pace in
    let at = c.in-Turn.at in
    let s = after_groups o.world o.past o.start run.groups in
    let is = c.in-Turn.ensures.next o.world (so_far o.past s) o.numbers s.waiting s.peers run.stands in
    let none = under_none _ o.world o.past o.numbers _ o.base pace.limits o.start _ _ pace.taken [] run c.args.self.now.group.now c.requires.empty in
    let correct = turn_at_correct o.world o.past pace.limits s pace.taken run.rest run.count at is in
    let want = turn_wanted o.world o.past pace.limits s pace.taken run.rest run.count at is in
    let under = c.in_ok-join_turn-in-Turn.ensures.joins o.world o.past o.numbers s [] none tt correct in
    gathers_first _ o.world o.past o.numbers _ o.base pace.limits o.start _ _ pace.taken [] run _ _ _ pace.taken [] (Turned at) want tt run.rest run.count run.agrees run.kept under

-- an epoch is closed

pub returns-in_err-join_closing-in-Close-clause-begins : goal.returns-in_err-join_closing-in-Close-clause-begins
returns-in_err-join_closing-in-Close-clause-begins g c = λ o run.
    let pace = c.args.self.now.pace in
    let at = c.in-Close.at in
    let epoch = c.in-Close.epoch in
    let s = after_groups o.world o.past o.start run.groups in
    let is = c.in-Close.ensures.next o.world (so_far o.past s) o.numbers s.waiting s.peers run.stands in
    let end = err_from_is_err_and c.from_residual-in_err-join_closing-in-Close.result c.from_residual-in_err-join_closing-in-Close.ensures.1 in
    rw (end.1 ∙ ap (λ (x : ServeEnd). Err x) end.2)
    (first_short _ o.world o.past o.numbers _ o.base pace.limits o.start _ _ pace.taken [] run _ _ (Closed at epoch)
    (close_wanted o.world o.past pace.limits s pace.taken run.rest run.count at epoch is) tt run.agrees run.kept)

pub returns-in_ok-join_closing-in-Close-clause-begins : goal.returns-in_ok-join_closing-in-Close-clause-begins
returns-in_ok-join_closing-in-Close-clause-begins g c = λ o run.
    let pace = c.args.self.now.pace in
    let at = c.in-Close.at in
    let epoch = c.in-Close.epoch in
    let s = after_groups o.world o.past o.start run.groups in
    let is = c.in-Close.ensures.next o.world (so_far o.past s) o.numbers s.waiting s.peers run.stands in
    let none = under_none _ o.world o.past o.numbers _ o.base pace.limits o.start _ _ pace.taken [] run c.args.self.now.group.now c.requires.empty in
    let correct = close_at_correct o.world o.past pace.limits s pace.taken run.rest run.count at epoch is in
    let want = close_wanted o.world o.past pace.limits s pace.taken run.rest run.count at epoch is in
    let under = c.in_ok-join_closing-in-Close.ensures.joins o.world o.past o.numbers s [] none tt correct in
    gathers_first _ o.world o.past o.numbers _ o.base pace.limits o.start _ _ pace.taken [] run _ _ _ pace.taken [] (Closed at epoch) want tt run.rest run.count run.agrees run.kept under

-- a peer is asked to send again

pub returns-in_err-join_reminder-in-Remind-clause-begins : goal.returns-in_err-join_reminder-in-Remind-clause-begins
returns-in_err-join_reminder-in-Remind-clause-begins g c = λ o run.
    let pace = c.args.self.now.pace in
    let pair = c.in-Remind.pair in
    let s = after_groups o.world o.past o.start run.groups in
    let is = c.in-Remind.ensures.next o.world (so_far o.past s) o.numbers s.waiting s.peers run.stands in
    let end = err_from_is_err_and c.from_residual-in_err-join_reminder-in-Remind.result c.from_residual-in_err-join_reminder-in-Remind.ensures.1 in
    rw (end.1 ∙ ap (λ (x : ServeEnd). Err x) end.2)
    (first_short _ o.world o.past o.numbers _ o.base pace.limits o.start _ _ pace.taken [] run _ _ (Reminded pair.at pair.peer)
    (remind_wanted o.world o.past pace.limits s pace.taken run.rest run.count pair is) tt run.agrees run.kept)

pub returns-in_ok-join_reminder-in-Remind-clause-begins : goal.returns-in_ok-join_reminder-in-Remind-clause-begins
returns-in_ok-join_reminder-in-Remind-clause-begins g c = λ o run.
    let pace = c.args.self.now.pace in
    let pair = c.in-Remind.pair in
    let s = after_groups o.world o.past o.start run.groups in
    let is = c.in-Remind.ensures.next o.world (so_far o.past s) o.numbers s.waiting s.peers run.stands in
    let none = under_none _ o.world o.past o.numbers _ o.base pace.limits o.start _ _ pace.taken [] run c.args.self.now.group.now c.requires.empty in
    let peer = remind_of_peer o.world o.past pace.limits s pace.taken run.rest run.count pair is in
    let want = remind_wanted o.world o.past pace.limits s pace.taken run.rest run.count pair is in
    let under = c.in_ok-join_reminder-in-Remind.ensures.joins o.world o.past o.numbers s [] none tt peer.0 peer.1 in
    gathers_first _ o.world o.past o.numbers _ o.base pace.limits o.start _ _ pace.taken [] run _ _ _ pace.taken [] (Reminded pair.at pair.peer) want tt run.rest run.count run.agrees run.kept under
