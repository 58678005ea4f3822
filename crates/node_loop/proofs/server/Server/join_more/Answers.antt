use Rattle.std.proofs.Common.{[], Err, ap, ◌∙◌, arith}
use Rattle.std.proofs.lemmas.Result.{err_from_is_err_and}
use Rattle.node_loop.specs.declared.end.Fault.{Fault}
use Rattle.node_loop.specs.Serving.{so_far, after_from, Ends, Finishes, Overflows, Closes, Halts, Reminds, Turned}
use Rattle.node_loop.specs.Told.{after_groups}
use Rattle.node_loop.proofs.Rounding.{next_end, next_finish, next_overflow, next_close, next_halt, next_remind, wants_now, turn_at_correct, turn_wanted}
use Rattle.node_loop.proofs.Gathering.{calls_with_turn, may_join, gathers_more, more_short, over_where}
use Rattle.node_loop.proofs.server.Server.join_more.Goals as goal

pub returns-in-Ask-clause-gathers : goal.returns-in-Ask-clause-gathers
returns-in-Ask-clause-gathers g c = λ o many goes lt run.
    let s = after_from o.world o.past (after_groups o.world o.past o.start run.older) run.newest in
    c.take_more.ensures.gathers o many run goes lt (c.in-Ask.ensures.next o.world (so_far o.past s) o.numbers s.waiting s.peers run.under.stands)

-- no turn is next

pub returns-in-End-clause-gathers : goal.returns-in-End-clause-gathers
returns-in-End-clause-gathers g c = λ o many goes lt run.
    let pace = c.args.self.now.pace in
    let s = after_from o.world o.past (after_groups o.world o.past o.start run.older) run.newest in
    let is = c.in-End.ensures.next o.world (so_far o.past s) o.numbers s.waiting s.peers run.under.stands in
    let same = wants_now o.world o.past pace.limits s pace.taken run.rest run.items ∙ next_end _ is in
    record {
      many = many;
      within = omega (arith, lt);
      run = run;
      over = over_where _ o.world o.past o.numbers _ o.base pace.limits o.start _ _ _ pace.taken [] many run Ends same (λ i turn. absurd (cc));
    }

pub returns-in-Close-clause-gathers : goal.returns-in-Close-clause-gathers
returns-in-Close-clause-gathers g c = λ o many goes lt run.
    let pace = c.args.self.now.pace in
    let at = c.in-Close.at in
    let epoch = c.in-Close.epoch in
    let s = after_from o.world o.past (after_groups o.world o.past o.start run.older) run.newest in
    let is = c.in-Close.ensures.next o.world (so_far o.past s) o.numbers s.waiting s.peers run.under.stands in
    let same = wants_now o.world o.past pace.limits s pace.taken run.rest run.items ∙ next_close _ at epoch is in
    record {
      many = many;
      within = omega (arith, lt);
      run = run;
      over = over_where _ o.world o.past o.numbers _ o.base pace.limits o.start _ _ _ pace.taken [] many run (Closes at epoch) same (λ i turn. absurd (cc));
    }

pub returns-in-Finish-clause-gathers : goal.returns-in-Finish-clause-gathers
returns-in-Finish-clause-gathers g c = λ o many goes lt run.
    let pace = c.args.self.now.pace in
    let s = after_from o.world o.past (after_groups o.world o.past o.start run.older) run.newest in
    let is = c.in-Finish.ensures.next o.world (so_far o.past s) o.numbers s.waiting s.peers run.under.stands in
    let same = wants_now o.world o.past pace.limits s pace.taken run.rest run.items ∙ next_finish _ is in
    record {
      many = many;
      within = omega (arith, lt);
      run = run;
      over = over_where _ o.world o.past o.numbers _ o.base pace.limits o.start _ _ _ pace.taken [] many run Finishes same (λ i turn. absurd (cc));
    }

pub returns-in-Overflow-clause-gathers : goal.returns-in-Overflow-clause-gathers
returns-in-Overflow-clause-gathers g c = λ o many goes lt run.
    let pace = c.args.self.now.pace in
    let bytes = c.in-Overflow.field-0 in
    let s = after_from o.world o.past (after_groups o.world o.past o.start run.older) run.newest in
    let is = c.in-Overflow.ensures.next o.world (so_far o.past s) o.numbers s.waiting s.peers run.under.stands in
    let same = wants_now o.world o.past pace.limits s pace.taken run.rest run.items ∙ next_overflow _ bytes is in
    record {
      many = many;
      within = omega (arith, lt);
      run = run;
      over = over_where _ o.world o.past o.numbers _ o.base pace.limits o.start _ _ _ pace.taken [] many run (Overflows bytes) same (λ i turn. absurd (cc));
    }

pub returns-in-Halt-clause-gathers : goal.returns-in-Halt-clause-gathers
returns-in-Halt-clause-gathers g c = λ o many goes lt run.
    let pace = c.args.self.now.pace in
    let s = after_from o.world o.past (after_groups o.world o.past o.start run.older) run.newest in
    let is = c.in-Halt.ensures.next o.world (so_far o.past s) o.numbers s.waiting s.peers run.under.stands in
    let same = wants_now o.world o.past pace.limits s pace.taken run.rest run.items ∙ next_halt _ is in
    record {
      many = many;
      within = omega (arith, lt);
      run = run;
      over = over_where _ o.world o.past o.numbers _ o.base pace.limits o.start _ _ _ pace.taken [] many run Halts same (λ i turn. absurd (cc));
    }

pub returns-in-Remind-clause-gathers : goal.returns-in-Remind-clause-gathers
returns-in-Remind-clause-gathers g c = λ o many goes lt run.
    let pace = c.args.self.now.pace in
    let pair = c.in-Remind.field-0 in
    let s = after_from o.world o.past (after_groups o.world o.past o.start run.older) run.newest in
    let is = c.in-Remind.ensures.next o.world (so_far o.past s) o.numbers s.waiting s.peers run.under.stands in
    let same = wants_now o.world o.past pace.limits s pace.taken run.rest run.items ∙ next_remind _ pair is in
    record {
      many = many;
      within = omega (arith, lt);
      run = run;
      over = over_where _ o.world o.past o.numbers _ o.base pace.limits o.start _ _ _ pace.taken [] many run (Reminds pair.at pair.peer) same (λ i turn. absurd (cc));
    }

-- a turn is

pub returns-in_ok-join_turn-in-Turn-clause-gathers : goal.returns-in_ok-join_turn-in-Turn-clause-gathers
returns-in_ok-join_turn-in-Turn-clause-gathers g c = λ o many goes lt run.
    let pace = c.args.self.now.pace in
    let at = c.in-Turn.at in
    let s₀ = after_groups o.world o.past o.start run.older in
    let s = after_from o.world o.past s₀ run.newest in
    let is = c.in-Turn.ensures.next o.world (so_far o.past s) o.numbers s.waiting s.peers run.under.stands in
    let correct = turn_at_correct o.world o.past pace.limits s pace.taken run.rest run.items at is in
    let want = turn_wanted o.world o.past pace.limits s pace.taken run.rest run.items at is in
    let under = c.in_ok-join_turn-in-Turn.ensures.joins o.world o.past o.numbers s₀ run.newest run.under (may_join (Turned at) c.args.self.now.group.now tt goes run.newest) correct in
    gathers_more _ o.world o.past o.numbers _ o.base pace.limits o.start _ _ _ pace.taken [] many run _ _ _ pace.taken [] (Turned at) want tt run.rest run.items
    (calls_with_turn _ o.world o.past o.numbers _ o.base pace.limits o.start _ _ _ pace.taken [] many run at) run.kept under

pub returns-in_err-join_turn-in-Turn-clause-gathers : goal.returns-in_err-join_turn-in-Turn-clause-gathers
returns-in_err-join_turn-in-Turn-clause-gathers g c = λ o many goes lt run.
    let pace = c.args.self.now.pace in
    let at = c.in-Turn.at in
    let s = after_from o.world o.past (after_groups o.world o.past o.start run.older) run.newest in
    let is = c.in-Turn.ensures.next o.world (so_far o.past s) o.numbers s.waiting s.peers run.under.stands in
    let want = turn_wanted o.world o.past pace.limits s pace.taken run.rest run.items at is in
    let fault = err_from_is_err_and c.from_residual.result c.from_residual.ensures.1 in
    rw (fault.1 ∙ ap (λ (x : Fault). Err x) fault.2)
    (λ end is_end. rw is_end (more_short _ o.world o.past o.numbers _ o.base pace.limits o.start _ _ _ pace.taken [] many run _ _ (Turned at) lt tt goes want tt
    (calls_with_turn _ o.world o.past o.numbers _ o.base pace.limits o.start _ _ _ pace.taken [] many run at) run.kept))
