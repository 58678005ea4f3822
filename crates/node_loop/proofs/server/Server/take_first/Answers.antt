use Rattle.std.proofs.Common.{ℕ, ◌+◌, [], false, refl, ap, Err, ◌∙◌}
use Rattle.std.proofs.lemmas.Bool.{both_ways}
use Rattle.std.proofs.lemmas.Result.{err_from_is_err_and}
use Rattle.outside.specs.Links.{Gives}
use Rattle.outside.specs.declared.link.LinkItem.{LinkItem}
use Rattle.node_loop.specs.declared.end.ServeEnd.{ServeEnd}
use Rattle.node_loop.specs.Serving.{Took}
use Rattle.node_loop.specs.Told.{after_groups, told_from}
use Rattle.node_loop.proofs.Rounding.{next_told, next_failed, fault_between, item_wanted}
use Rattle.node_loop.proofs.Gathering.{link_fails, link_ends, under_none, gathers_first, first_short}
use Rattle.node_loop.proofs.server.Server.take_first.Goals as goal

pub returns-in_err-item-clause-begins : goal.returns-in_err-item-clause-begins
returns-in_err-item-clause-begins g c = λ o run is.
    let pace = c.args.self.now.pace in
    let s = after_groups o.world o.past o.start run.groups in
    let end = err_from_is_err_and c.from_residual.result c.from_residual.ensures.1 in
    let fault = fault_between c.in_err-item.field-0.0 end.0 end.2 in
    rw end.1
    (link_fails _ o.world o.past o.numbers _ o.base pace.limits o.start _ _ pace.taken run _ _ _
    (next_failed LinkItem _ o.base _ s.events (told_from o.world o.past o.start run.groups) _ _ _ _ fault.1 run.agrees c.in_err-item.ensures.err c.in_err-item.ensures.cause.later c.in_err-item.ensures.count)
    run.kept fault.2)

pub returns-then-is_end-clause-begins : goal.returns-then-is_end-clause-begins
returns-then-is_end-clause-begins g c = λ o run is.
    let pace = c.args.self.now.pace in
    let s = after_groups o.world o.past o.start run.groups in
    let item = c.in_ok-item.item in
    link_ends _ o.world o.past o.numbers _ o.base pace.limits o.start _ _ pace.taken run _ item is (c.if-is_end.ensures.0 refl)
    (next_told _ o.base _ s.events (told_from o.world o.past o.start run.groups) _ _ (Gives item) run.agrees c.in_ok-item.ensures.ok c.in_ok-item.ensures.count) run.kept

pub returns-clause-begins : goal.returns-clause-begins
returns-clause-begins g c = λ o run is.
    let pace = c.args.self.now.pace in
    let item = c.in_ok-item.item in
    let s = after_groups o.world o.past o.start run.groups in
    let none = under_none _ o.world o.past o.numbers _ o.base pace.limits o.start _ _ pace.taken [] run c.args.self.now.group.now c.requires.empty in
    let want = item_wanted o.world o.past pace.limits s pace.taken run.rest run.count item is
    (record { goes_on = λ e. both_ways false refl (c.if-is_end.ensures.1 e); short = c.in_ok-item.ensures.size }) in
    let agrees = next_told _ o.base _ s.events (told_from o.world o.past o.start run.groups) _ _ (Gives item) run.agrees c.in_ok-item.ensures.ok c.in_ok-item.ensures.count in
    let fits = c.in_ok-join_item.ensures.fits o.world o.past o.numbers s [] none in
    let under = c.in_ok-join_item.ensures.joins o.world o.past o.numbers s [] none tt in
    gathers_first _ o.world o.past o.numbers _ o.base pace.limits o.start _ _ pace.taken [] run _ _ _ (pace.taken + 1) [] (Took item) want fits run.rest (ap (λ (n : ℕ). n + 1) run.count) agrees run.kept under

pub returns-in_err-join_item-clause-begins : goal.returns-in_err-join_item-clause-begins
returns-in_err-join_item-clause-begins g c = λ o run is.
    let pace = c.args.self.now.pace in
    let item = c.in_ok-item.item in
    let s = after_groups o.world o.past o.start run.groups in
    let want = item_wanted o.world o.past pace.limits s pace.taken run.rest run.count item is
    (record { goes_on = λ e. both_ways false refl (c.if-is_end.ensures.1 e); short = c.in_ok-item.ensures.size }) in
    let agrees = next_told _ o.base _ s.events (told_from o.world o.past o.start run.groups) _ _ (Gives item) run.agrees c.in_ok-item.ensures.ok c.in_ok-item.ensures.count in
    let none = under_none _ o.world o.past o.numbers _ o.base pace.limits o.start _ _ pace.taken [] run c.args.self.now.group.now c.requires.empty in
    let fits = c.in_err-join_item.ensures.fits o.world o.past o.numbers s [] none in
    let end = err_from_is_err_and c.from_residual-in_err-join_item.result c.from_residual-in_err-join_item.ensures.1 in
    rw (end.1 ∙ ap (λ (x : ServeEnd). Err x) end.2)
    (first_short _ o.world o.past o.numbers _ o.base pace.limits o.start _ _ pace.taken [] run _ _ (Took item) want fits agrees run.kept)
