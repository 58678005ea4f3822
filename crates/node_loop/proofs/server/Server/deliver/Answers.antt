use Rattle.std.proofs.Common.{[], ◌∷◌, refl, Err, ap, ◌∙◌}
use Rattle.std.proofs.lemmas.Result.{err_from_is_err_and}
use Rattle.node_loop.specs.declared.end.Fault.{Fault}
use Rattle.node_loop.specs.Serving.{so_far, after_from}
use Rattle.node_loop.specs.Keeping.{kept_of}
use Rattle.node_loop.specs.Told.{after_groups, events_from, newest_calls, sooner}
use Rattle.node_loop.proofs.Delivering.{tape_fails, all_wrote, archive_fails, all_kept, all_fit, group_goes, group_stops}
use Rattle.node_loop.proofs.server.Server.deliver.Goals as goal

pub returns-in_err-write-clause-goes : goal.returns-in_err-write-clause-goes
returns-in_err-write-clause-goes g c = λ o left ready.
    let pace = c.args.self.now.pace in
    let run = ready.run in
    let s = after_groups o.world o.past o.start run.older in
    let groups = run.newest ∷ run.older in
    let fault = err_from_is_err_and c.from_residual.result c.from_residual.ensures.1 in
    rw (fault.1 ∙ ap (λ (x : Fault). Err x) fault.2)
    (λ end is. tape_fails _ o.world o.past o.numbers _ o.base _ pace.taken pace.limits o.start left _ _ ready.many ready.within run ready.over _ c.in_err-write.field-0.0 end
    c.in_err-write.ensures.own
    (c.in_err-write.ensures.steps _ o.base _ _ (events_from o.world o.past s run.newest) s.events (sooner o.world o.past o.start groups) (newest_calls o.world o.past o.start groups) refl
    (c.taken-text.ensures ∙ run.under.holds.text) run.agrees) run.kept is)

pub returns-in_err-keep-clause-goes : goal.returns-in_err-keep-clause-goes
returns-in_err-keep-clause-goes g c = λ o left ready.
    let pace = c.args.self.now.pace in
    let run = ready.run in
    let s = after_groups o.world o.past o.start run.older in
    let groups = run.newest ∷ run.older in
    let wrote = all_wrote _ o.world o.past o.numbers _ o.base _ pace.taken pace.limits o.start left _ _ ready.many ready.within run ready.over _
    (c.in_ok-write.ensures.steps _ o.base _ _ (events_from o.world o.past s run.newest) s.events (sooner o.world o.past o.start groups) [] refl (c.taken-text.ensures ∙ run.under.holds.text) run.agrees) in
    let fault = err_from_is_err_and c.from_residual-in_err-keep.result c.from_residual-in_err-keep.ensures.1 in
    rw fault.1
    (λ end is. archive_fails _ o.world o.past o.numbers _ o.base _ pace.taken pace.limits o.start left _ _ ready.many ready.within run ready.over _ c.as_slice-kept.result.now
    c.in_err-keep.field-0.0 fault.0 end c.as_slice-kept.ensures.value fault.2 wrote
    (c.in_err-keep.ensures.keeps o.head o.before o.past (kept_of o.world o.past s.events) run.kept) is)

pub returns-in_err-send_each-clause-goes : goal.returns-in_err-send_each-clause-goes
returns-in_err-send_each-clause-goes g c = λ o left ready.
    let pace = c.args.self.now.pace in
    let run = ready.run in
    let s = after_groups o.world o.past o.start run.older in
    let now = after_from o.world o.past s run.newest in
    let groups = run.newest ∷ run.older in
    let wrote = all_wrote _ o.world o.past o.numbers _ o.base _ pace.taken pace.limits o.start left _ _ ready.many ready.within run ready.over _
    (c.in_ok-write.ensures.steps _ o.base _ _ (events_from o.world o.past s run.newest) s.events (sooner o.world o.past o.start groups) [] refl (c.taken-text.ensures ∙ run.under.holds.text) run.agrees) in
    let kept = all_kept _ o.world o.past o.numbers _ o.base _ pace.taken pace.limits o.start left _ _ ready.many ready.within run ready.over
    (g.A.Archive.stands o.head o.before o.past c.keep.new.self c.keep.new.disk) c.as_slice-kept.result.now c.as_slice-kept.ensures.value
    (c.in_ok-keep.ensures.keeps o.head o.before o.past (kept_of o.world o.past s.events) run.kept) in
    let fit = all_fit _ o.world o.past o.numbers _ o.base _ pace.taken pace.limits o.start left _ _ ready.many ready.within run ready.over c.as_slice-outputs.result.now c.as_slice-outputs.ensures.value in
    let fault = err_from_is_err_and c.from_residual-in_err-send_each.result c.from_residual-in_err-send_each.ensures.1 in
    rw fault.1
    (λ end is. group_stops _ o.world o.past o.numbers _ o.base _ pace.taken pace.limits o.start left _ _ ready.many ready.within run ready.over _ _ _ _ _ wrote kept c.as_slice-outputs.result.now _ _ end
    c.as_slice-outputs.ensures.value fault.2 (c.in_err-send_each.ensures.sends o.world (so_far o.past now) o.numbers now.waiting now.peers run.under.stands fit) is)

pub returns-clause-goes : goal.returns-clause-goes
returns-clause-goes g c = λ o left ready.
    let pace = c.args.self.now.pace in
    let run = ready.run in
    let s = after_groups o.world o.past o.start run.older in
    let now = after_from o.world o.past s run.newest in
    let groups = run.newest ∷ run.older in
    let wrote = all_wrote _ o.world o.past o.numbers _ o.base _ pace.taken pace.limits o.start left _ _ ready.many ready.within run ready.over _
    (c.in_ok-write.ensures.steps _ o.base _ _ (events_from o.world o.past s run.newest) s.events (sooner o.world o.past o.start groups) [] refl (c.taken-text.ensures ∙ run.under.holds.text) run.agrees) in
    let kept = all_kept _ o.world o.past o.numbers _ o.base _ pace.taken pace.limits o.start left _ _ ready.many ready.within run ready.over
    (g.A.Archive.stands o.head o.before o.past c.keep.new.self c.keep.new.disk) c.as_slice-kept.result.now c.as_slice-kept.ensures.value
    (c.in_ok-keep.ensures.keeps o.head o.before o.past (kept_of o.world o.past s.events) run.kept) in
    let fit = all_fit _ o.world o.past o.numbers _ o.base _ pace.taken pace.limits o.start left _ _ ready.many ready.within run ready.over c.as_slice-outputs.result.now c.as_slice-outputs.ensures.value in
    group_goes _ o.world o.past o.numbers _ o.base _ pace.taken pace.limits o.start left _ _ ready.many ready.within run ready.over _ _ _ _ _ wrote kept c.as_slice-outputs.result.now
    c.as_slice-outputs.ensures.value (c.in_ok-send_each.ensures.sends o.world (so_far o.past now) o.numbers now.waiting now.peers run.under.stands fit)
