use Rattle.std.proofs.Common.{◌+◌, ◌-◌, ◌++◌, suc, List, reverse, sym, ◌∙◌, ap, subst, arith}
use Rattle.std.specs.List.{flat_map, list_any}
use Rattle.std.proofs.lemmas.Result.{err_from_is_err_and}
use Rattle.layer_api.specs.Runs.{Has}
use Rattle.schedule_replay.specs.Layers.{layers_by}
use Rattle.schedule_plan.specs.Garbage.{throws_of}
use Rattle.schedule_plan.proofs.Planned.{is_planned}
use Rattle.schedule_stage.specs.Stage.{IsStage}
use Rattle.schedule_stage.specs.Worlds.{world_in, HaltsBy}
use Rattle.schedule_drive.specs.declared.runs.Run.{Run}
use Rattle.schedule_drive.specs.Runs.{run_steps, has_step}
use Rattle.schedule_drive.proofs.Sweeping.{first_sweeping, last_sweeping, same_runs, runs_after, sweeping_ends, sweeping_on, sweep_halts, garbage_halts}
use Rattle.schedule_drive.proofs.sweeps.play_sweeps.Goals as goal

pub loop-init : goal.loop-init
loop-init g c = λ what stands more all.
    let m = layers_by g.S.Service.stands g.S.Service.rules g.S.Service.shown g.E.Broadcast.stands g.E.Broadcast.rules g.E.Broadcast.shown in
    first_sweeping m c.args.plan.now what c.args.stage.now c.in_ok-runs.runs.items c.seed_from_u64-words.result c.requires stands c.in_ok-runs.ensures c.seed_from_u64-words.ensures more all

pub returns-then-not-have_steps : goal.returns-then-not-have_steps
returns-then-not-have_steps g c = λ what stands.
    let m = layers_by g.S.Service.stands g.S.Service.rules g.S.Service.shown g.E.Broadcast.stands g.E.Broadcast.rules g.E.Broadcast.shown in
    let p = c.args.plan.now in
    let planned = is_planned g.S.Service.rules g.E.Broadcast.rules p c.has_session.ensures in
    let so_far = c.loop.invariant what stands (suc (4000001 - (c.loop.counter + 1))) (omega (arith, c.loop-test.true)) in
    let same = same_runs m p what planned c.loop.stage c.loop.runs.items c.as_mut_slice.result.now c.renew.new.runs c.loop.words _ c.loop.runs.len so_far
    c.loop.runs.ok.0 c.as_mut_slice.ensures.value (c.renew.ensures p what) in
    let none = ap (list_any has_step) (sym c.as_slice.ensures.value) ∙ sym c.have_steps.ensures ∙ c.if-not-have_steps.true in
    sweeping_ends m p what c.loop.stage c.loop.runs.items _ c.loop.words _ so_far same none

pub returns-in_err-throw_all : goal.returns-in_err-throw_all
returns-in_err-throw_all g c = λ what stands.
    let m = layers_by g.S.Service.stands g.S.Service.rules g.S.Service.shown g.E.Broadcast.stands g.E.Broadcast.rules g.E.Broadcast.shown in
    let p = c.args.plan.now in
    let planned = is_planned g.S.Service.rules g.E.Broadcast.rules p c.has_session.ensures in
    let so_far = c.loop.invariant what stands (suc (4000001 - (c.loop.counter + 1))) (omega (arith, c.loop-test.true)) in
    let same = same_runs m p what planned c.loop.stage c.loop.runs.items c.as_mut_slice.result.now c.renew.new.runs c.loop.words _ c.loop.runs.len so_far
    c.loop.runs.ok.0 c.as_mut_slice.ensures.value (c.renew.ensures p what) in
    let some = ap (list_any has_step) (sym c.as_slice.ensures.value) ∙ sym c.have_steps.ensures ∙ c.if-not-have_steps.false in
    let q = err_from_is_err_and c.from_residual-in_err-throw_all.result c.from_residual-in_err-throw_all.ensures.1 in
    rw (q.1, q.2) (garbage_halts m p what c.loop.stage c.loop.runs.items _ c.loop.words _ so_far same some c.in_err-throw_all.field-0.0
    (c.in_err-throw_all.ensures.stage what so_far.steps so_far.stands))

pub returns-in_err-take_runs : goal.returns-in_err-take_runs
returns-in_err-take_runs g c = λ what stands.
    let m = layers_by g.S.Service.stands g.S.Service.rules g.S.Service.shown g.E.Broadcast.stands g.E.Broadcast.rules g.E.Broadcast.shown in
    let p = c.args.plan.now in
    let planned = is_planned g.S.Service.rules g.E.Broadcast.rules p c.has_session.ensures in
    let so_far = c.loop.invariant what stands (suc (4000001 - (c.loop.counter + 1))) (omega (arith, c.loop-test.true)) in
    let same = same_runs m p what planned c.loop.stage c.loop.runs.items c.as_mut_slice.result.now c.renew.new.runs c.loop.words _ c.loop.runs.len so_far
    c.loop.runs.ok.0 c.as_mut_slice.ensures.value (c.renew.ensures p what) in
    let some = ap (list_any has_step) (sym c.as_slice.ensures.value) ∙ sym c.have_steps.ensures ∙ c.if-not-have_steps.false in
    let behind = reverse (throws_of p p.attack c.loop.words).0 ++ so_far.steps in
    let thrown = c.in_ok-throw_all.ensures.stage what so_far.steps so_far.stands in
    let there = runs_after m p what c.loop.stage c.loop.runs.items _ c.loop.words _ so_far same planned in
    let lent = c.as_slice-in-loop.ensures.value in
    let q = err_from_is_err_and c.from_residual-in_err-take_runs.result c.from_residual-in_err-take_runs.ensures.1 in
    rw (q.1, q.2) (sweep_halts m p what c.loop.stage c.loop.runs.items _ c.loop.words _ so_far same some c.in_err-take_runs.field-0.0
    (subst (λ (l : List Run). HaltsBy (world_in m p) p (reverse (flat_map run_steps l) ++ behind) c.in_err-take_runs.field-0.0) lent
    (c.in_err-take_runs.ensures p what behind thrown (λ run listed. there run (subst (λ (l : List Run). Has l run) lent listed)))))

pub loop-preserved : goal.loop-preserved
loop-preserved g c = λ what stands more all.
    let m = layers_by g.S.Service.stands g.S.Service.rules g.S.Service.shown g.E.Broadcast.stands g.E.Broadcast.rules g.E.Broadcast.shown in
    let p = c.args.plan.now in
    let planned = is_planned g.S.Service.rules g.E.Broadcast.rules p c.has_session.ensures in
    let so_far = c.loop.invariant what stands (suc more) (omega (arith, all)) in
    let same = same_runs m p what planned c.loop.stage c.loop.runs.items c.as_mut_slice.result.now c.renew.new.runs c.loop.words _ c.loop.runs.len so_far
    c.loop.runs.ok.0 c.as_mut_slice.ensures.value (c.renew.ensures p what) in
    let some = ap (list_any has_step) (sym c.as_slice.ensures.value) ∙ sym c.have_steps.ensures ∙ c.if-not-have_steps.false in
    let behind = reverse (throws_of p p.attack c.loop.words).0 ++ so_far.steps in
    let thrown = c.in_ok-throw_all.ensures.stage what so_far.steps so_far.stands in
    let there = runs_after m p what c.loop.stage c.loop.runs.items _ c.loop.words _ so_far same planned in
    let lent = c.as_slice-in-loop.ensures.value in
    sweeping_on m p what c.loop.stage c.loop.runs.items _ c.loop.words _ so_far same some c.take_runs.new.stage c.throw_all.new.words c.in_ok-throw_all.ensures.words
    (subst (λ (l : List Run). IsStage m p what c.take_runs.new.stage (reverse (flat_map run_steps l) ++ behind)) lent
    (c.in_ok-take_runs.ensures p what behind thrown (λ run listed. there run (subst (λ (l : List Run). Has l run) lent listed))))

pub returns : goal.returns
returns g c = λ what stands.
    let m = layers_by g.S.Service.stands g.S.Service.rules g.S.Service.shown g.E.Broadcast.stands g.E.Broadcast.rules g.E.Broadcast.shown in
    last_sweeping m c.args.plan.now what c.loop.stage c.loop.runs.items c.loop.words (c.loop.invariant what stands 0 (omega (arith, c.loop-test.false, c.loop.auto.counter-end)))
