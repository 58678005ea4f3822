use Rattle.std.proofs.Common.{◌%◌, ◌<◌, ℕ, map, Ok, Err, ◌∙◌, ap, arith}
use Rattle.std.proofs.lemmas.Result.{err_from_is_err_and}
use Rattle.schedule_replay.specs.Layers.{layers_by}
use Rattle.schedule_plan.specs.Plans.{correct_of}
use Rattle.schedule_plan.specs.Inputs.{value_text, value_input}
use Rattle.schedule_plan.proofs.Planned.{is_planned}
use Rattle.schedule_drive.proofs.Toward.{none_up, all_up, sets_out, arrives}
use Rattle.schedule_drive.proofs.Giving.{value_given}
use Rattle.schedule_drive.proofs.inputs.give_values.Goals as goal

pub loop-i-init : goal.loop-i-init
loop-i-init g c = λ what steps stands.
    let m = layers_by g.S.Service.stands g.S.Service.rules g.S.Service.shown g.E.Broadcast.stands g.E.Broadcast.rules g.E.Broadcast.shown in
    let p = c.args.plan.now in
    sets_out m p what c.args.stage.now _ _ steps (ap (map (value_input p)) (all_up (correct_of p))) stands

pub loop-i-preserved : goal.loop-i-preserved
loop-i-preserved g c = λ what steps stands.
    let m = layers_by g.S.Service.stands g.S.Service.rules g.S.Service.shown g.E.Broadcast.stands g.E.Broadcast.rules g.E.Broadcast.shown in
    let p = c.args.plan.now in
    let below : c.loop-i.i < correct_of p = omega (arith, c.loop-i-test.true, c.correct_of-i-end.ensures.count) in
    let says = c.in_ok-text.ensures.text ∙ ap (λ (v : ℕ). value_text p.mode.root (v % p.commands)) c.from.ensures in
    value_given m p what (is_planned g.S.Service.rules g.E.Broadcast.rules p c.requires.session) c.loop-i.stage c.give.new.self _ (Ok tt) c.loop-i.i c.in_ok-text.text below
    says (c.loop-i.invariant what steps stands) (c.in_ok-give.ensures p what)

pub returns-in_err-give : goal.returns-in_err-give
returns-in_err-give g c = λ what steps stands.
    let m = layers_by g.S.Service.stands g.S.Service.rules g.S.Service.shown g.E.Broadcast.stands g.E.Broadcast.rules g.E.Broadcast.shown in
    let p = c.args.plan.now in
    let below : c.loop-i.i < correct_of p = omega (arith, c.loop-i-test.true, c.correct_of-i-end.ensures.count) in
    let says = c.in_ok-text.ensures.text ∙ ap (λ (v : ℕ). value_text p.mode.root (v % p.commands)) c.from.ensures in
    let q = err_from_is_err_and c.from_residual-in_err-give.result c.from_residual-in_err-give.ensures.1 in
    rw (q.1, q.2) (value_given m p what (is_planned g.S.Service.rules g.E.Broadcast.rules p c.requires.session) c.loop-i.stage c.give.new.self _ (Err c.in_err-give.field-0.0) c.loop-i.i
    c.in_ok-text.text below says (c.loop-i.invariant what steps stands) (c.in_err-give.ensures p what))

pub returns : goal.returns
returns g c = λ what steps stands.
    let m = layers_by g.S.Service.stands g.S.Service.rules g.S.Service.shown g.E.Broadcast.stands g.E.Broadcast.rules g.E.Broadcast.shown in
    let p = c.args.plan.now in
    arrives m p what c.loop-i.stage _ _ (ap (map (value_input p)) (none_up c.loop-i.i (correct_of p) (omega (arith, c.loop-i-test.false, c.correct_of-i-end.ensures.count)))) (c.loop-i.invariant what steps stands)
