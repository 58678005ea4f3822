use Rattle.std.proofs.Common.{◌<◌, map, Ok, Err, ap, arith}
use Rattle.std.proofs.lemmas.Result.{err_from_is_err_and}
use Rattle.schedule_replay.specs.Layers.{layers_by}
use Rattle.schedule_plan.specs.Inputs.{copies_of, copy_at}
use Rattle.schedule_plan.proofs.Planned.{is_planned}
use Rattle.schedule_drive.proofs.Toward.{none_up, all_up, sets_out, arrives}
use Rattle.schedule_drive.proofs.Giving.{copy_given}
use Rattle.schedule_drive.proofs.inputs.give_command.Goals as goal

pub loop-behind-init : goal.loop-behind-init
loop-behind-init g c = λ what steps stands.
    let m = layers_by g.S.Service.stands g.S.Service.rules g.S.Service.shown g.E.Broadcast.stands g.E.Broadcast.rules g.E.Broadcast.shown in
    let p = c.args.plan.now in
    sets_out m p what c.args.stage.now _ _ steps (ap (map (copy_at p c.args.k)) (all_up (copies_of p))) stands

pub loop-behind-preserved : goal.loop-behind-preserved
loop-behind-preserved g c = λ what steps stands.
    let m = layers_by g.S.Service.stands g.S.Service.rules g.S.Service.shown g.E.Broadcast.stands g.E.Broadcast.rules g.E.Broadcast.shown in
    let p = c.args.plan.now in
    let below : c.loop-behind.behind < copies_of p = omega (arith, c.loop-behind-test.true, c.copies_of-behind-end.ensures) in
    copy_given m p what (is_planned g.S.Service.rules g.E.Broadcast.rules p c.requires) c.loop-behind.stage c.give_copy.new.stage _ (Ok tt) c.args.k c.loop-behind.behind below
    (c.loop-behind.invariant what steps stands) (c.in_ok-give_copy.ensures what)

pub returns-in_err-give_copy : goal.returns-in_err-give_copy
returns-in_err-give_copy g c = λ what steps stands.
    let m = layers_by g.S.Service.stands g.S.Service.rules g.S.Service.shown g.E.Broadcast.stands g.E.Broadcast.rules g.E.Broadcast.shown in
    let p = c.args.plan.now in
    let below : c.loop-behind.behind < copies_of p = omega (arith, c.loop-behind-test.true, c.copies_of-behind-end.ensures) in
    let q = err_from_is_err_and c.from_residual.result c.from_residual.ensures.1 in
    rw (q.1, q.2) (copy_given m p what (is_planned g.S.Service.rules g.E.Broadcast.rules p c.requires) c.loop-behind.stage c.give_copy.new.stage _ (Err c.in_err-give_copy.field-0.0) c.args.k
    c.loop-behind.behind below (c.loop-behind.invariant what steps stands) (c.in_err-give_copy.ensures what))

pub returns : goal.returns
returns g c = λ what steps stands.
    let m = layers_by g.S.Service.stands g.S.Service.rules g.S.Service.shown g.E.Broadcast.stands g.E.Broadcast.rules g.E.Broadcast.shown in
    let p = c.args.plan.now in
    arrives m p what c.loop-behind.stage _ _ (ap (map (copy_at p c.args.k)) (none_up c.loop-behind.behind (copies_of p) (omega (arith, c.loop-behind-test.false, c.copies_of-behind-end.ensures)))) (c.loop-behind.invariant what steps stands)
