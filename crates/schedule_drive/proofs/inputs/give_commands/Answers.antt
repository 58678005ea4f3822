use Rattle.std.proofs.Common.{Ok, Err, ap}
use Rattle.std.specs.List.{flat_map}
use Rattle.std.proofs.lemmas.Result.{err_from_is_err_and}
use Rattle.schedule_replay.specs.Layers.{layers_by}
use Rattle.schedule_plan.specs.Inputs.{command_at}
use Rattle.schedule_plan.proofs.Planned.{is_planned}
use Rattle.schedule_drive.proofs.Toward.{none_up, all_up, sets_out, arrives}
use Rattle.schedule_drive.proofs.Giving.{command_given}
use Rattle.schedule_drive.proofs.inputs.give_commands.Goals as goal

pub loop-k-init : goal.loop-k-init
loop-k-init g c = λ what steps stands.
    let m = layers_by g.S.Service.stands g.S.Service.rules g.S.Service.shown g.E.Broadcast.stands g.E.Broadcast.rules g.E.Broadcast.shown in
    let p = c.args.plan.now in
    sets_out m p what c.args.stage.now _ _ steps (ap (flat_map (command_at p)) (all_up p.commands)) stands

pub loop-k-preserved : goal.loop-k-preserved
loop-k-preserved g c = λ what steps stands.
    let m = layers_by g.S.Service.stands g.S.Service.rules g.S.Service.shown g.E.Broadcast.stands g.E.Broadcast.rules g.E.Broadcast.shown in
    let p = c.args.plan.now in
    command_given m p what (is_planned g.S.Service.rules g.E.Broadcast.rules p c.requires) c.loop-k.stage c.give_command.new.stage _ (Ok tt) c.loop-k.k c.loop-k-test.true
    (c.loop-k.invariant what steps stands) (c.in_ok-give_command.ensures what)

pub returns-in_err-give_command : goal.returns-in_err-give_command
returns-in_err-give_command g c = λ what steps stands.
    let m = layers_by g.S.Service.stands g.S.Service.rules g.S.Service.shown g.E.Broadcast.stands g.E.Broadcast.rules g.E.Broadcast.shown in
    let p = c.args.plan.now in
    let q = err_from_is_err_and c.from_residual.result c.from_residual.ensures.1 in
    rw (q.1, q.2) (command_given m p what (is_planned g.S.Service.rules g.E.Broadcast.rules p c.requires) c.loop-k.stage c.give_command.new.stage _ (Err c.in_err-give_command.field-0.0) c.loop-k.k
    c.loop-k-test.true (c.loop-k.invariant what steps stands) (c.in_err-give_command.ensures what))

pub returns : goal.returns
returns g c = λ what steps stands.
    let m = layers_by g.S.Service.stands g.S.Service.rules g.S.Service.shown g.E.Broadcast.stands g.E.Broadcast.rules g.E.Broadcast.shown in
    let p = c.args.plan.now in
    arrives m p what c.loop-k.stage _ _ (ap (flat_map (command_at p)) (none_up c.loop-k.k p.commands c.loop-k-test.false)) (c.loop-k.invariant what steps stands)
