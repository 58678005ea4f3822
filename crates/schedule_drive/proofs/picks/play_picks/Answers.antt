use Rattle.std.proofs.Common.{◌≤◌, List, [], false, reverse, sym, subst, arith}
use Rattle.schedule_replay.specs.Layers.{layers_by}
use Rattle.world_model.specs.Players.{Step}
use Rattle.schedule_plan.specs.Inputs.{inputs_of}
use Rattle.schedule_plan.specs.Picks.{pick}
use Rattle.schedule_plan.specs.Sweeps.{none_yet}
use Rattle.schedule_plan.specs.Schedule.{schedule}
use Rattle.schedule_plan.proofs.Planned.{is_planned, input_steps}
use Rattle.schedule_stage.specs.Stage.{IsStage}
use Rattle.schedule_stage.specs.Worlds.{world_in}
use Rattle.schedule_drive.specs.Pickers.{KnownFrames}
use Rattle.schedule_drive.proofs.Picking.{first_of, first_rest, next_rest, none_open, none_left, schedule_halts, reaches_halt, counted}
use Rattle.schedule_drive.proofs.picks.play_picks.Goals as goal

pub loop-number-init : goal.loop-number-init
loop-number-init g c = λ what stands.
    let m = layers_by g.S.Service.stands g.S.Service.rules g.S.Service.shown g.E.Broadcast.stands g.E.Broadcast.rules g.E.Broadcast.shown in
    let p = c.args.plan.now in
    let w = world_in m p in
    let session = c.has_session.ensures in
    let known : KnownFrames = record { waits = λ y. false; counts = none_yet } in
    record {
      picking = first_of p;
      stands = record {
        stage_is = stands;
        picker_is = c.refresh_all.ensures p what (reverse (inputs_of p)) known [] stands session c.in_ok-picker.ensures (λ x y. omega arith);
        steps_are = input_steps w p (is_planned g.S.Service.rules g.E.Broadcast.rules p session);
      };
      words_are = c.seed_from_u64-words.ensures;
      rest = first_rest w p c.requires;
    }

pub returns-then-count-eq0 : goal.returns-then-count-eq0
returns-then-count-eq0 g c = λ what stands.
    let m = layers_by g.S.Service.stands g.S.Service.rules g.S.Service.shown g.E.Broadcast.stands g.E.Broadcast.rules g.E.Broadcast.shown in
    let p = c.args.plan.now in
    let w = world_in m p in
    let going = c.loop-number.invariant what stands in
    let q = going.picking in
    let is = counted w p q c.loop-number.picker c.has_session.ensures going.stands.picker_is c.count-count.result c.count-count.ensures in
    subst (λ (steps : List Step). IsStage m p what c.loop-number.stage steps) (sym (none_open w p c.loop-number.number q going.rest c.count-count.result is c.if-count-eq0.true c.loop-number-test.true)) going.stands.stage_is

pub returns-in_err-take_next : goal.returns-in_err-take_next
returns-in_err-take_next g c = λ what stands.
    let m = layers_by g.S.Service.stands g.S.Service.rules g.S.Service.shown g.E.Broadcast.stands g.E.Broadcast.rules g.E.Broadcast.shown in
    let p = c.args.plan.now in
    let w = world_in m p in
    let going = c.loop-number.invariant what stands in
    let q = going.picking in
    let is = counted w p q c.loop-number.picker c.has_session.ensures going.stands.picker_is c.count-count.result c.count-count.ensures in
    let halt = c.in_err-take_next.field-0.0 in
    reaches_halt m p what c.take_next.new.stage (schedule w p) c.from_residual-in_err-take_next.result halt c.from_residual-in_err-take_next.ensures.1
    (schedule_halts w p c.loop-number.number q going.rest c.count-count.result is c.if-count-eq0.false c.loop-number-test.true halt
    (c.in_err-take_next.ensures.goes what q c.has_session.ensures going.stands going.words_are is))

pub loop-number-preserved : goal.loop-number-preserved
loop-number-preserved g c = λ what stands.
    let m = layers_by g.S.Service.stands g.S.Service.rules g.S.Service.shown g.E.Broadcast.stands g.E.Broadcast.rules g.E.Broadcast.shown in
    let p = c.args.plan.now in
    let w = world_in m p in
    let going = c.loop-number.invariant what stands in
    let q = going.picking in
    let is = counted w p q c.loop-number.picker c.has_session.ensures going.stands.picker_is c.count-count.result c.count-count.ensures in
    record {
      picking = pick w p c.loop-number.number q;
      stands = c.in_ok-take_next.ensures.goes what q c.has_session.ensures going.stands going.words_are is;
      words_are = c.in_ok-take_next.ensures.words what q c.has_session.ensures going.stands going.words_are is;
      rest = next_rest w p c.loop-number.number q going.rest c.count-count.result is c.if-count-eq0.false;
    }

pub returns : goal.returns
returns g c = λ what stands.
    let m = layers_by g.S.Service.stands g.S.Service.rules g.S.Service.shown g.E.Broadcast.stands g.E.Broadcast.rules g.E.Broadcast.shown in
    let p = c.args.plan.now in
    let w = world_in m p in
    let going = c.loop-number.invariant what stands in
    let at_end : c.loop-number.number ≤ 4000001 = c.loop-number.auto.number-end in
    subst (λ (steps : List Step). IsStage m p what c.loop-number.stage steps) (sym (none_left w p c.loop-number.number going.picking going.rest c.loop-number-test.false at_end)) going.stands.stage_is
