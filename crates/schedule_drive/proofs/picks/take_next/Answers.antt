use Rattle.std.proofs.Common.{◌≡◌, Option, sym, ◌∙◌, ap, subst}
use Rattle.std.specs.Prelude.{OnOk}
use Rattle.rand_pcg.specs.Pcg.{pcg32}
use Rattle.schedule_replay.specs.Layers.{layers_by}
use Rattle.schedule_plan.specs.Picks as picks
use Rattle.schedule_plan.specs.Picks.{choice_taken, pick}
use Rattle.schedule_plan.proofs.Planned.{is_planned, garbled_steps}
use Rattle.schedule_stage.specs.Worlds.{world_in}
use Rattle.schedule_drive.specs.Pickers.{PickingStands, Goes}
use Rattle.schedule_drive.proofs.Picking.{pick_halts, before_pick, one_there, drawn_of}
use Rattle.schedule_drive.proofs.Taking.{goes_halt}
use Rattle.schedule_drive.proofs.picks.take_next.Goals as goal

pub returns-in_err-throw_before-clause-goes : goal.returns-in_err-throw_before-clause-goes
returns-in_err-throw_before-clause-goes g c = λ what q session stands words count.
    let m = layers_by g.S.Service.stands g.S.Service.rules g.S.Service.shown g.E.Broadcast.stands g.E.Broadcast.rules g.E.Broadcast.shown in
    let p = c.args.plan.now in
    let w = world_in m p in
    let halt = c.in_err-throw_before.field-0.0 in
    goes_halt m p what c.throw_before.new.stage c.args.picker.now (pick w p c.args.number q) c.from_residual.result halt c.from_residual.ensures.1
    (pick_halts w p c.args.number q halt (c.in_err-throw_before.ensures.stage what q words stands.stage_is))

pub returns-in_default-clause-words : goal.returns-in_default-clause-words
returns-in_default-clause-words g c = λ what q session stands words count.
    let m = layers_by g.S.Service.stands g.S.Service.rules g.S.Service.shown g.E.Broadcast.stands g.E.Broadcast.rules g.E.Broadcast.shown in
    let p = c.args.plan.now in
    absurd (one_there (world_in m p) p q c.args.picker.now stands.picker_is c.next_word-word.result c.args.count c.requires count c.in_default.ensures)

pub returns-in_default-clause-goes : goal.returns-in_default-clause-goes
returns-in_default-clause-goes g c = λ what q session stands words count.
    let m = layers_by g.S.Service.stands g.S.Service.rules g.S.Service.shown g.E.Broadcast.stands g.E.Broadcast.rules g.E.Broadcast.shown in
    let p = c.args.plan.now in
    absurd (one_there (world_in m p) p q c.args.picker.now stands.picker_is c.next_word-word.result c.args.count c.requires count c.in_default.ensures)

pub returns-clause-words : goal.returns-clause-words
returns-clause-words g c = λ what q session stands words count.
    let m = layers_by g.S.Service.stands g.S.Service.rules g.S.Service.shown g.E.Broadcast.stands g.E.Broadcast.rules g.E.Broadcast.shown in
    let p = c.args.plan.now in
    let w = world_in m p in
    let drawn = c.next_word-word.ensures ∙ ap pcg32 (c.in_ok-throw_before.ensures.words q words) in
    let before = before_pick p c.args.number q in
    let is = drawn_of w p c.args.number q c.args.picker.now stands.picker_is c.next_word-word.result c.args.count c.in-Some.choice (ap (λ r. r.0) drawn) count c.in-Some.ensures in
    subst (λ (o : Option picks.Choice). OnOk c.take.result (c.take.new.words ≡ (choice_taken w p before before.words o).words)) (sym is.there)
    (c.take.ensures.words w p before is.found is.is (ap (λ r. r.1) drawn))

pub returns-clause-goes : goal.returns-clause-goes
returns-clause-goes g c = λ what q session stands words count.
    let m = layers_by g.S.Service.stands g.S.Service.rules g.S.Service.shown g.E.Broadcast.stands g.E.Broadcast.rules g.E.Broadcast.shown in
    let p = c.args.plan.now in
    let w = world_in m p in
    let drawn = c.next_word-word.ensures ∙ ap pcg32 (c.in_ok-throw_before.ensures.words q words) in
    let before = before_pick p c.args.number q in
    let is = drawn_of w p c.args.number q c.args.picker.now stands.picker_is c.next_word-word.result c.args.count c.in-Some.choice (ap (λ r. r.0) drawn) count c.in-Some.ensures in
    let stage_is = c.in_ok-throw_before.ensures.stage what q words stands.stage_is in
    let stands_then : PickingStands m p what c.throw_before.new.stage c.look_again.new.picker before = record {
      stage_is = stage_is;
      picker_is = c.look_again.ensures what q session stage_is stands.picker_is;
      steps_are = garbled_steps w p (is_planned g.S.Service.rules g.E.Broadcast.rules p session) c.args.number q stands.steps_are;
    } in
    subst (λ (o : Option picks.Choice). Goes m p what c.take.new.stage c.take.new.self (choice_taken w p before before.words o) c.take.result) (sym is.there)
    (c.take.ensures.goes p what before is.found session stands_then is.is (ap (λ r. r.1) drawn))
