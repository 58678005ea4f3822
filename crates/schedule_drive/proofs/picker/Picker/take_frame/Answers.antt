use Rattle.std.proofs.Common.{◌≡◌, ℕ, ◌∷◌, None, refl, subst}
use Rattle.rand_pcg.specs.Pcg.{pcg32}
use Rattle.schedule_replay.specs.Layers.{layers_by}
use Rattle.world_model.specs.Players.{Step, Carry, AreSteps}
use Rattle.schedule_plan.specs.Plans.{cast_of}
use Rattle.schedule_plan.specs.Picks.{frame_carried}
use Rattle.schedule_plan.proofs.Planned.{is_planned}
use Rattle.schedule_stage.specs.Stage.{IsStage}
use Rattle.schedule_stage.specs.Worlds.{world_in, HaltsBy}
use Rattle.schedule_drive.specs.Pickers.{counts_in, waits_in, passed_after, IsSent, PickingStands}
use Rattle.schedule_drive.proofs.Taking.{drawn, sent_between, between_them, goes_halt, none_carried, one_carried, carried_halts}
use Rattle.schedule_drive.proofs.picker.Picker.take_frame.Goals as goal

pub returns-in_default : goal.returns-in_default
returns-in_default g c = λ p what q x y session stands there linked word.
    let m = layers_by g.S.Service.stands g.S.Service.rules g.S.Service.shown g.E.Broadcast.stands g.E.Broadcast.rules g.E.Broadcast.shown in
    let w = world_in m p in
    let number = drawn w p q x y in
    let picked = c.in_ok-sent.ensures p (waits_in w p q.steps) (counts_in w p q.steps) q.passed x y stands.picker_is there linked in
    let none : number c.args.word ≡ None = subst (IsSent p x y (number c.args.word)) c.in_default.is picked.0 in
    subst (λ (u : ℕ). PickingStands m p what c.args.stage.now c.pick.new.self (frame_carried q (pcg32 q.words).1 u x y (number u))) word
    (none_carried m p what c.args.stage.now c.pick.new.self q (pcg32 q.words).1 c.args.word x y (number c.args.word) none stands.stage_is picked.1 stands.steps_are)

pub returns-in_err-carry : goal.returns-in_err-carry
returns-in_err-carry g c = λ p what q x y session stands there linked word.
    let m = layers_by g.S.Service.stands g.S.Service.rules g.S.Service.shown g.E.Broadcast.stands g.E.Broadcast.rules g.E.Broadcast.shown in
    let w = world_in m p in
    let number = drawn w p q x y in
    let picked = c.in_ok-sent.ensures p (waits_in w p q.steps) (counts_in w p q.steps) q.passed x y stands.picker_is there linked in
    let sent = c.in-Some.sent in
    let planned = is_planned g.S.Service.rules g.E.Broadcast.rules p session in
    let between = sent_between w p planned x y (number c.args.word) sent _ c.in-Some.is picked.0 c.args.from c.args.to there linked in
    let halt = c.in_err-carry.field-0.0 in
    let halts = between_them w p x y (number c.args.word) sent between (λ (s : Step). HaltsBy w p (s ∷ q.steps) halt) (c.in_err-carry.ensures p what q.steps stands.stage_is) in
    goes_halt m p what c.carry.new.self _ _ c.from_residual-in_err-carry.result halt c.from_residual-in_err-carry.ensures.1
    (subst (λ (u : ℕ). HaltsBy w p (frame_carried q (pcg32 q.words).1 u x y (number u)).steps halt) word
    (carried_halts w p q (pcg32 q.words).1 c.args.word x y (number c.args.word) sent.number halt between.is.0 halts))

pub returns : goal.returns
returns g c = λ p what q x y session stands there linked word.
    let m = layers_by g.S.Service.stands g.S.Service.rules g.S.Service.shown g.E.Broadcast.stands g.E.Broadcast.rules g.E.Broadcast.shown in
    let w = world_in m p in
    let number = drawn w p q x y in
    let picked = c.in_ok-sent.ensures p (waits_in w p q.steps) (counts_in w p q.steps) q.passed x y stands.picker_is there linked in
    let sent = c.in-Some.sent in
    let planned = is_planned g.S.Service.rules g.E.Broadcast.rules p session in
    let between = sent_between w p planned x y (number c.args.word) sent _ c.in-Some.is picked.0 c.args.from c.args.to there linked in
    let stage_is = between_them w p x y (number c.args.word) sent between (λ (s : Step). IsStage m p what c.carry.new.self (s ∷ q.steps)) (c.in_ok-carry.ensures p what q.steps stands.stage_is) in
    let passed = passed_after q.passed c.args.word x y (number c.args.word) in
    let are : AreSteps w (cast_of p.attack) (Carry x y sent.number ∷ q.steps) = ((between.apart.from, between.apart.to, between.apart.differ), stands.steps_are) in
    let picker_is = c.refresh_after.ensures p what q.steps (Carry x y sent.number) passed y stage_is session are picked.1 between.is.3 refl (c.frames-before.ensures p what q.steps stands.stage_is) in
    subst (λ (u : ℕ). PickingStands m p what c.carry.new.self c.refresh_after.new.self (frame_carried q (pcg32 q.words).1 u x y (number u))) word
    (one_carried m p what c.carry.new.self c.refresh_after.new.self q (pcg32 q.words).1 c.args.word x y (number c.args.word) sent.number between.is.0 stage_is picker_is are)
