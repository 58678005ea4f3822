use Rattle.std.proofs.Common.{◌++◌, List, Ok, Err, reverse, refl, ◌∙◌, ap, subst}
use Rattle.std.specs.List.{flat_map}
use Rattle.std.proofs.lemmas.List.{at_drop_all}
use Rattle.std.proofs.lemmas.Result.{err_from_is_err_and}
use Rattle.schedule_replay.specs.Layers.{layers_by}
use Rattle.world_model.specs.Players.{Step}
use Rattle.schedule_plan.specs.Inputs.{given_to}
use Rattle.schedule_plan.proofs.Planned.{is_planned}
use Rattle.schedule_stage.specs.Stage.{IsStage}
use Rattle.schedule_stage.specs.Worlds.{world_in, HaltsBy}
use Rattle.schedule_drive.proofs.Toward.{arrives}
use Rattle.schedule_drive.proofs.Giving.{face_given}
use Rattle.schedule_drive.proofs.inputs.give_faces.Goals as goal

pub loop-x-init : goal.loop-x-init
loop-x-init g c = λ what steps stands. record { steps = steps; stands = stands; whole = refl }

pub loop-x-preserved : goal.loop-x-preserved
loop-x-preserved g c = λ what steps stands.
    let m = layers_by g.S.Service.stands g.S.Service.rules g.S.Service.shown g.E.Broadcast.stands g.E.Broadcast.rules g.E.Broadcast.shown in
    let p = c.args.plan.now in
    let are = c.deref-x-items.ensures.value ∙ c.in_ok-all.ensures in
    face_given m p what (is_planned g.S.Service.rules g.E.Broadcast.rules p c.requires) c.loop-x.stage c.give_face.new.stage _ (Ok tt) c.deref-x-items.result.now c.loop-x.x-index are
    c.loop-x-test.true (c.loop-x.invariant what steps stands) (c.in_ok-give_face.ensures what)

pub returns-in_err-give_face : goal.returns-in_err-give_face
returns-in_err-give_face g c = λ what steps stands.
    let m = layers_by g.S.Service.stands g.S.Service.rules g.S.Service.shown g.E.Broadcast.stands g.E.Broadcast.rules g.E.Broadcast.shown in
    let p = c.args.plan.now in
    let are = c.deref-x-items.ensures.value ∙ c.in_ok-all.ensures in
    let q = err_from_is_err_and c.from_residual-in_err-give_face.result c.from_residual-in_err-give_face.ensures.1 in
    rw (q.1, q.2) (subst (λ (l : List Step). HaltsBy (world_in m p) p (reverse l ++ steps) c.in_err-give_face.field-0.0) (ap (flat_map (given_to p p.attack)) are)
    (face_given m p what (is_planned g.S.Service.rules g.E.Broadcast.rules p c.requires) c.loop-x.stage c.give_face.new.stage _ (Err c.in_err-give_face.field-0.0) c.deref-x-items.result.now
    c.loop-x.x-index are c.loop-x-test.true (c.loop-x.invariant what steps stands) (c.in_err-give_face.ensures what)))

pub returns : goal.returns
returns g c = λ what steps stands.
    let m = layers_by g.S.Service.stands g.S.Service.rules g.S.Service.shown g.E.Broadcast.stands g.E.Broadcast.rules g.E.Broadcast.shown in
    let p = c.args.plan.now in
    let f = given_to p p.attack in
    let all = c.deref-x-items.result.now in
    let are = c.deref-x-items.ensures.value ∙ c.in_ok-all.ensures in
    subst (λ (l : List Step). IsStage m p what c.loop-x.stage (reverse l ++ steps)) (ap (flat_map f) are)
    (arrives m p what c.loop-x.stage _ _ (at_drop_all (flat_map f) all c.loop-x.x-index c.loop-x-test.false) (c.loop-x.invariant what steps stands))
