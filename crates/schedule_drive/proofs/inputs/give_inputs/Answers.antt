use Rattle.std.proofs.Common.{◌++◌, [], List, reverse, subst}
use Rattle.std.proofs.lemmas.Result.{err_from_is_err_and}
use Rattle.schedule_replay.specs.Layers.{layers_by}
use Rattle.world_model.specs.Players.{Step}
use Rattle.schedule_plan.specs.Inputs.{correct_inputs, face_inputs}
use Rattle.schedule_stage.specs.Stage.{IsStage}
use Rattle.schedule_stage.specs.Worlds.{world_in, HaltsBy}
use Rattle.schedule_drive.proofs.Toward.{halts_later}
use Rattle.schedule_drive.proofs.Giving.{all_given}
use Rattle.schedule_drive.proofs.inputs.give_inputs.Goals as goal

pub returns-in_err-give_correct : goal.returns-in_err-give_correct
returns-in_err-give_correct g c = λ what stands.
    let m = layers_by g.S.Service.stands g.S.Service.rules g.S.Service.shown g.E.Broadcast.stands g.E.Broadcast.rules g.E.Broadcast.shown in
    let p = c.args.plan.now in
    let q = err_from_is_err_and c.from_residual.result c.from_residual.ensures.1 in
    rw (q.1, q.2) (subst (λ (l : List Step). HaltsBy (world_in m p) p l c.in_err-give_correct.field-0.0) (all_given p)
    (halts_later (world_in m p) p (reverse (face_inputs p p.attack)) (reverse (correct_inputs p) ++ []) c.in_err-give_correct.field-0.0 (c.in_err-give_correct.ensures what [] stands)))

pub returns-in_err-give_faces : goal.returns-in_err-give_faces
returns-in_err-give_faces g c = λ what stands.
    let m = layers_by g.S.Service.stands g.S.Service.rules g.S.Service.shown g.E.Broadcast.stands g.E.Broadcast.rules g.E.Broadcast.shown in
    let p = c.args.plan.now in
    let q = err_from_is_err_and c.from_residual-in_err-give_faces.result c.from_residual-in_err-give_faces.ensures.1 in
    rw (q.1, q.2) (subst (λ (l : List Step). HaltsBy (world_in m p) p l c.in_err-give_faces.field-0.0) (all_given p)
    (c.in_err-give_faces.ensures what (reverse (correct_inputs p) ++ []) (c.in_ok-give_correct.ensures what [] stands)))

pub returns : goal.returns
returns g c = λ what stands.
    let m = layers_by g.S.Service.stands g.S.Service.rules g.S.Service.shown g.E.Broadcast.stands g.E.Broadcast.rules g.E.Broadcast.shown in
    let p = c.args.plan.now in
    subst (λ (l : List Step). IsStage m p what c.give_faces.new.stage l) (all_given p)
    (c.in_ok-give_faces.ensures what (reverse (correct_inputs p) ++ []) (c.in_ok-give_correct.ensures what [] stands))
