use Rattle.std.proofs.Common.{◌++◌, [], ◌∷◌, ℕ, List, reverse, sym, ◌∙◌, ap₂, subst}
use Rattle.schedule_replay.specs.Layers.{layers_by}
use Rattle.world_model.specs.declared.player.Player.{Player}
use Rattle.world_model.specs.Players.{Step, Give, IsPlayer}
use Rattle.schedule_plan.specs.Plans.{cast_of}
use Rattle.schedule_plan.specs.Inputs.{given_to}
use Rattle.schedule_stage.specs.Stage.{Reaches}
use Rattle.schedule_stage.specs.Worlds.{world_in}
use Rattle.schedule_drive.proofs.inputs.give_face.Goals as goal

pub returns-in-Flip-Face : goal.returns-in-Flip-Face
returns-in-Flip-Face g c = λ what steps stands player.
    let m = layers_by g.S.Service.stands g.S.Service.rules g.S.Service.shown g.E.Broadcast.stands g.E.Broadcast.rules g.E.Broadcast.shown in
    let p = c.args.plan.now in
    let face = subst (IsPlayer (world_in m p) (cast_of p.attack)) c.in-Flip-Face.is-1 player in
    subst (λ (l : List Step). Reaches m p what c.give_flipped.new.stage (reverse l ++ steps) c.give_flipped.result) (sym (ap₂ (given_to p) c.in-Flip-Face.is-0 c.in-Flip-Face.is-1))
    (c.give_flipped.ensures what steps stands face)

pub returns-in_ok-text-in-TwoFace-Face : goal.returns-in_ok-text-in-TwoFace-Face
returns-in_ok-text-in-TwoFace-Face g c = λ what steps stands player.
    let m = layers_by g.S.Service.stands g.S.Service.rules g.S.Service.shown g.E.Broadcast.stands g.E.Broadcast.rules g.E.Broadcast.shown in
    let p = c.args.plan.now in
    let one = ap₂ (λ (x : Player) (t : List ℕ). Give x t ∷ []) c.in-TwoFace-Face.is-1 c.in_ok-text-in-TwoFace-Face.ensures.text
    ∙ sym (ap₂ (given_to p) c.in-TwoFace-Face.is-0 c.in-TwoFace-Face.is-1) in
    subst (λ (l : List Step). Reaches m p what c.give.new.self (reverse l ++ steps) c.give.result) one (c.give.ensures p what steps stands player)
