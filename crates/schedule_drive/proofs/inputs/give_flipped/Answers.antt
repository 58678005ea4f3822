use Rattle.std.proofs.Common.{◌++◌, ◌%◌, ℕ, List, reverse, sym, ◌∙◌, ap, subst}
use Rattle.std.proofs.lemmas.Bool.{ne_eqb}
use Rattle.std.proofs.lemmas.Result.{err_from_is_err_and}
use Rattle.schedule_replay.specs.Layers.{layers_by}
use Rattle.world_model.specs.Players.{Step}
use Rattle.schedule_plan.specs.Inputs.{value_text}
use Rattle.schedule_stage.specs.Stage.{IsStage}
use Rattle.schedule_stage.specs.Worlds.{world_in, HaltsBy}
use Rattle.schedule_drive.proofs.Giving.{flipped_in}
use Rattle.schedule_drive.proofs.inputs.give_flipped.Goals as goal

pub returns : goal.returns
returns g c = λ what steps stands player.
    let m = layers_by g.S.Service.stands g.S.Service.rules g.S.Service.shown g.E.Broadcast.stands g.E.Broadcast.rules g.E.Broadcast.shown in
    let p = c.args.plan.now in
    let says = c.in_ok-text.ensures.text ∙ ap (λ (v : ℕ). value_text p.mode.root (v % p.commands)) c.from.ensures in
    let one = flipped_in p c.args.a c.in_ok-text.text (sym c.if-takes_commands.ensures) (ne_eqb p.commands 0 c.if-plan-eq0.false) says in
    subst (λ (l : List Step). IsStage m p what c.give.new.self (reverse l ++ steps)) one (c.in_ok-give.ensures p what steps stands player)

pub returns-in_err-give : goal.returns-in_err-give
returns-in_err-give g c = λ what steps stands player.
    let m = layers_by g.S.Service.stands g.S.Service.rules g.S.Service.shown g.E.Broadcast.stands g.E.Broadcast.rules g.E.Broadcast.shown in
    let p = c.args.plan.now in
    let says = c.in_ok-text.ensures.text ∙ ap (λ (v : ℕ). value_text p.mode.root (v % p.commands)) c.from.ensures in
    let one = flipped_in p c.args.a c.in_ok-text.text (sym c.if-takes_commands.ensures) (ne_eqb p.commands 0 c.if-plan-eq0.false) says in
    let q = err_from_is_err_and c.from_residual-in_err-give.result c.from_residual-in_err-give.ensures.1 in
    rw (q.1, q.2) (subst (λ (l : List Step). HaltsBy (world_in m p) p (reverse l ++ steps) c.in_err-give.field-0.0) one (c.in_err-give.ensures p what steps stands player))
