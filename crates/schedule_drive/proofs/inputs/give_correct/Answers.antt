use Rattle.std.proofs.Common.{◌++◌, List, reverse, sym, subst}
use Rattle.std.proofs.lemmas.Bool.{eq-eqb, ne_eqb}
use Rattle.schedule_replay.specs.Layers.{layers_by}
use Rattle.world_model.specs.Players.{Step}
use Rattle.schedule_stage.specs.Stage.{IsStage, Reaches}
use Rattle.schedule_drive.proofs.Giving.{commands_in, nothing_in, values_in}
use Rattle.schedule_drive.proofs.inputs.give_correct.Goals as goal

pub returns-then-takes_commands : goal.returns-then-takes_commands
returns-then-takes_commands g c = λ what steps stands.
    let m = layers_by g.S.Service.stands g.S.Service.rules g.S.Service.shown g.E.Broadcast.stands g.E.Broadcast.rules g.E.Broadcast.shown in
    let p = c.args.plan.now in
    subst (λ (l : List Step). Reaches m p what c.give_commands.new.stage (reverse l ++ steps) c.give_commands.result) (sym (commands_in p (sym c.if-takes_commands.ensures)))
    (c.give_commands.ensures what steps stands)

pub returns-then-plan-eq0 : goal.returns-then-plan-eq0
returns-then-plan-eq0 g c = λ what steps stands.
    let m = layers_by g.S.Service.stands g.S.Service.rules g.S.Service.shown g.E.Broadcast.stands g.E.Broadcast.rules g.E.Broadcast.shown in
    let p = c.args.plan.now in
    subst (λ (l : List Step). IsStage m p what c.args.stage.now (reverse l ++ steps)) (sym (nothing_in p (sym c.if-takes_commands.ensures) (eq-eqb p.commands 0 c.if-plan-eq0.true))) stands

pub returns : goal.returns
returns g c = λ what steps stands.
    let m = layers_by g.S.Service.stands g.S.Service.rules g.S.Service.shown g.E.Broadcast.stands g.E.Broadcast.rules g.E.Broadcast.shown in
    let p = c.args.plan.now in
    subst (λ (l : List Step). Reaches m p what c.give_values.new.stage (reverse l ++ steps) c.give_values.result)
    (sym (values_in p (sym c.if-takes_commands.ensures) (ne_eqb p.commands 0 c.if-plan-eq0.false))) (c.give_values.ensures what steps stands)
