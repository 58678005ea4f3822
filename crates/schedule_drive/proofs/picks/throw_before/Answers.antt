use Rattle.std.proofs.Common.{List, ◌++◌, reverse, sym, subst}
use Rattle.rand_pcg.specs.Lcg.{Lcg}
use Rattle.schedule_replay.specs.Layers.{layers_by}
use Rattle.world_model.specs.Players.{Step}
use Rattle.schedule_plan.specs.Garbage.{throws_of}
use Rattle.schedule_plan.specs.Picks.{garbled}
use Rattle.schedule_stage.specs.Stage.{IsStage}
use Rattle.schedule_stage.specs.Worlds.{world_in, HaltsBy}
use Rattle.schedule_drive.proofs.Picking.{reaches_halt, garbled_now, not_garbled}
use Rattle.schedule_drive.proofs.picks.throw_before.Goals as goal

pub returns-in_err-throw_all-clause-stage : goal.returns-in_err-throw_all-clause-stage
returns-in_err-throw_all-clause-stage g c = λ what q words stands.
    let m = layers_by g.S.Service.stands g.S.Service.rules g.S.Service.shown g.E.Broadcast.stands g.E.Broadcast.rules g.E.Broadcast.shown in
    let p = c.args.plan.now in
    let w = world_in m p in
    let halt = c.in_err-throw_all.field-0.0 in
    reaches_halt m p what c.throw_all.new.stage (garbled p c.args.number q).steps c.from_residual.result halt c.from_residual.ensures.1
    (subst (λ (steps : List Step). HaltsBy w p steps halt) (garbled_now p c.args.number q c.if-number-eq0.true)
    (subst (λ (l : Lcg). HaltsBy w p (reverse (throws_of p p.attack l).0 ++ q.steps) halt) words (c.in_err-throw_all.ensures.stage what q.steps stands)))

pub returns-in_ok-throw_all-clause-stage : goal.returns-in_ok-throw_all-clause-stage
returns-in_ok-throw_all-clause-stage g c = λ what q words stands.
    let m = layers_by g.S.Service.stands g.S.Service.rules g.S.Service.shown g.E.Broadcast.stands g.E.Broadcast.rules g.E.Broadcast.shown in
    let p = c.args.plan.now in
    subst (λ (steps : List Step). IsStage m p what c.throw_all.new.stage steps) (garbled_now p c.args.number q c.if-number-eq0.true)
    (subst (λ (l : Lcg). IsStage m p what c.throw_all.new.stage (reverse (throws_of p p.attack l).0 ++ q.steps)) words (c.in_ok-throw_all.ensures.stage what q.steps stands))

pub returns-else-number-eq0-clause-stage : goal.returns-else-number-eq0-clause-stage
returns-else-number-eq0-clause-stage g c = λ what q words stands.
    let m = layers_by g.S.Service.stands g.S.Service.rules g.S.Service.shown g.E.Broadcast.stands g.E.Broadcast.rules g.E.Broadcast.shown in
    let p = c.args.plan.now in
    subst (λ (steps : List Step). IsStage m p what c.args.stage.now steps) (sym (not_garbled p c.args.number q c.if-number-eq0.false)) stands
