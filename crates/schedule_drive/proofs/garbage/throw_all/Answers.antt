use Rattle.std.proofs.Common.{◌≡◌, ◌++◌, List, nat_lt, reverse, OnOk, sym, ◌∙◌, ap, subst}
use Rattle.rand_pcg.specs.Lcg.{Lcg}
use Rattle.schedule_replay.specs.Layers.{layers_by}
use Rattle.world_model.specs.Players.{Step}
use Rattle.schedule_plan.specs.Plans.{correct_of}
use Rattle.schedule_plan.proofs.Planned.{has_first, some_correct}
use Rattle.schedule_stage.specs.Stage.{Reaches}
use Rattle.schedule_drive.proofs.Throwing.{thrown_all}
use Rattle.schedule_drive.proofs.garbage.throw_all.Goals as goal

pub returns-in-Garbage-clause-words : goal.returns-in-Garbage-clause-words
returns-in-Garbage-clause-words g c =
    let p = c.args.plan.now in
    let same = thrown_all p p.attack c.args.words.now c.correct_of.result c.n.result c.in-Garbage.is (some_correct p c.n.ensures.session).1 c.correct_of.ensures.count c.n.ensures.value in
    subst (λ (t : List Step × Lcg). OnOk c.throw_by.result (c.throw_by.new.words ≡ t.1)) same c.throw_by.ensures.words

pub returns-in-Garbage-clause-stage : goal.returns-in-Garbage-clause-stage
returns-in-Garbage-clause-stage g c = λ what steps stands.
    let m = layers_by g.S.Service.stands g.S.Service.rules g.S.Service.shown g.E.Broadcast.stands g.E.Broadcast.rules g.E.Broadcast.shown in
    let p = c.args.plan.now in
    let same = thrown_all p p.attack c.args.words.now c.correct_of.result c.n.result c.in-Garbage.is (some_correct p c.n.ensures.session).1 c.correct_of.ensures.count c.n.ensures.value in
    subst (λ (t : List Step × Lcg). Reaches m p what c.throw_by.new.stage (reverse t.0 ++ steps) c.throw_by.result) same
    (c.throw_by.ensures.stage what steps stands (λ i. has_first (correct_of p) i ∙ ap (nat_lt i) (sym c.correct_of.ensures.count)))
