use Rattle.std.proofs.Common.{◌+◌, ℕ, List, refl, sym, ◌∙◌, ap}
use Rattle.std.proofs.lemmas.Bool.{le-ltb, lt-ltb}
use Rattle.std.proofs.lemmas.Result.{err_from_is_err_and}
use Rattle.ritas_base.specs.History.{replicas}
use Rattle.schedule_replay.specs.Layers.{layers_by}
use Rattle.schedule_plan.specs.Garbage.{throws_to, throws_by}
use Rattle.schedule_drive.proofs.Toward.{up_to, none_up, sets_out, arrives, comes_nearer, halts_on_way}
use Rattle.schedule_drive.proofs.Throwing.{by_next, by_words}
use Rattle.schedule_drive.proofs.garbage.throw_by.Goals as goal

pub loop-from-init : goal.loop-from-init
loop-from-init g c =
    let m = layers_by g.S.Service.stands g.S.Service.rules g.S.Service.shown g.E.Broadcast.stands g.E.Broadcast.rules g.E.Broadcast.shown in
    let p = c.args.plan.now in
    (refl, λ what steps stands first. sets_out m p what c.args.stage.now _ _ steps refl stands)

pub loop-from-preserved : goal.loop-from-preserved
loop-from-preserved g c =
    let m = layers_by g.S.Service.stands g.S.Service.rules g.S.Service.shown g.E.Broadcast.stands g.E.Broadcast.rules g.E.Broadcast.shown in
    let p = c.args.plan.now in
    let js = replicas c.args.correct in
    let k = c.loop-from.from in
    let n = c.args.n in
    let below = c.loop-from-test.true in (
      sym (by_words js k n c.loop-from.words c.throw_to.new.words below c.in_ok-throw_to.ensures.words) ∙ c.loop-from.invariant.0,
      λ what steps stands first.
          let toward = c.loop-from.invariant.1 what steps stands first in
          comes_nearer m p what c.loop-from.stage _ (throws_to k js c.loop-from.words).0 _ _ _
          (by_next js k n c.loop-from.words c.throw_to.new.words below c.in_ok-throw_to.ensures.words) toward
          (c.in_ok-throw_to.ensures.stage what toward.steps toward.stands (first k ∙ le-ltb k c.args.correct c.loop-from.auto.from) (λ to lt. first to ∙ lt-ltb to c.args.correct lt)),
    )

pub returns-in_err-throw_to-clause-stage : goal.returns-in_err-throw_to-clause-stage
returns-in_err-throw_to-clause-stage g c = λ what steps stands first.
    let m = layers_by g.S.Service.stands g.S.Service.rules g.S.Service.shown g.E.Broadcast.stands g.E.Broadcast.rules g.E.Broadcast.shown in
    let p = c.args.plan.now in
    let js = replicas c.args.correct in
    let k = c.loop-from.from in
    let n = c.args.n in
    let below = c.loop-from-test.true in
    let toward = c.loop-from.invariant.1 what steps stands first in
    let q = err_from_is_err_and c.from_residual.result c.from_residual.ensures.1 in
    rw (q.1, q.2) (halts_on_way m p what c.loop-from.stage (throws_to k js c.loop-from.words).0 (throws_by (up_to (k + 1) n) js (throws_to k js c.loop-from.words).1).0 _ _ _
    (by_next js k n c.loop-from.words (throws_to k js c.loop-from.words).1 below refl) toward
    (c.in_err-throw_to.ensures.stage what toward.steps toward.stands (first k ∙ le-ltb k c.args.correct c.loop-from.auto.from) (λ to lt. first to ∙ lt-ltb to c.args.correct lt)))

pub returns-clause-words : goal.returns-clause-words
returns-clause-words g c =
    sym (ap (λ (is : List ℕ). (throws_by is (replicas c.args.correct) c.loop-from.words).1) (none_up c.loop-from.from c.args.n c.loop-from-test.false)) ∙ c.loop-from.invariant.0

pub returns-clause-stage : goal.returns-clause-stage
returns-clause-stage g c = λ what steps stands first.
    let m = layers_by g.S.Service.stands g.S.Service.rules g.S.Service.shown g.E.Broadcast.stands g.E.Broadcast.rules g.E.Broadcast.shown in
    let p = c.args.plan.now in
    arrives m p what c.loop-from.stage _ _ (ap (λ (is : List ℕ). (throws_by is (replicas c.args.correct) c.loop-from.words).0) (none_up c.loop-from.from c.args.n c.loop-from-test.false))
    (c.loop-from.invariant.1 what steps stands first)
