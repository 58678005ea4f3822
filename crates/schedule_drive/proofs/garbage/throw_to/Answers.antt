use Rattle.std.proofs.Common.{◌+◌, ℕ, List, [], ◌∷◌, sym, ◌∙◌, ap}
use Rattle.std.proofs.lemmas.Result.{err_from_is_err_and}
use Rattle.schedule_replay.specs.Layers.{layers_by}
use Rattle.world_model.specs.Players.{Throw}
use Rattle.schedule_plan.specs.Garbage.{throws_to}
use Rattle.schedule_drive.proofs.Toward.{up_to, none_up, all_up, sets_out, arrives, comes_nearer, halts_on_way}
use Rattle.schedule_drive.proofs.Throwing.{to_next, to_words}
use Rattle.schedule_drive.proofs.garbage.throw_to.Goals as goal

pub loop-to-init : goal.loop-to-init
loop-to-init g c =
    let m = layers_by g.S.Service.stands g.S.Service.rules g.S.Service.shown g.E.Broadcast.stands g.E.Broadcast.rules g.E.Broadcast.shown in
    let p = c.args.plan.now in (
      ap (λ (js : List ℕ). (throws_to c.args.from js c.args.words.now).1) (all_up c.args.correct),
      λ what steps stands faulty correct. sets_out m p what c.args.stage.now _ _ steps (ap (λ (js : List ℕ). (throws_to c.args.from js c.args.words.now).0) (all_up c.args.correct)) stands,
    )

pub loop-to-preserved : goal.loop-to-preserved
loop-to-preserved g c =
    let m = layers_by g.S.Service.stands g.S.Service.rules g.S.Service.shown g.E.Broadcast.stands g.E.Broadcast.rules g.E.Broadcast.shown in
    let p = c.args.plan.now in
    let i = c.args.from in
    let k = c.loop-to.to in
    let n = c.args.correct in
    let below = c.loop-to-test.true in (
      sym (to_words i k n c.loop-to.words c.filler-rest.new.words below c.filler-rest.ensures.words) ∙ c.loop-to.invariant.0,
      λ what steps stands faulty correct.
          let toward = c.loop-to.invariant.1 what steps stands faulty correct in
          comes_nearer m p what c.loop-to.stage _ (Throw i k c.filler-rest.result ∷ []) _ _ _
          (to_next i k n c.loop-to.words c.filler-rest.new.words c.filler-rest.result below c.filler-rest.ensures.text c.filler-rest.ensures.words) toward
          (c.in_ok-throw.ensures what toward.steps toward.stands faulty (correct k below)),
    )

pub returns-in_err-throw-clause-stage : goal.returns-in_err-throw-clause-stage
returns-in_err-throw-clause-stage g c = λ what steps stands faulty correct.
    let m = layers_by g.S.Service.stands g.S.Service.rules g.S.Service.shown g.E.Broadcast.stands g.E.Broadcast.rules g.E.Broadcast.shown in
    let p = c.args.plan.now in
    let toward = c.loop-to.invariant.1 what steps stands faulty correct in
    let i = c.args.from in
    let k = c.loop-to.to in
    let n = c.args.correct in
    let below = c.loop-to-test.true in
    let q = err_from_is_err_and c.from_residual.result c.from_residual.ensures.1 in
    rw (q.1, q.2) (halts_on_way m p what c.loop-to.stage (Throw i k c.filler-rest.result ∷ []) (throws_to i (up_to (k + 1) n) c.filler-rest.new.words).0 _ _ _
    (to_next i k n c.loop-to.words c.filler-rest.new.words c.filler-rest.result below c.filler-rest.ensures.text c.filler-rest.ensures.words) toward
    (c.in_err-throw.ensures what toward.steps toward.stands faulty (correct k below)))

pub returns-clause-words : goal.returns-clause-words
returns-clause-words g c = sym (ap (λ (js : List ℕ). (throws_to c.args.from js c.loop-to.words).1) (none_up c.loop-to.to c.args.correct c.loop-to-test.false)) ∙ c.loop-to.invariant.0

pub returns-clause-stage : goal.returns-clause-stage
returns-clause-stage g c = λ what steps stands faulty correct.
    let m = layers_by g.S.Service.stands g.S.Service.rules g.S.Service.shown g.E.Broadcast.stands g.E.Broadcast.rules g.E.Broadcast.shown in
    let p = c.args.plan.now in
    arrives m p what c.loop-to.stage _ _ (ap (λ (js : List ℕ). (throws_to c.args.from js c.loop-to.words).0) (none_up c.loop-to.to c.args.correct c.loop-to-test.false))
    (c.loop-to.invariant.1 what steps stands faulty correct)
