use Rattle.std.proofs.Common.{sym, ◌∙◌, ap, arith, length, refl}
use Rattle.std.specs.Map.{values_of}
use Rattle.link_resume.specs.Lists.{between, batch_behind}
use Rattle.link_resume.proofs.Batches.{next_other, next_full, next_given}
use Rattle.link_resume.proofs.batch.Batch.next_frame.Goals as goal

pub loop-kept-init : goal.loop-kept-init
loop-kept-init c = refl

pub returns-then-not-joins_batch : goal.returns-then-not-joins_batch
returns-then-not-joins_batch c =
    let b = c.loop-kept.self-inside in
    sym c.self.view_is ∙ (sym c.loop-kept.invariant
    ∙ next_full b.most b.given b.after b.last c.len-size.result _ c.next.new.self b.kept c.in-Some.ensures.steps
    (sym c.is_between.ensures ∙ c.if-is_between.true) c.len-size.ensures.is (sym c.joins_batch.ensures ∙ c.if-not-joins_batch.true))

pub returns-then-is_between : goal.returns-then-is_between
returns-then-is_between c =
    let b = c.loop-kept.self-inside in
    sym c.self.view_is ∙ (sym c.loop-kept.invariant
    ∙ next_given b.most b.given b.after b.last c.len-size.result c.bytes_with.result _ c.next.new.self b.kept c.in-Some.ensures.steps
    (sym c.is_between.ensures ∙ c.if-is_between.true) c.len-size.ensures.is (sym c.joins_batch.ensures ∙ c.if-not-joins_batch.false) c.bytes_with.ensures)

pub loop-kept-smaller : goal.loop-kept-smaller
loop-kept-smaller c = omega (arith, ap length c.in-Some.ensures.steps)

pub loop-kept-preserved : goal.loop-kept-preserved
loop-kept-preserved c =
    let b = c.loop-kept.self-inside in
    next_other b.most b.given b.after b.last _ c.next.new.self b.kept c.in-Some.ensures.steps (sym c.is_between.ensures ∙ c.if-is_between.false)
    ∙ c.loop-kept.invariant

pub returns : goal.returns
returns c =
    let b = c.loop-kept.self-inside in
    sym c.self.view_is ∙ (sym c.loop-kept.invariant ∙ ap (λ l. batch_behind b.most b.given (between b.after b.last (values_of l))) c.in_default.ensures.steps.0)
