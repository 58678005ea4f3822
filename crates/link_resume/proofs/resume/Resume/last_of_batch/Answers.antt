use Rattle.std.proofs.Common.{ap, length, arith}
use Rattle.link_resume.proofs.Batches.{none_given, one_given, all_given}
use Rattle.link_resume.proofs.resume.Resume.last_of_batch.Goals as goal

pub loop-kept-init : goal.loop-kept-init
loop-kept-init c = none_given _ _ c.batch-batch.ensures

pub loop-kept-preserved : goal.loop-kept-preserved
loop-kept-preserved c = one_given _ _ _ _ _ c.loop-kept.invariant c.in-Some.ensures

pub loop-kept-smaller : goal.loop-kept-smaller
loop-kept-smaller c = omega (arith, ap length c.in-Some.ensures)

pub returns : goal.returns
returns c = all_given _ _ _ c.loop-kept.invariant c.in_default.ensures
