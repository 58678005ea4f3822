use Rattle.std.proofs.Common.{length}
use Rattle.link_resume.specs.Lists.{between, batch, kept_for}
use Rattle.link_resume.proofs.Batches.{IsGiven}
use Rattle.link_resume.proofs.resume.Resume.last_of_batch.Given as goal

abbrev pub invariant-loop-kept : goal.invariant-loop-kept
invariant-loop-kept l = IsGiven (batch l.most (between l.fn.after l.last (kept_for l.self.lists l.peer))) l.batch l.number

abbrev pub decreases-loop-kept : goal.decreases-loop-kept
decreases-loop-kept l = length l.batch
