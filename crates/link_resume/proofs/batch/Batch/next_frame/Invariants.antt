use Rattle.std.proofs.Common.{◌≡◌, length}
use Rattle.std.specs.Map.{values_of}
use Rattle.link_resume.specs.Lists.{between, batch_behind}
use Rattle.link_resume.proofs.batch.Batch.next_frame.Given as goal

abbrev pub invariant-loop-kept : goal.invariant-loop-kept
invariant-loop-kept l =
    batch_behind l.self-inside.most l.self-inside.given (between l.self-inside.after l.self-inside.last (values_of l.self-inside.kept))
    ≡ batch_behind l.initial.self-inside.most l.initial.self-inside.given (between l.initial.self-inside.after l.initial.self-inside.last (values_of l.initial.self-inside.kept))

abbrev pub decreases-loop-kept : goal.decreases-loop-kept
decreases-loop-kept l = length l.self-inside.kept
