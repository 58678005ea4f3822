use Rattle.std.proofs.Common.{◌≡◌, ◌++◌, map, filter, take}
use Rattle.schedule_plan.specs.Plans.{are_linked}
use Rattle.schedule_drive.specs.Runs.{first_frames}
use Rattle.schedule_drive.proofs.runs.add_frames.Given as goal

abbrev pub invariant-loop-x : goal.invariant-loop-x
invariant-loop-x l =
    l.out.items ≡ l.initial.out.items ++ map (first_frames l.y) (filter (λ x. are_linked l.plan x l.y) (take l.x-index l.all))
