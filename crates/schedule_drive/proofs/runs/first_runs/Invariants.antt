use Rattle.std.proofs.Common.{◌≡◌, take}
use Rattle.std.specs.List.{flat_map}
use Rattle.schedule_plan.specs.Sweeps.{none_yet}
use Rattle.schedule_drive.specs.Runs.{runs_to, no_wait}
use Rattle.schedule_drive.proofs.runs.first_runs.Given as goal

abbrev pub invariant-loop-y : goal.invariant-loop-y
invariant-loop-y l = l.out.items ≡ flat_map (runs_to l.plan none_yet none_yet no_wait) (take l.y-index l.y-items)
