use Rattle.std.proofs.Common.{ℕ, ◌-◌, Bool}
use Rattle.schedule_drive.specs.Lanes.{IsLane}
use Rattle.schedule_drive.proofs.lane.Lane.fill.Given as goal

abbrev pub invariant-loop-self : goal.invariant-loop-self
invariant-loop-self l = (count : ℕ) (left : ℕ → Bool) → IsLane l.fn.self count left → IsLane l.self count left

abbrev pub decreases-loop-self : goal.decreases-loop-self
decreases-loop-self l = l.self.count - l.self.next
