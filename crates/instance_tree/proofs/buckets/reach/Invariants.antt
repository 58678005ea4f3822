use Rattle.std.proofs.Common.{◌+◌, ◌-◌, length}
use Rattle.instance_tree.specs.Places.{AreSame}
use Rattle.instance_tree.proofs.buckets.reach.Given as goal

abbrev pub invariant-loop-alloc : goal.invariant-loop-alloc
invariant-loop-alloc l = AreSame l.fn.buckets.items l.buckets.items

abbrev pub decreases-loop-alloc : goal.decreases-loop-alloc
decreases-loop-alloc l = (l.place + 1) - length l.buckets.items
