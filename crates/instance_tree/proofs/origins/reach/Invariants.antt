use Rattle.std.proofs.Common.{◌+◌, ◌-◌, length}
use Rattle.instance_tree.specs.Places.{AreSame}
use Rattle.instance_tree.proofs.origins.reach.Given as goal

abbrev pub invariant-loop-span : goal.invariant-loop-span
invariant-loop-span l = AreSame l.fn.origins.items l.origins.items

abbrev pub decreases-loop-span : goal.decreases-loop-span
decreases-loop-span l = (l.place + 1) - length l.origins.items
