use Rattle.std.proofs.Common.{◌≡◌, []}
use Rattle.ritas_core.specs.Order.{ordered_onto}
use Rattle.ritas_core.proofs.send.in_order.Given as goal

abbrev pub invariant-loop-m : goal.invariant-loop-m
invariant-loop-m l = l.sorted.items ≡ ordered_onto [] l.yielded
