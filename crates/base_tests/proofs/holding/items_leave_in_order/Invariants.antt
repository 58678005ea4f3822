use Rattle.std.proofs.Common.{◌≡◌, length}
use Rattle.base_tests.proofs.holding.items_leave_in_order.Given as goal

abbrev pub invariant-loop-from : goal.invariant-loop-from
invariant-loop-from g l = length l.held ≡ 3
