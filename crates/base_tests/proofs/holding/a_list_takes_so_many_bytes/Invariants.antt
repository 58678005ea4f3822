use Rattle.std.proofs.Common.{◌≡◌, length}
use Rattle.base_tests.proofs.holding.a_list_takes_so_many_bytes.Given as goal

abbrev pub invariant-loop-from : goal.invariant-loop-from
invariant-loop-from g l = length l.held ≡ 3
