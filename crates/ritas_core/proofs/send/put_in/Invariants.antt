use Rattle.std.proofs.Common.{◌≡◌, ◌++◌, ◌≤◌, ◌-◌, take, drop, vec_len}
use Rattle.ritas_core.specs.Order.{inserted}
use Rattle.ritas_core.proofs.send.put_in.Given as goal

abbrev pub invariant-loop-at : goal.invariant-loop-at
invariant-loop-at l = record {
  within : l.at ≤ vec_len l.sorted;
  rest : inserted l.sorted.items l.m ≡ take l.at l.sorted.items ++ inserted (drop l.at l.sorted.items) l.m;
}

abbrev pub decreases-loop-at : goal.decreases-loop-at
decreases-loop-at l = vec_len l.sorted - l.at
