use Rattle.std.proofs.Common.{◌≡◌, ◌-◌, ◌++◌, drop, length, replicate, take, Some, option_and_then}
use Rattle.cluster_config.specs.Values.{keys_in}
use Rattle.cluster_config.proofs.values.row_in.Given as goal

abbrev pub invariant-loop-k : goal.invariant-loop-k
invariant-loop-k l = record {
  keys : keys_in l.n l.text ≡ option_and_then (λ more. Some (take l.k l.row ++ more)) (keys_in (l.n - l.k) l.rest);
  places : length l.row ≡ 31;
  zeros : drop l.k l.row ≡ replicate (31 - l.k) (replicate 32 0);
}
