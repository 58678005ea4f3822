use Rattle.std.proofs.Common.{◌≡◌, length}
use Rattle.binary_consensus.specs.Counts.{heards, IsLineBut}
use Rattle.binary_consensus.proofs.line.settle.Given as goal

abbrev pub invariant-loop-t : goal.invariant-loop-t
invariant-loop-t l = record {
  line : IsLineBut l.p l.t l.steps;
  same : heards l.steps ≡ heards l.initial.steps;
  size : length l.steps ≡ l.t-end;
}
