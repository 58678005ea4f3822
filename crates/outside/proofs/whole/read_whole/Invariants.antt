use Rattle.std.proofs.Common.{length, ◌+◌, ◌-◌, ◌≡◌, ◌≤◌, ◌++◌, true}
use Rattle.outside.proofs.whole.read_whole.Given as goal

abbrev pub invariant-loop-piece : goal.invariant-loop-piece
invariant-loop-piece g l = record {
  within : length l.bytes.items ≤ l.most + 1;
  stands : g.S.Source.faults l.source ≡ g.S.Source.faults l.initial.source;
  parts : g.S.Source.tells ≡ true → g.S.Source.left l.initial.source ≡ l.bytes.items ++ g.S.Source.left l.source;
}

abbrev pub decreases-loop-piece : goal.decreases-loop-piece
decreases-loop-piece g l = l.most + 1 - length l.bytes.items
