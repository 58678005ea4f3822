use Rattle.std.proofs.Common.{◌≡◌, ◌-◌, ◌++◌, length, true}
use Rattle.schedule_file.proofs.pieces.Pieces.gather.Given as goal

abbrev pub invariant-loop-self : goal.invariant-loop-self
invariant-loop-self g l = record {
  at : l.self.at ≡ l.initial.self.at;
  stands : g.S.Source.faults l.source ≡ g.S.Source.faults l.initial.source;
  same : g.S.Source.tells ≡ true → l.self.bytes ++ g.S.Source.left l.source ≡ l.initial.self.bytes ++ g.S.Source.left l.initial.source;
}

abbrev pub decreases-loop-self : goal.decreases-loop-self
decreases-loop-self g l = l.len - length l.self.bytes
