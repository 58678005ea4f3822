use Rattle.std.proofs.Common.{◌≡◌, ◌+◌, ◌∷◌, take}
use Rattle.record_file.proofs.reading.check_head.Given as goal

abbrev pub invariant-loop-i : goal.invariant-loop-i
invariant-loop-i l = take (l.i + 1) l.file ≡ take (l.i + 1) (1 ∷ l.head)
