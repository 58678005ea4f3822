use Rattle.std.proofs.Common.{◌≡◌, ℕ, ◌+◌, None, slice_index_or}
use Rattle.std.specs.Prelude.{◌&&◌, nat_le, nat_lt, if◌then◌else◌}
use Rattle.observer.proofs.taking.clear.Given as goal

abbrev pub invariant-loop-k : goal.invariant-loop-k
invariant-loop-k l = (i : ℕ) → slice_index_or l.places i None ≡ (if nat_le l.first i && nat_lt i (l.first + l.k) then None else slice_index_or l.initial.places i None)
