use Rattle.std.proofs.Common.{◌-◌}
use Rattle.ordered_rounds.proofs.BackingSteps.{IsNoting}
use Rattle.ordered_rounds.proofs.backing.note_lists.Given as goal
use Rattle.frame_codec.specs.Values.{vector_entries}

abbrev pub invariant-loop-k : goal.invariant-loop-k
invariant-loop-k l = IsNoting l.noted l.k (l.count - l.k) l.rest (vector_entries l.vector)
