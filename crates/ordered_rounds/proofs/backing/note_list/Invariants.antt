use Rattle.std.proofs.Common.{drop}
use Rattle.frame_codec.specs.Values.{ids_of}
use Rattle.ordered_rounds.proofs.BackingSteps.{NotesRest}
use Rattle.ordered_rounds.proofs.backing.note_list.Given as goal

abbrev pub invariant-loop-at : goal.invariant-loop-at
invariant-loop-at l = NotesRest l.initial.noted l.noted (ids_of l.list) (drop l.at (ids_of l.list)) l.k
