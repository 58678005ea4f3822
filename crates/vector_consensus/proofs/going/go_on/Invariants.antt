use Rattle.std.proofs.Common.{◌-◌, length, List, suc}
use Rattle.layer_api.specs.Words.{Word}
use Rattle.layer_api.specs.Multi.{Desk}
use Rattle.vector_consensus.specs.Going.{KeepsAttempts, AreMidway}
use Rattle.vector_consensus.proofs.Beginning.{BegunTo}
use Rattle.vector_consensus.proofs.going.go_on.Given as goal

abbrev pub invariant-loop-alloc : goal.invariant-loop-alloc
invariant-loop-alloc g l =
    KeepsAttempts l.fn.tries.items l.tries.items
    × ((at : Desk) (w : List Word) (c : Word) → AreMidway g.M.MultiBox.stands g.M.MultiBox.rules at w c l.fn.part l.fn.own l.fn.table l.fn.tries.items
    → BegunTo g.M.MultiBox.stands g.M.MultiBox.rules at w c l.fn.tries.items l.tries.items l.fn.made.items l.made.items)

abbrev pub decreases-loop-alloc : goal.decreases-loop-alloc
decreases-loop-alloc g l = suc l.part.last - length l.tries.items
