use Rattle.std.proofs.Common.{ℕ, length}
use Rattle.ooc_buffers.specs.Spots.{rest_from, AreAt}
use Rattle.ooc_buffers.proofs.FirstOnes.{IsReached}
use Rattle.ooc_buffers.proofs.firsts.firsts_of.Given as goal

abbrev pub invariant-loop-spot : goal.invariant-loop-spot
invariant-loop-spot l = (next : ℕ) → AreAt next l.items.entries → IsReached l.firsts l.from l.items.entries

abbrev pub decreases-loop-spot : goal.decreases-loop-spot
decreases-loop-spot l = length (rest_from l.from l.items.entries)
