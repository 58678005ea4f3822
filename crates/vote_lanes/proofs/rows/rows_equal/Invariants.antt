use Rattle.vote_lanes.specs.Plain.{is_equal_row}
use Rattle.vote_lanes.proofs.Masks.{IsMaskBefore}
use Rattle.vote_lanes.proofs.rows.rows_equal.Given as goal

abbrev pub invariant-loop-i : goal.invariant-loop-i
invariant-loop-i l = IsMaskBefore (is_equal_row l.rows l.mask l.d) l.i l.equal
