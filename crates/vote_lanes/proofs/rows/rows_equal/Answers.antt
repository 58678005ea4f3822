use Rattle.std.proofs.Common.{◌≡◌, ◌+◌, ◌<◌, true, false, sym, ◌∙◌, subst, arith, length, ℕ}
use Rattle.vote_lanes.specs.Plain.{is_equal_row}
use Rattle.vote_lanes.proofs.Masks.{IsMaskBefore, mask_with, mask_without}
use Rattle.vote_lanes.proofs.rows.rows_equal.Goals as goal
use Rattle.vote_lanes.proofs.rows.rows_equal.Goals.{then-is_named_and_same, else-is_named_and_same}

pub loop-i-preserved : goal.loop-i-preserved
loop-i-preserved c =
    let passes = is_equal_row c.args.rows.now c.args.mask c.args.d.now in
    let next : ℕ → Type 0 = λ m. IsMaskBefore passes (c.loop-i.i + 1) m in
    elim c.if-is_named_and_same.branch [
      | then-is_named_and_same w ↦
          subst next (sym w.equal-is)
          (mask_with passes c.loop-i.i c.loop-i.equal (omega arith) (sym c.is_named_and_same.ensures ∙ w.if-is_named_and_same.true) c.loop-i.invariant)
      | else-is_named_and_same w ↦
          subst next (sym w.equal-is)
          (mask_without passes c.loop-i.i c.loop-i.equal (sym c.is_named_and_same.ensures ∙ w.if-is_named_and_same.false) c.loop-i.invariant)
    ]
