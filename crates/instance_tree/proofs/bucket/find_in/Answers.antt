use Rattle.std.proofs.Common.{sym, ◌∙◌}
use Rattle.instance_tree.proofs.Spots.{found_here, found_later, found_nowhere}
use Rattle.instance_tree.proofs.bucket.find_in.Goals as goal

pub returns-then-is_same : goal.returns-then-is_same
returns-then-is_same c =
    found_here c.args.spots.now c.loop-spot.spot-index _ c.args.slot.now c.loop-spot-test.true (sym c.is_same.ensures ∙ c.if-is_same.true) c.loop-spot.invariant

pub loop-spot-preserved : goal.loop-spot-preserved
loop-spot-preserved c =
    found_later c.args.spots.now c.loop-spot.spot-index _ c.args.slot.now c.loop-spot-test.true (sym c.is_same.ensures ∙ c.if-is_same.false) c.loop-spot.invariant

pub returns : goal.returns
returns c = found_nowhere c.args.spots.now c.loop-spot.spot-index c.args.slot.now c.loop-spot-test.false c.loop-spot.invariant
