use Rattle.instance_tree.proofs.Walk.{ring_empty}
use Rattle.instance_tree.proofs.ring.Ring.new.Goals as goal

pub invariant_of-result : goal.invariant_of-result
invariant_of-result c = ring_empty c.args.width _ c.new.result.items c.requires c.new.ensures.items
