use Rattle.instance_tree.proofs.Joined.{placed_empty}
use Rattle.instance_tree.proofs.Owned.{origin_of}
use Rattle.instance_tree.proofs.origins.Origins.new.Goals as goal

pub invariant_of-result : goal.invariant_of-result
invariant_of-result c = placed_empty origin_of c.new.result.items c.new.ensures.items
