use Rattle.instance_tree.proofs.Rounds.{rounds_empty}
use Rattle.instance_tree.proofs.keys.Keys.new.Goals as goal

pub invariant_of-result : goal.invariant_of-result
invariant_of-result c = rounds_empty c.new.result c.new-2.result c.new.ensures c.new-2.ensures
