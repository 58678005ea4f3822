use Rattle.instance_tree.proofs.Tied.{empty_tied, empty_view}
use Rattle.instance_tree.proofs.tree.Tree.new.Goals as goal

pub invariant_of-result : goal.invariant_of-result
invariant_of-result g c = empty_tied c.new-2.result c.new.result c.new-2.ensures c.new.ensures.empty

pub returns : goal.returns
returns g c = empty_view c.new-2.result c.new.result c.new-2.ensures
