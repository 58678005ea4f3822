use Rattle.std.specs.FinMap.{len}
use Rattle.instance_tree.specs.SlotMaps.{is_before_round}
use Rattle.instance_tree.proofs.Tied.{IsDropping}
use Rattle.instance_tree.proofs.tree.Tree.drop_before.Given as goal

abbrev pub invariant-loop-key : goal.invariant-loop-key
invariant-loop-key g l = IsDropping (is_before_round l.round) l.fn.self l.self-inside.keys l.self-inside.arena

abbrev pub decreases-loop-key : goal.decreases-loop-key
decreases-loop-key g l = len l.self-inside.keys
