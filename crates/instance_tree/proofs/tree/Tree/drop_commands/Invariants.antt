use Rattle.std.specs.FinMap.{len}
use Rattle.instance_tree.specs.SlotMaps.{is_command_below}
use Rattle.instance_tree.proofs.Tied.{IsDropping}
use Rattle.instance_tree.proofs.tree.Tree.drop_commands.Given as goal

abbrev pub invariant-loop-key : goal.invariant-loop-key
invariant-loop-key g l = IsDropping (is_command_below l.origin l.below) l.fn.self l.self-inside.keys l.self-inside.arena

abbrev pub decreases-loop-key : goal.decreases-loop-key
decreases-loop-key g l = len l.self-inside.keys
