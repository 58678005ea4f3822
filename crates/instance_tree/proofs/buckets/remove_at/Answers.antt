use Rattle.std.proofs.Common.{arith}
use Rattle.instance_tree.proofs.Joined.{removed_past}
use Rattle.instance_tree.proofs.buckets.remove_at.Goals as goal

pub returns-else-place-len : goal.returns-else-place-len
returns-else-place-len c = removed_past c.args.buckets.now.items c.args.place c.args.slot.now (omega arith)
