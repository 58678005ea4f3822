use Rattle.std.proofs.Common.{refl, arith}
use Rattle.instance_tree.proofs.Joined.{nothing_past}
use Rattle.instance_tree.proofs.buckets.take_at.Goals as goal

pub returns-then-place-len-clause-takes : goal.returns-then-place-len-clause-takes
returns-then-place-len-clause-takes c = (refl, λ s _. nothing_past c.args.buckets.now.items c.args.place s (omega arith))
