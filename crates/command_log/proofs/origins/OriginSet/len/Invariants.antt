use Rattle.std.proofs.Common.{◌≡◌, ◌≤◌, ◌*◌, sum_by, take}
use Rattle.ritas_base.specs.Members.{member_count}
use Rattle.command_log.proofs.origins.OriginSet.len.Given as goal

-- so far the sizes of the first sets are counted
abbrev pub invariant-loop-set : goal.invariant-loop-set
invariant-loop-set l = (l.count ≡ sum_by (member_count 32) (take l.set-index l.self.sets)) × (l.count ≤ 255 * l.set-index)
