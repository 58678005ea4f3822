use Rattle.std.proofs.Common.{◌≡◌, ℕ, not, ◌&&◌, nat_lt}
use Rattle.ritas_base.specs.Members.{has_member}
use Rattle.schedule_replay.proofs.first.others.Given as goal

-- those below k
abbrev pub invariant-loop-k : goal.invariant-loop-k
invariant-loop-k l = (j : ℕ) → has_member l.others j ≡ (nat_lt j l.k && not (has_member l.set j))
