use Rattle.std.proofs.Common.{◌≡◌, ℕ, get_or}
use Rattle.std.specs.Prelude.{◌&&◌, nat_lt, is_some, None}
use Rattle.ritas_base.specs.Members.{has_member}
use Rattle.echo_bcast.proofs.columns.senders_of.Given as goal

abbrev pub invariant-loop-k : goal.invariant-loop-k
invariant-loop-k l = (k : ℕ) → has_member l.senders k ≡ (nat_lt k l.k && is_some (get_or l.hashes k None))
