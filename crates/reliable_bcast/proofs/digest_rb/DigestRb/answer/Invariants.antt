use Rattle.std.proofs.Common.{◌≡◌, ◌++◌}
use Rattle.std.specs.List.{flat_map}
use Rattle.ritas_base.specs.History.{replicas}
use Rattle.reliable_bcast.specs.Digests.{to_one}
use Rattle.reliable_bcast.specs.DigestState.{answer_in}
use Rattle.reliable_bcast.proofs.digest_rb.DigestRb.answer.Given as goal

abbrev pub invariant-loop-k : goal.invariant-loop-k
invariant-loop-k l = (l.k-end ≡ l.self.params.n)
    × (l.out.items ≡ l.initial.out.items ++ flat_map (λ k. to_one l.self.slot k (answer_in l.self.me l.asked l.value k)) (replicas l.k))
