-- The numbers of replicas, as members of a list.
use Rattle.std.specs.Prelude.{ℕ, zero, suc, ◌<◌, ◌≤◌, ◌+◌}
use Rattle.std.proofs.Common.{inl, inr, arith}
use Rattle.std.specs.List.{range_with_len}
use Rattle.std.proofs.lemmas.Bool.{cases_eq}
use Rattle.ritas_base.specs.History.{replicas}
use Rattle.layer_api.specs.Runs.{Has}

in_range : (from n k : ℕ) → from ≤ k → k < from + n → Has (range_with_len from n) k
in_range from zero k low high = absurd (omega (arith, low, high))
in_range from (suc n) k low high =
    elim (cases_eq from k) [
      | inl same ↦ inl same
      | inr other ↦ inr (in_range (from + 1) n k (omega (arith, low, other)) (omega (arith, high)))
    ]

pub has_replica : (n k : ℕ) → k < n → Has (replicas n) k
has_replica n k lt = in_range 0 n k (omega arith) (omega (arith, lt))

pub range_has : (from n k : ℕ) → Has (range_with_len from n) k → (from ≤ k) × (k < from + n)
range_has from zero k there = absurd there
range_has from (suc n) k (inl same) = (omega (arith, same), omega (arith, same))
range_has from (suc n) k (inr later) = let inside = range_has (from + 1) n k later in (omega (arith, inside.0), omega (arith, inside.1))

pub replica_below : (n k : ℕ) → Has (replicas n) k → k < n
replica_below n k there = let inside = (range_has 0 n k there).1 in omega (arith, inside)
