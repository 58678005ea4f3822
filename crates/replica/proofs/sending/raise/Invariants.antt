use Rattle.std.proofs.Common.{◌≡◌, ℕ, ◌<◌, ◌≤◌, slice_index}
use Rattle.replica.specs.Sending.{raised_at}
use Rattle.replica.proofs.sending.raise.Given as goal

abbrev pub invariant-loop-j : goal.invariant-loop-j
invariant-loop-j l = record {
  below : (j : ℕ) → j < l.j → slice_index l.counts j ≡ raised_at l.to j (slice_index l.initial.counts j);
  above : (j : ℕ) → l.j ≤ j → slice_index l.counts j ≡ slice_index l.initial.counts j;
}
