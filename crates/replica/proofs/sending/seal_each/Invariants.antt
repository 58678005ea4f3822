use Rattle.std.proofs.Common.{◌≡◌, ℕ, ◌++◌, map, filter, not, ◌==◌, ◌&&◌}
use Rattle.std.specs.List.{range_with_len}
use Rattle.ritas_base.specs.Messages.{reaches}
use Rattle.replica.specs.Frames.{frame_for}
use Rattle.replica.specs.Sending.{AreCounts}
use Rattle.replica.proofs.sending.seal_each.Given as goal

abbrev pub invariant-loop-j : goal.invariant-loop-j
invariant-loop-j l = (count : ℕ → ℕ) → AreCounts l.channel.n l.counts count →
    l.made.items ≡ l.initial.made.items ++ map (λ j. frame_for l.channel j (count j) l.fn.msg) (filter (λ j. reaches l.to j && not (j == l.channel.me)) (range_with_len 0 l.j))
