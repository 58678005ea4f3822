use Rattle.std.proofs.Common.{ℕ}
use Rattle.replica.specs.Sending.{AreCounts, Sends}
use Rattle.replica.proofs.sending.send.Given as goal

abbrev pub invariant-loop-msg : goal.invariant-loop-msg
invariant-loop-msg l = (count : ℕ → ℕ) → AreCounts l.channel.n l.initial.counts count → Sends l.channel count l.yielded l.counts l.initial.made.items l.made.items
