use Rattle.std.proofs.Common.{arith}
use Rattle.replica.specs.Sending.{counts_with}
use Rattle.replica.proofs.Sends.{sends_more}
use Rattle.replica.proofs.sending.send.Goals as goal

pub loop-msg-preserved : goal.loop-msg-preserved
loop-msg-preserved c = λ count are.
    let was = c.loop-msg.invariant count are in
    sends_more _ count _ c.in-Some.msg _ _ _ _ _ was (c.in_ok-seal_each.ensures.made (counts_with count c.loop-msg.yielded) was.counts) c.raise.ensures (omega (arith, c.in_ok-seal_each.ensures.few))
