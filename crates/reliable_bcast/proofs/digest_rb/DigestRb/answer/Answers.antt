use Rattle.std.proofs.Common.{◌≡◌, arith}
use Rattle.reliable_bcast.proofs.DigestValues.{one_more, all_answered}
use Rattle.reliable_bcast.proofs.digest_rb.DigestRb.answer.Goals as goal

pub loop-k-preserved : goal.loop-k-preserved
loop-k-preserved c = (c.n-k-end.ensures.value, one_more _ c.loop-k.k c.args.out.now.items c.loop-k.out.items _ c.loop-k.invariant.1 c.in_ok-answer_one.ensures)

pub returns : goal.returns
returns c =
    let end = c.n-k-end.ensures.value in
    let low = c.loop-k-test.false in
    let high = c.loop-k.auto.k-end in
    let all : c.loop-k.k ≡ c.args.self.now.params.n = omega (arith, end, low, high) in
    all_answered c.args.self.now c.args.digest.now c.args.value.now c.voters-asked.result c.loop-k.k c.args.out.now.items c.loop-k.out.items all c.voters-asked.ensures.gave c.loop-k.invariant.1
