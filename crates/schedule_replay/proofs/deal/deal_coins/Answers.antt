use Rattle.std.proofs.Common.{sym, ◌∙◌, arith}
use Rattle.std.proofs.lemmas.List.FromFn.{map-range_with_len_more}
use Rattle.schedule_replay.specs.Layers.{coin_to}
use Rattle.schedule_replay.proofs.deal.deal_coins.Goals as goal

pub loop-i-preserved : goal.loop-i-preserved
loop-i-preserved c =
    let more = map-range_with_len_more (coin_to c.args.header.now) 0 c.loop-i.i c.loop-i.i (omega arith) in
    c.in_ok-push.ensures.items ∙ rw (c.coin_of.ensures, c.loop-i.invariant) (sym more)
