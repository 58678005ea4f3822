use Rattle.std.proofs.Common.{sym, ◌∙◌, arith}
use Rattle.std.proofs.lemmas.List.FromFn.{map-range_with_len_more}
use Rattle.schedule_replay.specs.Layers.{dealt_to}
use Rattle.schedule_replay.proofs.deal.deal_keys.Goals as goal

pub loop-i-preserved : goal.loop-i-preserved
loop-i-preserved c =
    let more = map-range_with_len_more (dealt_to c.args.header.now) 0 c.loop-i.i c.loop-i.i (omega arith) in
    c.in_ok-push.ensures.items ∙ rw (c.keys_of.ensures, c.loop-i.invariant) (sym more)
