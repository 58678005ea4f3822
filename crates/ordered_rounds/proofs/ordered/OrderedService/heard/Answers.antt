use Rattle.ordered_rounds.proofs.Taking.{heard_done}
use Rattle.ordered_rounds.proofs.ordered.OrderedService.heard.Goals as goal

pub returns : goal.returns
returns g c =
    heard_done g.V.RoundBox.stands g.V.RoundBox.rules g.met.V.RoundBox.round_laws g.V.RoundBox.live g.V.RoundBox.shown g.met.V.RoundBox.shows
    (g.C.Coin.bits c.args.coin.now) c.args.self.now c.take-taken.new.self c.end.new.self c.args.slot.now c.args.value.now c.take-taken.result c.new-made.result.items
    c.take-taken.new.made.items c.args.says.now.items c.end.new.says.items c.end.result c.new-made.ensures.items c.take-taken.ensures.ok c.take-taken.ensures.err c.end.ensures
