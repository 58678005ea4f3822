use Rattle.multivalued.proofs.Calls.{hears_slot}
use Rattle.multivalued.proofs.mvc.MvcMultiBox.heard.Goals as goal

pub returns : goal.returns
returns g c =
    hears_slot g.B.BinaryBox.stands g.B.BinaryBox.rules c.args.self.now c.hear-next.new.self c.end.new.self c.args.value.now c.hear-next.result c.new-made.result.items c.hear-next.new.made.items
    c.args.says.now.items c.end.new.says.items c.end.result c.new-made.ensures.items c.hear-next.ensures.keeps c.end.ensures
    (g.C.Coin.bits c.args.coin.now) c.args.slot.now c.hear-next.ensures.ok
