use Rattle.vector_consensus.proofs.Boxes.{hears_slot}
use Rattle.vector_consensus.proofs.vc.VcVectorBox.heard.Goals as goal

pub returns : goal.returns
returns g c =
    hears_slot g.M.MultiBox.stands g.M.MultiBox.rules g.met.M.MultiBox.multi_laws g.M.MultiBox.live g.M.MultiBox.shown g.met.M.MultiBox.shows (g.C.Coin.bits c.args.coin.now)
    c.args.self.now c.hear-next.new.self c.end.new.self c.args.slot.now c.args.value.now c.hear-next.result c.new-made.result.items c.hear-next.new.made.items
    c.args.says.now.items c.end.new.says.items c.end.result c.new-made.ensures.items
    c.hear-next.ensures.ok c.hear-next.ensures.near c.hear-next.ensures.keeps c.hear-next.ensures.live c.end.ensures
