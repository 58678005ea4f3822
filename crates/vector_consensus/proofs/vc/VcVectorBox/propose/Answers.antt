use Rattle.std.proofs.Common.{refl}
use Rattle.vector_consensus.proofs.Boxes.{proposes}
use Rattle.vector_consensus.proofs.vc.VcVectorBox.propose.Goals as goal

pub returns : goal.returns
returns g c =
    proposes g.M.MultiBox.stands g.M.MultiBox.rules g.met.M.MultiBox.multi_laws g.M.MultiBox.live g.M.MultiBox.shown g.met.M.MultiBox.shows
    c.args.self.now (record c.args.self.now { tries = c.start-next.new.tries }) c.end.new.self c.args.value.now c.start-next.result c.new-made.result.items c.start-next.new.made.items
    c.args.says.now.items c.end.new.says.items c.end.result c.new-made.ensures.items (record { part = refl; place = refl }) refl refl c.start-next.ensures.keeps c.start-next.ensures.ok c.end.ensures
