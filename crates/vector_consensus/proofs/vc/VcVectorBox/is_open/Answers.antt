use Rattle.vector_consensus.proofs.Boxes.{open_answers}
use Rattle.vector_consensus.proofs.vc.VcVectorBox.is_open.Goals as goal

pub returns-clause-rules : goal.returns-clause-rules
returns-clause-rules g c = λ at w stands.
    open_answers g.M.MultiBox.stands g.M.MultiBox.rules g.met.M.MultiBox.multi_laws g.M.MultiBox.live g.M.MultiBox.shown g.met.M.MultiBox.shows
    c.args.self.now at w c.args.slot.now c.deref.result.now c.is_open.result stands c.deref.ensures.value c.is_open.ensures
