use Rattle.vector_consensus.proofs.Boxes.{attempt_answers}
use Rattle.vector_consensus.proofs.vc.VcVectorBox.decided_try.Goals as goal

pub returns-clause-rules : goal.returns-clause-rules
returns-clause-rules g c = λ at w stands.
    attempt_answers g.M.MultiBox.stands g.M.MultiBox.rules g.met.M.MultiBox.multi_laws g.M.MultiBox.live g.M.MultiBox.shown g.met.M.MultiBox.shows
    c.args.self.now at w c.as_byte.result stands c.as_byte.ensures
