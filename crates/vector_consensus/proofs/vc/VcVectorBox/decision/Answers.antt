use Rattle.std.specs.Option.{option_copied}
use Rattle.vector_consensus.proofs.Boxes.{decision_answers}
use Rattle.vector_consensus.proofs.vc.VcVectorBox.decision.Goals as goal

pub returns-clause-rules : goal.returns-clause-rules
returns-clause-rules g c = λ at w stands.
    decision_answers g.M.MultiBox.stands g.M.MultiBox.rules g.met.M.MultiBox.multi_laws g.M.MultiBox.live g.M.MultiBox.shown g.met.M.MultiBox.shows
    c.args.self.now at w c.deref.result.now (option_copied c.vector_in.result) stands c.deref.ensures.value c.vector_in.ensures
