use Rattle.std.proofs.Common.{refl}
use Rattle.vector_consensus.proofs.Boxes.{begins}
use Rattle.vector_consensus.proofs.vc.VcVectorBox.new.Goals as goal

pub returns : goal.returns
returns g c = λ at numbers me a attempt.
    begins g.M.MultiBox.stands g.M.MultiBox.rules g.met.M.MultiBox.multi_laws _ at (c.new.ensures at numbers me a) c.new-2.ensures c.new-3.ensures.items refl refl
