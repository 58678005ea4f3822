use Rattle.std.proofs.Common.{refl}
use Rattle.vector_consensus.proofs.KeptLaws.{kept_nothing, nothing_kept}
use Rattle.vector_consensus.proofs.proposals.Proposals.new.Goals as goal

pub invariant_of-result : goal.invariant_of-result
invariant_of-result c = nothing_kept _ refl c.new.ensures.items

pub returns : goal.returns
returns c = λ os most none. kept_nothing os _ most none refl c.new.ensures.items
