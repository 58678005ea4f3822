use Rattle.std.proofs.Common.{◌∙◌, length, ap, arith}
use Rattle.vector_consensus.specs.Kept.{KeptProposals}
use Rattle.vector_consensus.proofs.KeptLaws.{few}
use Rattle.vector_consensus.proofs.proposals.Proposals.count.Goals as goal

pub overflow_cast-result : goal.overflow_cast-result
overflow_cast-result c =
    let l = few _ c.self.invariant in
    let e = c.len.ensures ∙ c.self.inside.entries.ok.0 in
    record { fits = omega (arith, l, e) }

pub returns : goal.returns
returns c = c.len.ensures ∙ (c.self.inside.entries.ok.0 ∙ ap (λ (t : KeptProposals). length t.entries) c.self.view_is)
