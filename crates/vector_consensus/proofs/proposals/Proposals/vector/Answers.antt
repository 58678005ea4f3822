use Rattle.std.proofs.Common.{◌∙◌, sym, ap, length}
use Rattle.std.specs.Int.RustNames.{count_ones}
use Rattle.vector_consensus.proofs.KeptLaws.{one_each}
use Rattle.vector_consensus.proofs.proposals.Proposals.vector.Goals as goal

pub write_vector-requires-clause-one_each : goal.write_vector-requires-clause-one_each
write_vector-requires-clause-one_each c = ap length c.deref.ensures.value ∙ (one_each _ c.self.invariant ∙ ap count_ones (sym c.from_mask.ensures))
