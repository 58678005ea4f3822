-- The law of one vector of vector consensus.
use Rattle.layer_api.specs.Multi.{MultiRules, MultiLaws, OneDecision}
use Rattle.layer_api.specs.Vectors.{OneVector}
use Rattle.vector_consensus.specs.Consensus.{vectors}
use Rattle.vector_consensus.specs.Laws.Agreement.{agree, same_attempt}
use Rattle.vector_consensus.specs.Laws.LastAttempt.{unspent}
use Rattle.vector_consensus.specs.Laws.Entries.{entry_asked}
use Rattle.vector_consensus.specs.Laws.SameInside.{same_inside}
use Rattle.vector_consensus.specs.Laws.Proposed.{inside_proposed}

pub one_vector_law : (m : MultiRules) → MultiLaws m → OneDecision m → OneVector (vectors m)
one_vector_law m laws one = record {
  agree = λ at is_correct coins xs enough has fed. agree m laws one at is_correct coins xs enough has fed;
  attempts = λ at is_correct coins xs enough has fed. same_attempt m laws one at is_correct coins xs enough has fed;
  unspent = λ at is_correct coins xs enough has fed. unspent m laws one at is_correct coins xs enough has fed;
  entries = λ at is_correct coins xs enough has fed. entry_asked m laws one at is_correct coins xs enough has fed;
  insides = λ at is_correct coins xs enough has fed. same_inside m laws one at is_correct coins xs enough has fed;
  proposed = λ at is_correct coins xs enough has fed. inside_proposed m laws one at is_correct coins xs enough has fed;
}
