-- The law of one decision of multi-valued consensus.
use Rattle.layer_api.specs.Binary.{BinaryRules, BoxLaws, OneBit}
use Rattle.layer_api.specs.Multi.{OneDecision}
use Rattle.multivalued.specs.Consensus.{multivalued}
use Rattle.multivalued.specs.Laws.Agreement.{agree, valid_value, same_inside}
use Rattle.multivalued.specs.Laws.OneProposal.{decides_value}
use Rattle.multivalued.specs.Laws.Proposed.{inside_proposed}

pub one_decision_law : (b : BinaryRules) → BoxLaws b → OneBit b → OneDecision (multivalued b)
one_decision_law b laws one = record {
  agree = λ at is_correct coins xs enough fed. agree b laws one at is_correct coins xs enough fed;
  valid = λ at is_correct coins xs enough fed. valid_value b laws one at is_correct coins xs enough fed;
  decides = λ at is_correct coins xs enough fed alone. decides_value b laws one at is_correct coins xs enough fed alone;
  insides = λ at is_correct coins xs enough fed. same_inside b laws one at is_correct coins xs enough fed;
  proposed = λ at is_correct coins xs enough fed. inside_proposed b laws one at is_correct coins xs enough fed;
}
