use Rattle.reliable_bcast.specs.Laws.DigestOneValue.{one_value_by_digest}
use Rattle.reliable_bcast.proofs.laws.one_value_by_digest.Goals as goal

pub returns : goal.returns
returns c = one_value_by_digest
