use Rattle.ordered_rounds.specs.Laws.LogLaw.{one_log_law}
use Rattle.ordered_rounds.specs.Laws.OneLog.{decisions_agree}
use Rattle.ordered_rounds.specs.Laws.LogsByRound.{done_distinct}
use Rattle.ordered_rounds.specs.Laws.Appending.{appends_proposed}
use Rattle.atomic_bcast.specs.VectorRounds.{by_vectors}
use Rattle.atomic_bcast.specs.Laws.VectorRounds.{vector_round_laws, one_vector_round, vectors_sorted}
use Rattle.atomic_bcast.proofs.laws.one_log.Goals as goal

pub returns-clause-log : goal.returns-clause-log
returns-clause-log c = λ v laws one. one_log_law (by_vectors v) (vector_round_laws v laws) (one_vector_round v laws one)

pub returns-clause-once : goal.returns-clause-once
returns-clause-once c = λ v seat w. done_distinct (by_vectors v) seat vectors_sorted w

pub returns-clause-vectors : goal.returns-clause-vectors
returns-clause-vectors c = λ v laws one. decisions_agree (by_vectors v) (vector_round_laws v laws) (one_vector_round v laws one)

pub returns-clause-proposed : goal.returns-clause-proposed
returns-clause-proposed c = λ v laws one. appends_proposed (by_vectors v) (vector_round_laws v laws) (one_vector_round v laws one)
