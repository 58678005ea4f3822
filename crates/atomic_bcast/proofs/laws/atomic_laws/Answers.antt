use Rattle.ordered_rounds.specs.Laws.OrderedWords.{ordered_word_laws}
use Rattle.atomic_bcast.specs.VectorRounds.{by_vectors}
use Rattle.atomic_bcast.specs.Laws.VectorRounds.{vector_round_laws}
use Rattle.atomic_bcast.proofs.laws.atomic_laws.Goals as goal

pub returns : goal.returns
returns c = λ v laws. ordered_word_laws (by_vectors v) (vector_round_laws v laws)
