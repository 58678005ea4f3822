use Rattle.ordered_rounds.specs.Laws.OrderedWords.{ordered_word_laws}
use Rattle.ordered_rounds.proofs.laws.word_laws_of_rounds.Goals as goal

pub returns : goal.returns
returns c = ordered_word_laws
