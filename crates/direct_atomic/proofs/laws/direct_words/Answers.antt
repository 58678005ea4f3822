use Rattle.std.specs.Prelude.{◌≡◌, ℕ, zero, suc, List, None, refl}
use Rattle.layer_api.specs.Words.{Word}
use Rattle.layer_api.specs.Service.{Seat}
use Rattle.layer_api.specs.Multi.{MultiRules}
use Rattle.ordered_rounds.specs.Rounds.{complete_of, last_complete, rounds}
use Rattle.ordered_rounds.specs.Laws.OrderedWords.{ordered_word_laws}
use Rattle.direct_atomic.specs.Lists.{lists}
use Rattle.direct_atomic.specs.Laws.Box.{list_laws}
use Rattle.direct_atomic.proofs.laws.direct_words.Goals as goal

none_complete : (m : MultiRules) (seat : Seat) (a : ℕ) (w : List Word) → last_complete (lists m) seat a w ≡ None
none_complete m seat zero w = refl
none_complete m seat (suc a) w = refl

pub returns-clause-laws : goal.returns-clause-laws
returns-clause-laws c = λ m laws. ordered_word_laws (lists m) (list_laws m laws)

pub returns-clause-undecided : goal.returns-clause-undecided
returns-clause-undecided c = λ m seat w. refl

pub returns-clause-vectors : goal.returns-clause-vectors
returns-clause-vectors c = λ m seat w. none_complete m seat (complete_of (lists m) seat rounds w) w
