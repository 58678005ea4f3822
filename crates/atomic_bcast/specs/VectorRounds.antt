-- The rounds of atomic broadcast over vector consensus: a vector of lists of identifiers is agreed on, and those are wanted in the log that
-- stand in f + 1 of its lists.
use Rattle.std.specs.Prelude.{◌≡◌, List}
use Rattle.ritas_base.specs.declared.root_service.RootService.TheVariants.{Atomic}
use Rattle.ritas_base.specs.RootServices.{root_number}
use Rattle.frame_codec.specs.Values.{vector_entries}
use Rattle.layer_api.specs.Words.{Word}
use Rattle.layer_api.specs.Service.{ServiceRules, vector_with}
use Rattle.layer_api.specs.Purpose.{vector_rounds}
use Rattle.layer_api.specs.Multi.{Desk}
use Rattle.layer_api.specs.Vectors.{VectorRules}
use Rattle.ordered_rounds.specs.Box.{RoundRules}
use Rattle.ordered_rounds.specs.BoxCalls.{RoundShown}
use Rattle.ordered_rounds.specs.Rounds.{backed, ordered}
use Rattle.layer_api.specs.VectorCalls.{VectorShown}
use Rattle.atomic_bcast.specs.declared.vector_round.VectorRound.{VectorRound}

abbrev pub by_vectors : VectorRules → RoundRules
by_vectors v = record {
  root = root_number Atomic;
  rounds = vector_rounds;
  says = v.says;
  opens = v.opens;
  decision = v.decision;
  wanted = λ p x. backed p (vector_entries x);
  spent = v.spent;
  vector = λ at w. vector_with at.scope.a (v.attempt at w) (v.decision at w);
  inside = v.inside;
}

-- atomic broadcast over vector consensus
abbrev pub atomic : VectorRules → ServiceRules
atomic v = ordered (by_vectors v)

-- what a value stands for: its box does, and it knows the number of the round
pub record VectorStands {V : Type 0} (stands : V → Desk → List Word → Type 0) (x : VectorRound V) (at : Desk) (w : List Word) : Type 0 where
  pub round : x.a ≡ at.scope.a
  pub stood : stands x.inner at w

-- what its getters answer
abbrev pub vector_shown : {V : Type 0} → (V → VectorShown) → VectorRound V → RoundShown
vector_shown shown x = record {
  opens = (shown x.inner).opens;
  decision = (shown x.inner).decision;
  vector = vector_with x.a (shown x.inner).attempt (shown x.inner).decision;
  spent = (shown x.inner).spent;
}
