-- What the getters of a round of vector consensus answer is what the rules say.
use Rattle.std.specs.Prelude.{◌≡◌, ℕ, Bool, true, List, Option}
use Rattle.std.proofs.Common.{◌∙◌, ap, ap₂}
use Rattle.layer_api.specs.Words.{Word}
use Rattle.layer_api.specs.Service.{vector_with}
use Rattle.layer_api.specs.Multi.{Desk}
use Rattle.layer_api.specs.Vectors.{VectorRules}
use Rattle.layer_api.specs.VectorCalls.{VectorShown, ShowsVector}
use Rattle.ordered_rounds.specs.BoxCalls.{ShowsRound}
use Rattle.atomic_bcast.specs.VectorRounds.{by_vectors, VectorStands, vector_shown}
use Rattle.atomic_bcast.specs.declared.vector_round.VectorRound.{VectorRound}

pub vector_shows : {V : Type 0} (stands : V → Desk → List Word → Type 0) (v : VectorRules) (live : V → Bool) (shown : V → VectorShown)
    → ((b : V) (at : Desk) (w : List Word) → stands b at w → (live b ≡ true) × ShowsVector v at w (shown b))
    → (x : VectorRound V) (at : Desk) (w : List Word) → VectorStands stands x at w → (live x.inner ≡ true) × ShowsRound (by_vectors v) at w (vector_shown shown x)
vector_shows stands v live shown shows x at w h =
    let s = shows x.inner at w h.stood in (
      s.0,
      record {
        opens = s.1.opens;
        decision = s.1.decision;
        vector =
            ap₂ (λ (a : ℕ) (o : Option ℕ). vector_with a o (shown x.inner).decision) h.round s.1.attempt
            ∙ ap (vector_with at.scope.a (v.attempt at w)) s.1.decision;
        spent = s.1.spent;
      },
    )
