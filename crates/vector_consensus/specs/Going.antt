-- What the code's pass over the attempts does: each that is due begins, in their order.
use Rattle.std.specs.Prelude.{◌≡◌, ℕ, zero, suc, Bool, List, [], ◌∷◌, ◌++◌, length, Some, is_some}
use Rattle.std.specs.List.{slice_get}
use Rattle.ritas_base.specs.declared.item.Say.{Say}
use Rattle.layer_api.specs.Words.{Word, Ask}
use Rattle.layer_api.specs.Part.{proposed, newly_asked, passed, says_in}
use Rattle.layer_api.specs.Multi.{Desk, MultiRules, MayMulti}
use Rattle.layer_api.specs.Vectors.{AreVector}
use Rattle.vector_consensus.specs.Consensus.{props, vector_of, is_of_try, try_desk, try_words, try_ask, vectors}
use Rattle.vector_consensus.specs.Begun.{IsBegun, Each, AreAttemptsReached}
use Rattle.vector_consensus.specs.Kept.{KeptProposals, AreKeptProposals}
use Rattle.vector_consensus.specs.Parts.{IsVectorPart}
use Rattle.vector_consensus.specs.declared.part.Part.{Part}
use Rattle.vector_consensus.specs.declared.going.Progress.{Progress}

-- ---- one attempt more

-- the box was made for an attempt, and was proposed a value
pub record AttemptBegan {M : Type 0} (stands : M → Desk → List Word → Type 0) (m : MultiRules) (at : Desk) (v : List ℕ) (b : M) (before after : List Say) : Type 0 where
  pub grows : stands b at (Ask v ∷ [])
  pub made : after ≡ before ++ m.says at [] (Ask v)

-- the next attempt began with the vector of the proposals
abbrev pub AttemptBegins : {M : Type 0} → (M → Desk → List Word → Type 0) → MultiRules → Part → KeptProposals → List M → List M → List Say → List Say → Type 0
AttemptBegins {M} stands m part table old new before after =
    (b : M) × (new ≡ old ++ b ∷ [])
    × ((at : Desk) (h : List Word) → IsVectorPart part at → AreKeptProposals (props at.scope h) table → MayMulti m (try_desk at (length old)) [] (Ask (vector_of at.scope h))
    → AttemptBegan stands m (try_desk at (length old)) (vector_of at.scope h) b before after)

-- ---- all that are due

-- those that were there are there still
abbrev pub KeepsAttempts : {M : Type 0} → List M → List M → Type 0
KeepsAttempts {M} old new = (k : ℕ) (b : M) → slice_get old k ≡ Some b → slice_get new k ≡ Some b

-- an attempt's words as it has heard the word, and isn't asked yet
abbrev pub mid : MultiRules → Desk → List Word → Word → ℕ → List Word
mid m at w c k = passed (is_of_try k) c ++ try_words m at k w

-- what those below one say as they are asked
abbrev pub asks_below : MultiRules → Desk → ℕ → List Word → Word → List Say
asks_below m at zero w c = []
asks_below m at (suc k) w c =
    asks_below m at k w c ++ says_in (m.says (try_desk at k)) (newly_asked (try_ask m at k w) (try_ask m at k (c ∷ w))) (mid m at w c k)

module _ {M : Type 0} (stands : M → Desk → List Word → Type 0) (m : MultiRules) (at : Desk) (w : List Word) (c : Word) where
  -- the attempts that began before the word heard it, and what else is known
  pub record AreMidway (part : Part) (own : Bool) (table : KeptProposals) (ts : List M) : Type 0 where
    pub met : AreVector (vectors m) at (c ∷ w)
    pub part_is : IsVectorPart part at
    pub owns : own ≡ is_some (proposed (c ∷ w))
    pub kept : AreKeptProposals (props at.scope (c ∷ w)) table
    pub each : Each stands at (mid m at w c) ts
    pub begun : IsBegun m at w (length ts)

  -- all that were due began
  pub record Went (own : Bool) (now : Progress) (new : List M) (before after : List Say) : Type 0 where
    pub each : Each stands at (λ k. try_words m at k (c ∷ w)) new
    pub begun : IsBegun m at (c ∷ w) (length new)
    pub reached : AreAttemptsReached m at (c ∷ w) (length new) own now
    pub made : after ≡ before ++ asks_below m at (suc at.scope.numbers.f) w c

-- each attempt that is due begins
abbrev pub AttemptsGoOn : {M : Type 0} → (M → Desk → List Word → Type 0) → MultiRules → Part → Bool → KeptProposals → List M → List M → List Say → List Say → Progress → Type 0
AttemptsGoOn stands m part own table old new before after now =
    (at : Desk) (w : List Word) (c : Word) → AreMidway stands m at w c part own table old → Went stands m at w c own now new before after
