-- What the parts of a box tell of the words, and what a call makes of that.
use Rattle.std.specs.Prelude.{◌≡◌, ℕ, ◌⊎◌, Bool, false, ◌==◌, List, ◌∷◌, ◌++◌, length, Some, is_some, Result, slice_set}
use Rattle.std.specs.List.{slice_get}
use Rattle.ritas_base.specs.declared.bytes.Mem.{Mem}
use Rattle.ritas_base.specs.declared.slot.Slot.{Slot}
use Rattle.ritas_base.specs.declared.item.Say.{Say}
use Rattle.layer_api.specs.Words.{Word, Ask, Hear}
use Rattle.layer_api.specs.Calls.{IsCoin}
use Rattle.layer_api.specs.Part.{proposed}
use Rattle.layer_api.specs.Multi.{Desk, MultiRules}
use Rattle.layer_api.specs.MultiCalls.{MultiShown, MultiHears}
use Rattle.layer_api.specs.Vectors.{MayVector, MayVectorHear, AreVector}
use Rattle.vector_consensus.specs.Consensus.{props, try_desk, try_words, vectors}
use Rattle.vector_consensus.specs.Kept.{KeptProposals, AreKeptProposals}
use Rattle.vector_consensus.specs.Parts.{IsVectorPart}
use Rattle.vector_consensus.specs.Begun.{IsBegun, Each, AreAttemptsReached}
use Rattle.vector_consensus.specs.declared.part.Part.{Part}
use Rattle.vector_consensus.specs.declared.going.Progress.{Progress}

module _ {M : Type 0} (stands : M → Desk → List Word → Type 0) (m : MultiRules) (part : Part) where
  -- the parts tell of these words, each of which met its conditions
  pub record AttemptsHold (at : Desk) (w : List Word) (own : Bool) (table : KeptProposals) (ts : List M) : Type 0 where
    pub met : AreVector (vectors m) at w
    pub part_is : IsVectorPart part at
    pub owns : own ≡ is_some (proposed w)
    pub kept : AreKeptProposals (props at.scope w) table
    pub each : Each stands at (λ k. try_words m at k w) ts
    pub begun : IsBegun m at w (length ts)

  -- they tell of one word more, and what is newly said is said
  pub record AttemptsHeard (at : Desk) (w : List Word) (c : Word) (now : Progress) (table : KeptProposals) (ts : List M) (before after : List Say) : Type 0 where
    pub holds : AttemptsHold at (c ∷ w) now.own table ts
    pub reached : AreAttemptsReached m at (c ∷ w) (length ts) now.own now
    pub made : after ≡ before ++ (vectors m).says at w c

  -- a proposal of one's own
  abbrev pub StartsAttempts : KeptProposals → List M → List M → List Say → List Say → Progress → List ℕ → Type 0
  StartsAttempts table old new before after now v =
      (at : Desk) (w : List Word) (own : Bool) → AttemptsHold at w own table old → MayVector (vectors m) at w (Ask v) → AttemptsHeard at w (Ask v) now table new before after

  -- what replica k proposes
  abbrev pub FollowsProposal : Bool → KeptProposals → KeptProposals → List M → List M → List Say → List Say → Progress → ℕ → List ℕ → Type 0
  FollowsProposal own table kept old new before after now k v =
      (at : Desk) (w : List Word) (s : Slot) → AttemptsHold at w own table old → MayVectorHear (vectors m) at w s v → s.class ≡ 2 → s.origin ≡ k
      → AttemptsHeard at w (Hear s v) now kept new before after

  -- what a slot of an attempt delivered
  abbrev pub FollowsTry : (Slot → Bool) → Bool → KeptProposals → List M → List M → List Say → List Say → Progress → Slot → List ℕ → Type 0
  FollowsTry bits own table old new before after now s v =
      (at : Desk) (w : List Word) → AttemptsHold at w own table old → IsCoin at.coin bits → MayVectorHear (vectors m) at w s v → (s.class == 2) ≡ false
      → AttemptsHeard at w (Hear s v) now table new before after

-- ---- the box of one attempt

-- the box of attempt k hears what a slot delivered, where there is one
abbrev pub HearsIn : {M : Type 0} → (M → Desk → List Word → Type 0) → MultiRules → (M → Bool) → (M → MultiShown) → (Slot → Bool) → List M → List M → Slot → List ℕ
    → List Say → List Say → Result (Unit {0}) Mem → Type 0
HearsIn {M} stands m live shown bits old new s v before after result =
    (one : M) → slice_get old s.attempt ≡ Some one
    → (next : M) × (new ≡ slice_set old s.attempt next) × MultiHears stands m live shown bits one next s v before after result

-- ---- what is shown, after want of memory too

-- what an attempt shows is what the rules say of its words before the call's word, or with what that brings
pub record IsAttemptNear (m : MultiRules) (at : Desk) (w : List Word) (c : Word) (k : ℕ) (shown : MultiShown) : Type 0 where
  pub opens : (s : Slot) → (shown.opens s ≡ m.opens (try_desk at k) (try_words m at k w) s) ⊎ (shown.opens s ≡ m.opens (try_desk at k) (try_words m at k (c ∷ w)) s)
  pub decision : (shown.decision ≡ m.decision (try_desk at k) (try_words m at k w)) ⊎ (shown.decision ≡ m.decision (try_desk at k) (try_words m at k (c ∷ w)))

-- so does each of the attempts that began before
abbrev pub AreNear : {M : Type 0} → (M → MultiShown) → MultiRules → Desk → List Word → Word → List M → List M → Type 0
AreNear {M} shown m at w c old new = (k : ℕ) (b : M) → slice_get old k ≡ Some b → (n : M) × (slice_get new k ≡ Some n) × IsAttemptNear m at w c k (shown n)

abbrev pub NearTries : {M : Type 0} → (M → Desk → List Word → Type 0) → MultiRules → Part → (M → MultiShown) → (Slot → Bool) → Bool → KeptProposals → List M → List M → Slot → List ℕ → Type 0
NearTries stands m part shown bits own table old new s v =
    (at : Desk) (w : List Word) → AttemptsHold stands m part at w own table old → IsCoin at.coin bits → MayVectorHear (vectors m) at w s v → (s.class == 2) ≡ false
    → AreNear shown m at w (Hear s v) old new
