-- What a call on a box of vector consensus does, for every list of words that the value stands for.
use Rattle.std.specs.Prelude.{◌≡◌, ℕ, ◌⊎◌, Bool, List, ◌∷◌, Option, Result}
use Rattle.ritas_base.specs.declared.bytes.Mem.{Mem}
use Rattle.ritas_base.specs.declared.slot.Slot.{Slot}
use Rattle.ritas_base.specs.declared.item.Say.{Say}
use Rattle.layer_api.specs.Words.{Word, Ask, Hear}
use Rattle.layer_api.specs.Calls.{IsCoin, WordDone}
use Rattle.layer_api.specs.Multi.{Desk}
use Rattle.layer_api.specs.Vectors.{VectorRules, MayVector}

-- what the getters of a box answer
pub record VectorShown : Type 0 where
  pub opens : Slot → Bool
  pub decision : Option (List ℕ)
  pub attempt : Option ℕ
  pub spent : Bool

-- they answer what the rules say of these words
pub record ShowsVector (r : VectorRules) (at : Desk) (w : List Word) (shown : VectorShown) : Type 0 where
  pub opens : (s : Slot) → shown.opens s ≡ r.opens at w s
  pub decision : shown.decision ≡ r.decision at w
  pub attempt : shown.attempt ≡ r.attempt at w
  pub spent : shown.spent ≡ r.spent at w

-- after want of memory each answers as after the words before the call, or as after them and the call's
pub record ShowsVectorNear (r : VectorRules) (at : Desk) (w : List Word) (c : Word) (shown : VectorShown) : Type 0 where
  pub opens : (s : Slot) → (shown.opens s ≡ r.opens at w s) ⊎ (shown.opens s ≡ r.opens at (c ∷ w) s)
  pub decision : (shown.decision ≡ r.decision at w) ⊎ (shown.decision ≡ r.decision at (c ∷ w))
  pub spent : (shown.spent ≡ r.spent at w) ⊎ (shown.spent ≡ r.spent at (c ∷ w))
  -- the decision, its attempt and whether it is spent do so together
  pub ending : ((shown.decision ≡ r.decision at w) × (shown.spent ≡ r.spent at w) × (shown.attempt ≡ r.attempt at w))
      ⊎ ((shown.decision ≡ r.decision at (c ∷ w)) × (shown.spent ≡ r.spent at (c ∷ w)) × (shown.attempt ≡ r.attempt at (c ∷ w)))

-- each outcome of a proposal, and of what a slot delivered
abbrev pub VectorProposes : {X : Type 0} → (X → Desk → List Word → Type 0) → VectorRules → (X → Bool) → (X → VectorShown) → X → X → List ℕ
    → List Say → List Say → Result (Unit {0}) Mem → Type 0
VectorProposes stands r is_live shown old new v before after result =
    WordDone stands r.says (λ at w c x. ShowsVectorNear r at w c (shown x)) is_live old new (Ask v) (λ at w. MayVector r at w (Ask v)) before after result

abbrev pub VectorHears : {X : Type 0} → (X → Desk → List Word → Type 0) → VectorRules → (X → Bool) → (X → VectorShown) → (Slot → Bool) → X → X
    → Slot → List ℕ → List Say → List Say → Result (Unit {0}) Mem → Type 0
VectorHears stands r is_live shown bits old new s v before after result =
    WordDone stands r.says (λ at w c x. ShowsVectorNear r at w c (shown x)) is_live old new (Hear s v)
    (λ at w. IsCoin at.coin bits × MayVector r at w (Hear s v)) before after result
