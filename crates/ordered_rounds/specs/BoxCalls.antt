-- What a call on a round does, for every list of words that the value stands for.
use Rattle.std.specs.Prelude.{◌≡◌, ℕ, ◌⊎◌, Bool, List, ◌∷◌, Option, Result}
use Rattle.ritas_base.specs.declared.bytes.Mem.{Mem}
use Rattle.ritas_base.specs.declared.slot.Slot.{Slot}
use Rattle.ritas_base.specs.declared.item.Say.{Say}
use Rattle.layer_api.specs.Words.{Word, Ask, Hear}
use Rattle.layer_api.specs.Calls.{IsCoin, WordDone}
use Rattle.layer_api.specs.Service.{LastVector}
use Rattle.layer_api.specs.Multi.{Desk}
use Rattle.ordered_rounds.specs.Box.{RoundRules, MayRound}

-- what the getters of a round answer
pub record RoundShown : Type 0 where
  pub opens : Slot → Bool
  pub decision : Option (List ℕ)
  pub vector : Option LastVector
  pub spent : Bool

-- they answer what the rules say of these words
pub record ShowsRound (r : RoundRules) (at : Desk) (w : List Word) (shown : RoundShown) : Type 0 where
  pub opens : (s : Slot) → shown.opens s ≡ r.opens at w s
  pub decision : shown.decision ≡ r.decision at w
  pub vector : shown.vector ≡ r.vector at w
  pub spent : shown.spent ≡ r.spent at w

-- after want of memory each answers as after the words before the call, or as after them and the call's; the decision, its vector and
-- whether it is spent do so together
pub record ShowsRoundNear (r : RoundRules) (at : Desk) (w : List Word) (c : Word) (shown : RoundShown) : Type 0 where
  pub opens : (s : Slot) → (shown.opens s ≡ r.opens at w s) ⊎ (shown.opens s ≡ r.opens at (c ∷ w) s)
  pub ending : ((shown.decision ≡ r.decision at w) × (shown.spent ≡ r.spent at w) × (shown.vector ≡ r.vector at w))
      ⊎ ((shown.decision ≡ r.decision at (c ∷ w)) × (shown.spent ≡ r.spent at (c ∷ w)) × (shown.vector ≡ r.vector at (c ∷ w)))

-- each outcome of a proposal, and of what a slot delivered
abbrev pub RoundProposes : {X : Type 0} → (X → Desk → List Word → Type 0) → RoundRules → (X → Bool) → (X → RoundShown) → X → X → List ℕ
    → List Say → List Say → Result (Unit {0}) Mem → Type 0
RoundProposes stands r is_live shown old new v before after result =
    WordDone stands r.says (λ at w c x. ShowsRoundNear r at w c (shown x)) is_live old new (Ask v) (λ at w. MayRound r at w (Ask v)) before after result

abbrev pub RoundHears : {X : Type 0} → (X → Desk → List Word → Type 0) → RoundRules → (X → Bool) → (X → RoundShown) → (Slot → Bool) → X → X
    → Slot → List ℕ → List Say → List Say → Result (Unit {0}) Mem → Type 0
RoundHears stands r is_live shown bits old new s v before after result =
    WordDone stands r.says (λ at w c x. ShowsRoundNear r at w c (shown x)) is_live old new (Hear s v)
    (λ at w. IsCoin at.coin bits × MayRound r at w (Hear s v)) before after result
