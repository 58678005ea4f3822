-- What a call on a box of multi-valued consensus does, for every list of words that the value stands for.
use Rattle.std.specs.Prelude.{◌≡◌, ℕ, ◌⊎◌, Bool, List, ◌∷◌, Option, Some, None, Result}
use Rattle.ritas_base.specs.declared.bytes.Mem.{Mem}
use Rattle.ritas_base.specs.declared.slot.Slot.{Slot}
use Rattle.ritas_base.specs.declared.item.Say.{Say}
use Rattle.layer_api.specs.Words.{Word, Ask, Hear}
use Rattle.layer_api.specs.Calls.{IsCoin, WordDone}
use Rattle.layer_api.specs.Multi.{Desk, MultiRules, MayMulti}
use Rattle.layer_api.specs.declared.decided.Decided.{Decided}
use Rattle.layer_api.specs.declared.decided.Decided.TheVariants as answers

-- what is decided, by the getter's answer
abbrev pub decided_of : Decided → Option (Option (List ℕ))
decided_of answers.NotYet = None
decided_of answers.Nothing = Some None
decided_of (answers.Value v) = Some (Some v.now)

-- what the getters of a box answer
pub record MultiShown : Type 0 where
  pub opens : Slot → Bool
  pub decision : Option (Option (List ℕ))

-- they answer what the rules say of these words
pub record ShowsMulti (r : MultiRules) (at : Desk) (w : List Word) (shown : MultiShown) : Type 0 where
  pub opens : (s : Slot) → shown.opens s ≡ r.opens at w s
  pub decision : shown.decision ≡ r.decision at w

-- after want of memory each answers as after the words before the call, or as after them and the call's
pub record ShowsMultiNear (r : MultiRules) (at : Desk) (w : List Word) (c : Word) (shown : MultiShown) : Type 0 where
  pub opens : (s : Slot) → (shown.opens s ≡ r.opens at w s) ⊎ (shown.opens s ≡ r.opens at (c ∷ w) s)
  pub decision : (shown.decision ≡ r.decision at w) ⊎ (shown.decision ≡ r.decision at (c ∷ w))

-- each outcome of a proposal, and of what a slot delivered
abbrev pub MultiProposes : {X : Type 0} → (X → Desk → List Word → Type 0) → MultiRules → (X → Bool) → (X → MultiShown) → X → X → List ℕ
    → List Say → List Say → Result (Unit {0}) Mem → Type 0
MultiProposes stands r is_live shown old new v before after result =
    WordDone stands r.says (λ at w c x. ShowsMultiNear r at w c (shown x)) is_live old new (Ask v) (λ at w. MayMulti r at w (Ask v)) before after result

abbrev pub MultiHears : {X : Type 0} → (X → Desk → List Word → Type 0) → MultiRules → (X → Bool) → (X → MultiShown) → (Slot → Bool) → X → X
    → Slot → List ℕ → List Say → List Say → Result (Unit {0}) Mem → Type 0
MultiHears stands r is_live shown bits old new s v before after result =
    WordDone stands r.says (λ at w c x. ShowsMultiNear r at w c (shown x)) is_live old new (Hear s v)
    (λ at w. IsCoin at.coin bits × MayMulti r at w (Hear s v)) before after result
