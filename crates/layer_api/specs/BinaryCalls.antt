-- What a call on a box of binary consensus does, for every list of words that the value stands for.
use Rattle.std.specs.Prelude.{◌≡◌, ℕ, ◌⊎◌, Bool, List, [], ◌∷◌, Option, Result}
use Rattle.ritas_base.specs.declared.bytes.Mem.{Mem}
use Rattle.ritas_base.specs.declared.slot.Slot.{Slot}
use Rattle.ritas_base.specs.declared.item.Say.{Say}
use Rattle.layer_api.specs.Words.{Word, Ask, Hear, bit_byte}
use Rattle.layer_api.specs.Calls.{IsCoin, WordDone}
use Rattle.layer_api.specs.Binary.{BinaryRules, Bench, MayPropose, MayVote}

-- what the getters of a box answer
pub record BoxShown : Type 0 where
  pub round : ℕ
  pub decision : Option Bool
  pub over : Bool

-- they answer what the rules say of these words
pub record ShowsBox (r : BinaryRules) (at : Bench) (w : List Word) (shown : BoxShown) : Type 0 where
  pub round : shown.round ≡ r.round at w
  pub decision : shown.decision ≡ r.decision at w
  pub over : shown.over ≡ r.over at w

-- after want of memory each answers as after the words before the call, or as after them and the call's; the decision and
-- whether the rounds are over do so together
pub record ShowsBoxNear (r : BinaryRules) (at : Bench) (w : List Word) (c : Word) (shown : BoxShown) : Type 0 where
  pub round : (shown.round ≡ r.round at w) ⊎ (shown.round ≡ r.round at (c ∷ w))
  pub decision : (shown.decision ≡ r.decision at w) ⊎ (shown.decision ≡ r.decision at (c ∷ w))
  pub over : (shown.over ≡ r.over at w) ⊎ (shown.over ≡ r.over at (c ∷ w))
  pub ending : ((shown.decision ≡ r.decision at w) × (shown.over ≡ r.over at w))
      ⊎ ((shown.decision ≡ r.decision at (c ∷ w)) × (shown.over ≡ r.over at (c ∷ w)))

-- each outcome of a word to a box
abbrev pub BoxWords : {X : Type 0} → (X → Bench → List Word → Type 0) → BinaryRules → (X → Bool) → (X → BoxShown) → X → X → Word
    → (Bench → List Word → Type 0) → List Say → List Say → Result (Unit {0}) Mem → Type 0
BoxWords stands r is_live shown old new c may before after result =
    WordDone stands r.says (λ at w d x. ShowsBoxNear r at w d (shown x)) is_live old new c may before after result

abbrev pub Proposes : {X : Type 0} → (X → Bench → List Word → Type 0) → BinaryRules → (X → Bool) → (X → BoxShown) → X → X → Bool
    → List Say → List Say → Result (Unit {0}) Mem → Type 0
Proposes stands r is_live shown old new bit before after result =
    BoxWords stands r is_live shown old new (Ask (bit_byte bit ∷ [])) (λ at w. MayPropose w) before after result

abbrev pub HearsVote : {X : Type 0} → (X → Bench → List Word → Type 0) → BinaryRules → (X → Bool) → (X → BoxShown) → (Slot → Bool) → X → X
    → Slot → ℕ → List Say → List Say → Result (Unit {0}) Mem → Type 0
HearsVote stands r is_live shown bits old new slot vote before after result =
    BoxWords stands r is_live shown old new (Hear slot (vote ∷ [])) (λ at w. IsCoin at.coin bits × MayVote r at w slot vote) before after result
