-- What a call on a layer's value does, for every place (the seat of a service, the bench or the desk of a box) and every list of
-- words that the value stands for.
use Rattle.std.specs.Prelude.{◌≡◌, Bool, false, List, ◌∷◌, ◌++◌, Result, Ok, Err}
use Rattle.ritas_base.specs.declared.bytes.Mem.{Mem}
use Rattle.ritas_base.specs.declared.slot.Slot.{Slot}
use Rattle.ritas_base.specs.declared.item.Say.{Say}
use Rattle.layer_api.specs.Words.{Word}

-- the coin of a place is that of the call
abbrev pub IsCoin : (Slot → Bool) → (Slot → Bool) → Type 0
IsCoin coin bits = (s : Slot) → coin s ≡ bits s

-- the word was taken where it might come, and what is newly said is put out
pub record WordTaken {X P : Type 0} (stands : X → P → List Word → Type 0) (says : P → List Word → Word → List Say) (old new : X) (c : Word)
    (may : P → List Word → Type 0) (before after : List Say) : Type 0 where
  pub grows : (at : P) (w : List Word) → stands old at w → may at w → stands new at (c ∷ w)
  pub made : (at : P) (w : List Word) → stands old at w → may at w → after ≡ before ++ says at w c

-- for want of memory nothing is put out, and the value is live no more; what its getters answer then is near to what they
-- answered before
pub record WordLost {X P : Type 0} (stands : X → P → List Word → Type 0) (near : P → List Word → Word → X → Type 0) (is_live : X → Bool)
    (old new : X) (c : Word) (may : P → List Word → Type 0) (before after : List Say) : Type 0 where
  pub out : after ≡ before
  pub dead : is_live new ≡ false
  pub shows : (at : P) (w : List Word) → stands old at w → may at w → near at w c new

-- each outcome of a word
abbrev pub WordDone : {X P : Type 0} → (X → P → List Word → Type 0) → (P → List Word → Word → List Say) → (P → List Word → Word → X → Type 0)
    → (X → Bool) → X → X → Word → (P → List Word → Type 0) → List Say → List Say → Result (Unit {0}) Mem → Type 0
WordDone stands says near is_live old new c may before after (Ok u) = WordTaken stands says old new c may before after
WordDone stands says near is_live old new c may before after (Err e) = WordLost stands near is_live old new c may before after
