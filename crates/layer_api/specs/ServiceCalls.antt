-- What a call on a service's value does, for every list of words that the value stands for.
use Rattle.std.specs.Prelude.{◌≡◌, ℕ, ◌<◌, ◌⊎◌, Bool, List, ◌∷◌, Option, Result}
use Rattle.ritas_base.specs.declared.bytes.Mem.{Mem}
use Rattle.ritas_base.specs.declared.slot.Slot.{Slot}
use Rattle.ritas_base.specs.declared.item.Say.{Say}
use Rattle.ritas_base.specs.declared.id.Id.{Id}
use Rattle.layer_api.specs.declared.outcome.Outcome.{Outcome}
use Rattle.layer_api.specs.declared.outcome.Outcome.TheVariants as outcomes
use Rattle.layer_api.specs.Service.{ServiceRules, Seat, LastVector, MayAsk, MayHear, IsPart, Ending, Undecided, Over, Decided, Bit, Nothing, Value, Spent}
use Rattle.layer_api.specs.Words.{Word, Ask, Hear}
use Rattle.layer_api.specs.Calls.{IsCoin, WordDone}

-- what the getters of a service's value answer; the identifier log has the newest first
pub record ServiceShown : Type 0 where
  pub opens : Slot → Bool
  pub completed : ℕ
  pub base : ℕ → ℕ
  pub next_number : ℕ
  pub given : Bool
  pub done : List Id
  pub outcome : Ending
  pub last : Option LastVector

-- they answer what the rules say of these words
pub record Shows (r : ServiceRules) (seat : Seat) (w : List Word) (shown : ServiceShown) : Type 0 where
  pub opens : (s : Slot) → shown.opens s ≡ r.opens seat w s
  pub completed : shown.completed ≡ r.completed seat w
  pub base : (o : ℕ) → o < seat.numbers.n → shown.base o ≡ r.base seat w o
  pub next_number : shown.next_number ≡ r.next_number seat w
  pub given : shown.given ≡ r.given seat w
  pub done : shown.done ≡ r.done seat w
  pub outcome : shown.outcome ≡ r.outcome seat w
  pub last : shown.last ≡ r.last seat w

-- each answers as after the first of two lists of words, or as after the second; and the identifier log is between those of
-- the two
pub record ShowsBetween (r : ServiceRules) (seat : Seat) (w later : List Word) (shown : ServiceShown) : Type 0 where
  pub opens : (s : Slot) → (shown.opens s ≡ r.opens seat w s) ⊎ (shown.opens s ≡ r.opens seat later s)
  pub completed : (shown.completed ≡ r.completed seat w) ⊎ (shown.completed ≡ r.completed seat later)
  pub base : (o : ℕ) → o < seat.numbers.n → (shown.base o ≡ r.base seat w o) ⊎ (shown.base o ≡ r.base seat later o)
  pub next_number : (shown.next_number ≡ r.next_number seat w) ⊎ (shown.next_number ≡ r.next_number seat later)
  pub given : (shown.given ≡ r.given seat w) ⊎ (shown.given ≡ r.given seat later)
  pub done_before : IsPart (r.done seat w) shown.done
  pub done_after : IsPart shown.done (r.done seat later)
  pub outcome : (shown.outcome ≡ r.outcome seat w) ⊎ (shown.outcome ≡ r.outcome seat later)
  pub last : (shown.last ≡ r.last seat w) ⊎ (shown.last ≡ r.last seat later)

-- after want of memory they do so with the words before the call, and with these and the call's
abbrev pub ShowsNear : ServiceRules → Seat → List Word → Word → ServiceShown → Type 0
ShowsNear r seat w c shown = ShowsBetween r seat w (c ∷ w) shown

-- each outcome of an input
abbrev pub Inputs : {S : Type 0} → (S → Seat → List Word → Type 0) → ServiceRules → (S → Bool) → (S → ServiceShown) → S → S → List ℕ → List Say → List Say → Result (Unit {0}) Mem → Type 0
Inputs stands r is_live shown old new value before after result =
    WordDone stands r.says (λ seat w c s. ShowsNear r seat w c (shown s)) is_live old new (Ask value) (λ seat w. MayAsk r seat w value) before after result

-- each outcome of what a slot delivered
abbrev pub Heeds : {S : Type 0} → (S → Seat → List Word → Type 0) → ServiceRules → (S → Bool) → (S → ServiceShown) → (Slot → Bool) → S → S → Slot → List ℕ → List Say → List Say → Result (Unit {0}) Mem → Type 0
Heeds stands r is_live shown bits old new slot value before after result =
    WordDone stands r.says (λ seat w c s. ShowsNear r seat w c (shown s)) is_live old new (Hear slot value)
    (λ seat w. IsCoin seat.coin bits × MayHear r seat w slot value) before after result

-- what an outcome says
abbrev pub ending_of : Outcome → Ending
ending_of outcomes.Undecided = Undecided
ending_of outcomes.Over = Over
ending_of (outcomes.Bit b) = Decided (Bit b)
ending_of outcomes.Nothing = Decided Nothing
ending_of (outcomes.Value v) = Decided (Value v.now)
ending_of outcomes.Spent = Decided Spent
