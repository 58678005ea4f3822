-- How a box goes on in a call: the steps that it leaves, and what it says and decides.
use Rattle.std.specs.Prelude.{◌≡◌, ℕ, zero, suc, ◌+◌, ◌-◌, ◌*◌, ◌<◌, ◌==◌, ◌&&◌, Bool, true, false, if◌then◌else◌, List, [], ◌∷◌, ◌++◌, Option, Some, None, is_some, ◌⊎◌}
use Rattle.std.specs.Option.{option_or}
use Rattle.ritas_base.specs.declared.slot.Slot.{Slot}
use Rattle.ritas_base.specs.declared.item.Say.{Say}
use Rattle.ritas_base.specs.Numbers.{Numbers}
use Rattle.ritas_base.specs.Slots.{within}
use Rattle.layer_api.specs.Words.{Word}
use Rattle.layer_api.specs.Binary.{Bench}
use Rattle.layer_api.specs.Calls.{IsCoin}
use Rattle.bracha_validation.specs.declared.tally.Tally.{Tally}
use Rattle.bracha_validation.specs.Tallies.{IsTally}
use Rattle.binary_consensus.specs.Steps.{round_of, step_of, heard}
use Rattle.binary_consensus.specs.Consensus.{left, decides, vote_said, decided_below, steps, steps_say_below, binary_decision, next_said}
use Rattle.binary_consensus.specs.Counts.{HeardRows, row_votes}
use Rattle.binary_consensus.specs.declared.part.Part.{Part}
use Rattle.binary_consensus.specs.declared.leaving.Left.{Left}
use Rattle.binary_consensus.specs.declared.place.Place.{Place}

-- the slot of a step at the part's own replica
abbrev pub own_step_slot : Part → ℕ → Slot
own_step_slot part t = record { class = 5; a = part.a; attempt = part.attempt; bround = round_of t; step = step_of t; origin = part.me }

-- the step of the line that a slot is of
abbrev pub line_of : Slot → Option ℕ
line_of s = if within 1 200 s.bround && within 1 3 s.step then Some (3 * (s.bround - 1) + (s.step - 1)) else None

-- the part is the one at this bench
pub record IsBinaryPart (part : Part) (p : Numbers) (at : Bench) : Type 0 where
  pub numbers : p ≡ at.numbers
  pub me : part.me ≡ at.me
  pub a : part.a ≡ at.a
  pub attempt : part.attempt ≡ at.attempt

-- the rows have the votes heard at each step
abbrev pub AreRowsHeard : Bench → List (List ℕ) → List Word → Type 0
AreRowsHeard at rows w = (t k : ℕ) → t < 600 → k < at.numbers.n → row_votes rows t k ≡ heard at w t k

-- what is decided where a step is left with these votes, and what is said next if anything
abbrev pub Leaves : Part → Numbers → (Slot → Bool) → ℕ → Tally → Option Bool → Left → Type 0
Leaves part p bits t votes known left = (at : Bench) (vs : List ℕ) → IsBinaryPart part p at → IsCoin at.coin bits → IsTally votes vs →
    (left.decided ≡ option_or known (decides p t (Some vs))) × (left.next ≡ (if t == 599 then None else next_said at t known (Some vs)))

module _ (at : Bench) where
  -- step t is said, and not left
  pub record StandsAtStep (t : ℕ) (w : List Word) : Type 0 where
    pub below : t < 600
    pub value : ℕ
    pub is_said : vote_said at t w ≡ Some value
    pub not_left : left at t w ≡ None

  -- no more is said: step t is left, and is the last one or ends a round after one that decided
  pub record IsOver (t : ℕ) (w : List Word) : Type 0 where
    pub below : t < 600
    pub value : ℕ
    pub is_said : vote_said at t w ≡ Some value
    pub votes : List ℕ
    pub is_left : left at t w ≡ Some votes
    pub is_decided : binary_decision at w ≡ decided_below at (suc t) w
    pub ends : ((step_of t == 3 && is_some (decided_below at t w)) ≡ true) ⊎ (suc t ≡ steps)

  -- where the box stands after so many steps were said: no word came before the proposal
  abbrev pub IsHere : Bool → ℕ → List Word → Type 0
  IsHere false zero w = w ≡ []
  IsHere true zero w = ⊥
  IsHere false (suc t) w = StandsAtStep t w
  IsHere true (suc t) w = IsOver t w

  -- after the word c the steps below t are gone through: t is said, and was not left before
  pub record Passing (t : ℕ) (c : Word) (w : List Word) : Type 0 where
    pub value : ℕ
    pub is_said : vote_said at t (c ∷ w) ≡ Some value
    pub not_left : left at t w ≡ None

  -- the steps before one are gone through
  pub record Gone (start t : ℕ) (old new : List Say) (known : Option Bool) (c : Word) (w : List Word) : Type 0 where
    pub passing : Passing t c w
    pub decided : known ≡ decided_below at t (c ∷ w)
    pub out : List Say
    pub pushed : new ≡ old ++ out
    pub says : steps_say_below at (suc t) w c ≡ steps_say_below at (suc start) w c ++ out

  -- the word is done with
  pub record Done (start : ℕ) (old new : List Say) (place : Place) (c : Word) (w : List Word) : Type 0 where
    pub here : IsHere place.ended place.said (c ∷ w)
    pub decided : place.decided ≡ binary_decision at (c ∷ w)
    pub out : List Say
    pub pushed : new ≡ old ++ out
    pub says : steps_say_below at steps w c ≡ steps_say_below at (suc start) w c ++ out

abbrev pub LineGoesOn : Part → HeardRows → (Slot → Bool) → Place → List Say → List Say → Place → Type 0
LineGoesOn part line bits place old new next = (at : Bench) (c : Word) (w : List Word) (start : ℕ) → IsBinaryPart part line.numbers at → IsCoin at.coin bits
    → AreRowsHeard at line.rows (c ∷ w) → place.said ≡ suc start → start < 600 → Passing at start c w → place.decided ≡ decided_below at start (c ∷ w)
    → Done at start old new next c w
