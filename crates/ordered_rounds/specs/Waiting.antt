-- What the current round waits for: the identifiers that its decision wants, once it is there.
use Rattle.std.specs.Prelude.{◌≡◌, ℕ, List, Option, Some, None, ⊤}
use Rattle.std.specs.declared.vec.Vec.{Vec}
use Rattle.ritas_base.specs.declared.id.Id.{Id}
use Rattle.ritas_base.specs.Numbers.{Numbers}
use Rattle.ordered_rounds.specs.BoxCalls.{RoundShown}
use Rattle.ordered_rounds.specs.Box.{RoundRules}

-- what a box decided, where there is one
abbrev pub decision_in : {V : Type 0} → (V → RoundShown) → Option V → Option (List ℕ)
decision_in shown None = None
decision_in shown (Some x) = (shown x).decision

-- something is decided, and wants these
pub record AreWantedIds (v : RoundRules) (p : Numbers) (decided : Option (List ℕ)) (ids : List Id) : Type 0 where
  pub value : List ℕ
  pub is : decided ≡ Some value
  pub ids_are : ids ≡ v.wanted p value

-- what it waits for, if anything, the decision wants
abbrev pub Awaits : {Z : Type 0} → RoundRules → Numbers → Option (List ℕ) → Option (Vec Id Z) → Type 0
Awaits v p decided None = ⊤
Awaits v p decided (Some ids) = AreWantedIds v p decided ids.items

-- and it waits where something is decided
abbrev pub Knows : {Z : Type 0} → RoundRules → Numbers → Option (List ℕ) → Option (Vec Id Z) → Type 0
Knows v p decided None = decided ≡ None
Knows v p decided (Some ids) = AreWantedIds v p decided ids.items

abbrev pub LearnsWanted : {V Z : Type 0} → RoundRules → (V → RoundShown) → Numbers → Option V → Option (Vec Id Z) → Option (Vec Id Z) → Type 0
LearnsWanted v shown p one old new = Awaits v p (decision_in shown one) old → Knows v p (decision_in shown one) new
