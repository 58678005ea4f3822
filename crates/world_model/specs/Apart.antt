-- What agreement says of two different correct replicas: nothing that they deliver, log or decide sets them apart.
use Rattle.std.specs.Prelude.{◌≡◌, ◌≢◌, ℕ, true, List, length, Some}
use Rattle.ritas_base.specs.declared.event.Event.{Event}
use Rattle.ritas_base.specs.declared.slot.Slot.{Slot}
use Rattle.layer_api.specs.Service.{Instance, LastVector, Decision, Decided}
use Rattle.command_log.specs.Rows.{Row, row_at}
use Rattle.world_model.specs.World.{Setting}
use Rattle.world_model.specs.OneValueEach.{delivered}
use Rattle.world_model.specs.Agree.{rows_at, identifier_log, outcome_of, decision_of, last_vector_at, Agree}

-- two different replicas, both correct
pub record AreTwo (w : Setting) (i j : ℕ) : Type 0 where
  pub differ : i ≢ j
  pub first : w.is_correct i ≡ true
  pub second : w.is_correct j ≡ true

-- they deliver no two values at a slot
abbrev pub NoTwoValues : Type 0
NoTwoValues = (w : Setting) (es : List Event) → Agree w es → (i j : ℕ) → AreTwo w i j → (s : Slot) (v u : List ℕ) → v ≢ u
    → delivered w es i s ≡ Some v → delivered w es j s ≡ Some u → ⊥

-- their logs of commands have no two rows at a position
abbrev pub NoTwoRows : Type 0
NoTwoRows = (w : Setting) (es : List Event) → Agree w es → (i j : ℕ) → AreTwo w i j → (position : ℕ) (r q : Row)
    → row_at (rows_at w es i) position ≡ Some r → row_at (rows_at w es j) position ≡ Some q → r ≡ q

-- their identifier logs are equal where they are equally long
abbrev pub NoTwoIdentifierLogs : Type 0
NoTwoIdentifierLogs = (w : Setting) (es : List Event) → Agree w es → (i j : ℕ) → AreTwo w i j
    → length (identifier_log w es i) ≡ length (identifier_log w es j) → identifier_log w es i ≡ identifier_log w es j

-- of their one instance no two things become, once it is decided
abbrev pub NoTwoOutcomes : Type 0
NoTwoOutcomes = (w : Setting) (es : List Event) → Agree w es → (i j : ℕ) → AreTwo w i j → (d e : Decision) → d ≢ e
    → outcome_of w es i ≡ Decided d → outcome_of w es j ≡ Decided e → ⊥

-- they decide no instance inside in two ways
abbrev pub NoTwoDecisions : Type 0
NoTwoDecisions = (w : Setting) (es : List Event) → Agree w es → (i j : ℕ) → AreTwo w i j → (x : Instance) (d e : Decision) → d ≢ e
    → decision_of w es i x ≡ Some d → decision_of w es j x ≡ Some e → ⊥

-- their last vectors are no two of one round
abbrev pub NoTwoVectors : Type 0
NoTwoVectors = (w : Setting) (es : List Event) → Agree w es → (i j : ℕ) → AreTwo w i j → (x y : LastVector) → x ≢ y → x.round ≡ y.round
    → last_vector_at w es i ≡ Some x → last_vector_at w es j ≡ Some y → ⊥
