-- The frames that the correct replicas of a world made, in the order in which they were made.
use Rattle.std.specs.Prelude.{ℕ, List, [], ◌∷◌, ◌++◌, length, map, Option, Some, None}
use Rattle.ritas_base.specs.declared.event.Event.{Event}
use Rattle.ritas_core.specs.Machine.{CoreState}
use Rattle.world_model.specs.declared.order.Made.{Made}
use Rattle.world_model.specs.World.{Setting, CallAt, call_of, handled_at, states_before}

-- a frame that was made: in which event, by whom and for whom
pub record MadeFrame : Type 0 where
  pub event : ℕ
  pub from : ℕ
  pub to : ℕ
  pub bytes : List ℕ

-- the one that a value of the struct shows
abbrev pub made_of : Made → MadeFrame
made_of m = record { event = m.event; from = m.from; to = m.to; bytes = m.frame.now }

-- those that a call of a replica made, in the event of this number
abbrev pub frames_of_call : ℕ → Setting → (ℕ → CoreState) → Option CallAt → List MadeFrame
frames_of_call k w states None = []
frames_of_call k w states (Some c) =
    map (λ o. record { event = k; from = c.at; to = o.to; bytes = o.bytes }) (handled_at w states c).out

-- all that were made in these events, the oldest first
unfoldable pub all_made : Setting → List Event → List MadeFrame
all_made w [] = []
all_made w (e ∷ es) =
    all_made w es ++ frames_of_call (length es) w (states_before w es) (call_of w (states_before w es) e)
