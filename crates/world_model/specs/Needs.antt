-- What an event needs memory for: only where a replica reads, takes or holds something of it, or the world keeps something, can it be
-- without.
use Rattle.std.specs.Prelude.{◌≡◌, ◌≢◌, ℕ, true, [], Option, Some, None, ⊤}
use Rattle.ritas_base.specs.declared.event.Event.{Event}
use Rattle.ritas_base.specs.declared.event.Event.TheVariants as events
use Rattle.ritas_core.specs.Rules.{Rules}
use Rattle.ritas_core.specs.Machine as core
use Rattle.ritas_core.specs.Machine.{CoreState, What}
use Rattle.ritas_core.specs.Calls.{IsCoreStep}
use Rattle.replica.specs.Stands.{core_call}
use Rattle.world_model.specs.World.{Setting, rules_at, CallAt, call_of}

-- what a core is called with: an item, which is read; an input that passes the checks; and a turn where an item waits. A frame that
-- brings no item is nothing to it
abbrev pub CoreNeeds : Rules → CoreState → Option What → Type 0
CoreNeeds r st None = ⊥
CoreNeeds r st (Some (core.Frame item)) = ⊤
CoreNeeds r st (Some (core.Input value)) = IsCoreStep r st (core.Input value)
CoreNeeds r st (Some core.Turn) = st.inbox ≢ []

-- a call on a correct replica
abbrev pub CallNeeds : Setting → (ℕ → CoreState) → Option CallAt → Type 0
CallNeeds w states None = ⊥
CallNeeds w states (Some c) = CoreNeeds (rules_at w c.at) (states c.at) (core_call (rules_at w c.at) (w.keys c.at) c.call)

-- an event; a body is sealed for any correct receiver, whatever it is to that
abbrev pub EventNeeds : Setting → (ℕ → CoreState) → Event → Type 0
EventNeeds w states (events.Sealed from to body) = w.is_correct to ≡ true
EventNeeds w states e = CallNeeds w states (call_of w states e)
