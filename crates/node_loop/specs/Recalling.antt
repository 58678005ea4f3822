-- Who waits while an event that a journal kept happens again.
use Rattle.std.specs.Prelude.{ℕ, List, Option, Some, None}
use Rattle.ritas_base.specs.declared.event.Event.{Event}
use Rattle.ritas_base.specs.declared.event.Event.TheVariants as events
use Rattle.world_model.specs.declared.seen.Seen.{Seen}
use Rattle.node_loop.specs.Calls.{asked_in, refusal_in}
use Rattle.node_loop.specs.Waiting.{Waiting, with_waiter}

-- an input waits for its row with no connection, unless it is refused
abbrev pub waits_unless : Option ℕ → ℕ → List ℕ → Waiting → Waiting
waits_unless (Some code) at bytes ws = ws
waits_unless None at bytes ws = with_waiter (asked_in at bytes) None ws

-- who waits as the rows of an event come in that was answered so
abbrev pub waits_again : Event → Seen → Waiting → Waiting
waits_again (events.Input at bytes) answer ws = waits_unless (refusal_in answer) at bytes ws
waits_again (events.Frame to bytes) answer ws = ws
waits_again (events.Turn at) answer ws = ws
waits_again (events.Pass from to m) answer ws = ws
waits_again (events.Sealed from to body) answer ws = ws
