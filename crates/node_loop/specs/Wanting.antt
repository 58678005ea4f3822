-- Where memory may run out: what a call that hands on another's answer says of want of memory.
use Rattle.std.specs.Prelude.{◌≡◌, ◌≢◌, ℕ, Bool, true, false, List, Option, Some, None}
use Rattle.std.specs.List.{list_any}
use Rattle.ritas_base.specs.declared.event.Event.{Event}
use Rattle.ritas_base.specs.declared.event.Event.TheVariants as events
use Rattle.keyed_channel.specs.Notes.{is_note}
use Rattle.client_port.specs.Messages.{Request, request_in, query_in}
use Rattle.command_log.specs.Rows.{position_of}
use Rattle.outside.specs.declared.link.LinkItem.{LinkItem}
use Rattle.outside.specs.declared.link.LinkItem.TheVariants as items
use Rattle.world_model.specs.World.{Setting}
use Rattle.world_model.specs.Agree.{rows_at}
use Rattle.world_model.specs.declared.seen.Seen.{Seen}
use Rattle.node_loop.specs.declared.waiting.Asked.{Asked}
use Rattle.node_loop.specs.Calls.{asked_in, is_waited_for, refusal_in}
use Rattle.node_loop.specs.Chains.{is_reserved, is_crowded}
use Rattle.node_loop.specs.Waiting.{Waiting, is_conn}

-- ---- a message of a client

-- A request for which these wait wants memory only where its connection doesn't wait yet. One that
-- is submitted may want it anyhow, and one that has no place in an epoch of a chain only to reply to a
-- connection.
abbrev pub OfferedMayWant : Option ℕ → List (Option ℕ) → Bool → Type 0
OfferedMayWant conn waits false = is_waited_for waits ≡ true → list_any (is_conn conn) waits ≡ false
OfferedMayWant conn waits true = (is_waited_for waits ≡ true → list_any (is_conn conn) waits ≡ false)
    × (is_waited_for waits ≡ false → conn ≢ None)

-- One whose row has a position wants it only to reply to a connection, and so does one of the closing
-- client, of whom none is submitted in an epoch of a chain.
abbrev pub AskedMayWant : Option ℕ → List (Option ℕ) → Bool → Bool → Option ℕ → Type 0
AskedMayWant conn waits reserved crowded (Some position) = conn ≢ None
AskedMayWant conn waits true crowded None = conn ≢ None
AskedMayWant conn waits false crowded None = OfferedMayWant conn waits crowded

-- of a request, in the log of a replica
abbrev pub WaitMayWant : Setting → List Event → ℕ → Option ℕ → Waiting → Asked → Type 0
WaitMayWant w es at conn ws a =
    AskedMayWant conn (ws a) (is_reserved w a.client) (is_crowded w es at) (position_of (rows_at w es at) a.client a.request)

-- a message that is no query: what no request is, is submitted
abbrev pub RequestMayWant : Setting → List Event → ℕ → Option ℕ → List ℕ → Waiting
    → Option Request → Type 0
RequestMayWant w es at conn bytes ws None = Unit {0}
RequestMayWant w es at conn bytes ws (Some r) = WaitMayWant w es at conn ws (asked_in at bytes)

-- a message to a replica that is here; a query may want it anyhow
pub record MessageMayWant (w : Setting) (es : List Event) (at : ℕ) (conn : Option ℕ)
    (bytes : List ℕ) (ws : Waiting) : Type 0 where
  pub here : w.is_correct at ≡ true
  pub request : query_in bytes ≡ None → RequestMayWant w es at conn bytes ws (request_in bytes)

-- ---- an item

-- a frame that is no note, and a message
abbrev pub ItemMayWant : Setting → List Event → LinkItem → Waiting → Type 0
ItemMayWant w es (items.Frame to bytes) ws = (w.is_correct to ≡ true) × (is_note bytes ≡ false)
ItemMayWant w es (items.Client at conn bytes) ws = MessageMayWant w es at (Some conn) bytes ws
ItemMayWant w es item ws = ⊥

-- ---- an event that happens again

-- an input that was answered so, and isn't refused, waits with no connection unless it does already
abbrev pub WaitAgainMayWant : Event → Seen → Waiting → Type 0
WaitAgainMayWant (events.Input at bytes) answer ws =
    (refusal_in answer ≡ None) × (list_any (is_conn None) (ws (asked_in at bytes)) ≡ false)
WaitAgainMayWant (events.Frame to bytes) answer ws = ⊥
WaitAgainMayWant (events.Turn at) answer ws = ⊥
WaitAgainMayWant (events.Pass from to m) answer ws = ⊥
WaitAgainMayWant (events.Sealed from to body) answer ws = ⊥
