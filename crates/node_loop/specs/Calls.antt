-- What comes of a call on a replica, and of a message of a client. Lists of events have the newest first; replies stand in the
-- order in which they go out.
use Rattle.std.specs.Prelude.{ℕ, Bool, true, false, List, [], ◌∷◌, ◌++◌, length, Option, Some, None, nat_le, nat_lt, if◌then◌else◌}
use Rattle.ritas_base.specs.declared.event.Event.{Event}
use Rattle.ritas_base.specs.declared.event.Event.TheVariants as events
use Rattle.ritas_base.specs.Limits.{request_front}
use Rattle.outside.specs.declared.link.LinkItem.{LinkItem}
use Rattle.outside.specs.declared.link.LinkItem.TheVariants as items
use Rattle.outside.specs.declared.link.Sent.{Sent}
use Rattle.keyed_channel.specs.Notes.{is_note}
use Rattle.client_port.specs.Messages.{Request, four_bytes_at, request_in, query_in, position_reply, refusal_reply}
use Rattle.command_log.specs.Rows.{Row, position_of}
use Rattle.command_log.specs.Pieces.{piece_bytes, piece_of_log}
use Rattle.ritas_core.specs.declared.fault.CoreFault.{CoreFault}
use Rattle.ritas_core.specs.declared.fault.CoreFault.TheVariants as faults
use Rattle.replica.specs.declared.refusal.Refusal.TheVariants as refusals
use Rattle.world_model.specs.declared.seen.Seen.{Seen}
use Rattle.world_model.specs.declared.seen.Seen.TheVariants as seen
use Rattle.world_model.specs.World.{Setting, seen_of}
use Rattle.world_model.specs.Agree.{rows_at}
use Rattle.node_loop.specs.declared.waiting.Asked.{Asked}
use Rattle.node_loop.specs.Waiting.{Waiting, with_waiter, without_asked, left_off}
use Rattle.node_loop.specs.Chains.{closing_command, is_reserved, is_crowded}

-- what comes of an item or a turn: the event that it is, if it is one, the replies, and who waits then
pub record Outcome : Type 0 where
  pub event : Option Event
  pub replies : List Sent
  pub waiting : Waiting

-- ---- replies

-- a connection of a replica is replied to, if there is one
abbrev pub reply : ℕ → List ℕ → Option ℕ → List Sent
reply at bytes None = []
reply at bytes (Some conn) = record { at = at; to = conn; bytes = bytes } ∷ []

-- each of these is, one after the other
abbrev pub reply_each : ℕ → List ℕ → List (Option ℕ) → List Sent
reply_each at bytes [] = []
reply_each at bytes (conn ∷ conns) = reply at bytes conn ++ reply_each at bytes conns

abbrev pub asked_by : ℕ → Row → Asked
asked_by at row = record { at = at; client = row.client; request = row.request }

-- The rows of a log behind the first so many come in: nobody waits for them any more. Rows have the newest first, and the one in front
-- of others stands at the position of their number.
abbrev pub waiting_left_by : ℕ → ℕ → List Row → Waiting → Waiting
waiting_left_by at count [] ws = ws
waiting_left_by at count (row ∷ rows) ws = if nat_lt (length rows) count then ws else without_asked (asked_by at row) (waiting_left_by at count rows ws)

-- and all that waited for them are replied their positions
abbrev pub replies_by : ℕ → ℕ → List Row → Waiting → List Sent
replies_by at count [] ws = []
replies_by at count (row ∷ rows) ws = if nat_lt (length rows) count then []
    else replies_by at count rows ws
    ++ reply_each at (position_reply row.client row.request (length rows)) (waiting_left_by at count rows ws (asked_by at row))

-- ---- one call on a replica

-- an event at a replica: the rows that come in by it are replied to
abbrev pub event_called : Setting → List Event → ℕ → Event → Waiting → Outcome
event_called w es at e ws = let count = length (rows_at w es at) in let rows = rows_at w (e ∷ es) at in record {
  event = Some e;
  replies = replies_by at count rows ws;
  waiting = waiting_left_by at count rows ws;
}

-- ---- a message of a client

abbrev pub fault_number : CoreFault → ℕ
fault_number faults.NotOrigin = 1
fault_number faults.NotForMe = 2
fault_number (faults.Past x) = 3
fault_number (faults.Ahead x) = 4
fault_number (faults.HeldFull x) = 5
fault_number faults.InputTaken = 6
fault_number (faults.WindowFull x) = 7
fault_number (faults.Input x) = 8
fault_number faults.Mem = 9
fault_number faults.Stopped = 10

-- the number of the fault with which an input is refused, if it is
abbrev pub refusal_in : Seen → Option ℕ
refusal_in (seen.Refused (refusals.Core fault)) = Some (fault_number fault)
refusal_in _ = None

-- the request that a message is at a replica; of one that is too short for a request's front the numbers are 0
abbrev pub asked_in : ℕ → List ℕ → Asked
asked_in at bytes = if nat_le request_front (length bytes)
    then record { at = at; client = four_bytes_at 0 bytes; request = four_bytes_at 4 bytes }
    else record { at = at; client = 0; request = 0 }

-- what is refused is replied to, after what else comes of the call
abbrev pub refusal_replied : Setting → List Event → ℕ → Option ℕ → List ℕ → ℕ → Waiting → Outcome
refusal_replied w es at conn bytes code ws = let did = event_called w es at (events.Input at bytes) ws in record did {
  replies = did.replies ++ reply at (refusal_reply (asked_in at bytes).client (asked_in at bytes).request code) conn;
}

-- what is taken waits for its row
abbrev pub request_taken : Setting → List Event → ℕ → Option ℕ → List ℕ → Waiting → Outcome
request_taken w es at conn bytes ws = event_called w es at (events.Input at bytes) (with_waiter (asked_in at bytes) conn ws)

abbrev pub submitted_so : Setting → List Event → ℕ → Option ℕ → List ℕ → Waiting → Option ℕ → Outcome
submitted_so w es at conn bytes ws (Some code) = refusal_replied w es at conn bytes code ws
submitted_so w es at conn bytes ws None = request_taken w es at conn bytes ws

-- the message is an input of the replica
abbrev pub submitted : Setting → List Event → ℕ → Option ℕ → List ℕ → Waiting → Outcome
submitted w es at conn bytes ws = submitted_so w es at conn bytes ws (refusal_in (seen_of w es (events.Input at bytes)))

-- no call is made
abbrev pub silent : List Sent → Waiting → Outcome
silent replies ws = record { event = None; replies = replies; waiting = ws }

abbrev pub is_waited_for : List (Option ℕ) → Bool
is_waited_for [] = false
is_waited_for (conn ∷ conns) = true

-- a request is refused without a call
abbrev pub turned_away : ℕ → Option ℕ → List ℕ → ℕ → Waiting → Outcome
turned_away at conn bytes code ws = silent (reply at (refusal_reply (asked_in at bytes).client (asked_in at bytes).request code) conn) ws

-- one that is new is submitted; in an epoch of a chain it is refused as for a full window, where it has no place
abbrev pub offered : Setting → List Event → ℕ → Option ℕ → List ℕ → Waiting → Outcome
offered w es at conn bytes ws = if is_crowded w es at then turned_away at conn bytes 7 ws else submitted w es at conn bytes ws

-- one that waits isn't submitted again
abbrev pub offered_unless : Setting → List Event → ℕ → Option ℕ → List ℕ → Waiting → Bool → Outcome
offered_unless w es at conn bytes ws true = silent [] (with_waiter (asked_in at bytes) conn ws)
offered_unless w es at conn bytes ws false = offered w es at conn bytes ws

-- A request whose row is in the log is replied its position. In an epoch of a chain one of the closing client is refused as what is no
-- input is: replicas alone submit such a one.
abbrev pub asked_so : Setting → List Event → ℕ → Option ℕ → List ℕ → Waiting → Option ℕ → Outcome
asked_so w es at conn bytes ws (Some position) =
    silent (reply at (position_reply (asked_in at bytes).client (asked_in at bytes).request position) conn) ws
asked_so w es at conn bytes ws None = if is_reserved w (asked_in at bytes).client
    then turned_away at conn bytes 8 ws else offered_unless w es at conn bytes ws (is_waited_for (ws (asked_in at bytes)))

-- what no request is, is submitted, so that it is refused
abbrev pub asks_so : Setting → List Event → ℕ → Option ℕ → List ℕ → Waiting → Option Request → Outcome
asks_so w es at conn bytes ws None = submitted w es at conn bytes ws
asks_so w es at conn bytes ws (Some r) = asked_so w es at conn bytes ws (position_of (rows_at w es at) r.client r.request)

-- a query is answered at once, with the piece of the log from its position on, as the replica has it now
abbrev pub queried : Setting → List Event → ℕ → Option ℕ → ℕ → Waiting → Outcome
queried w es at conn position ws = silent (reply at (piece_bytes (piece_of_log (rows_at w es at) position)) conn) ws

abbrev pub asks_but : Setting → List Event → ℕ → Option ℕ → List ℕ → Waiting → Option ℕ → Outcome
asks_but w es at conn bytes ws (Some position) = queried w es at conn position ws
asks_but w es at conn bytes ws None = asks_so w es at conn bytes ws (request_in bytes)

-- a client's message to a replica, by a connection or as one of the first items: a query, or what is to be a request
abbrev pub asks : Setting → List Event → ℕ → Option ℕ → List ℕ → Waiting → Outcome
asks w es at conn bytes ws = asks_but w es at conn bytes ws (query_in bytes)

-- ---- the end of an epoch

-- a replica closes its epoch: the closing command is an input of it, and nobody is replied to for that
abbrev pub epoch_closed : Setting → List Event → ℕ → ℕ → Waiting → Outcome
epoch_closed w es i epoch ws = submitted w es i None (closing_command epoch) ws

-- ---- an item

-- of a replica that isn't here nothing comes
abbrev pub if_here : Setting → ℕ → Outcome → Waiting → Outcome
if_here w at did ws = if w.is_correct at then did else silent [] ws

-- an item that the link gave: a note is no call
abbrev pub item_does : Setting → List Event → LinkItem → Waiting → Outcome
item_does w es (items.Frame to bytes) ws = if_here w to (if is_note bytes then silent [] ws else event_called w es to (events.Frame to bytes) ws) ws
item_does w es (items.Client at conn bytes) ws = if_here w at (asks w es at (Some conn) bytes ws) ws
item_does w es (items.Reply from bytes) ws = silent [] ws
item_does w es (items.Up at peer) ws = silent [] ws
item_does w es (items.Down at peer) ws = silent [] ws
item_does w es (items.Left at conn) ws = silent [] (left_off at conn ws)
item_does w es items.End ws = silent [] ws

-- one with which serving begins gets no reply
abbrev pub first_does : Setting → List Event → LinkItem → Waiting → Outcome
first_does w es (items.Client at conn bytes) ws = if_here w at (asks w es at None bytes ws) ws
first_does w es item ws = silent [] ws
