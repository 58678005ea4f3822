-- What serving begins with after events that a journal kept. Lists of events have the newest first, and what is kept for a peer the oldest.
use Rattle.std.specs.Prelude.{List, [], ◌∷◌, length, map, Some, None}
use Rattle.ritas_base.specs.declared.event.Event.{Event}
use Rattle.ritas_base.specs.declared.event.Event.TheVariants as events
use Rattle.ritas_base.specs.declared.mode.FrameVersion.{FrameVersion}
use Rattle.link_resume.specs.Lists.{room_for, most_kept}
use Rattle.world_model.specs.World.{Setting}
use Rattle.world_model.specs.MadeOrder.{MadeFrame, all_made}
use Rattle.node_loop.specs.Calls.{Outcome, event_called, silent, submitted}
use Rattle.node_loop.specs.Peers.{Peers, no_peers, keeps, with_list}
use Rattle.node_loop.specs.Serving.{Serving, Round, frames_made_by, so_far}
use Rattle.node_loop.specs.Deeds.{Deed, Made, pushed}
use Rattle.node_loop.specs.Told.{after_groups}
use Rattle.node_loop.specs.Waiting.{Waiting, nobody}

-- a frame is kept; where it doesn't fit, the oldest are dropped first
abbrev pub keep_newest : FrameVersion → MadeFrame → Peers → Peers
keep_newest version f p =
    with_list f.from f.to (keeps version f.bytes (room_for (most_kept version) (length f.bytes) (p.keeping f.from f.to))) p

abbrev pub all_newest : FrameVersion → List MadeFrame → Peers → Peers
all_newest version [] p = p
all_newest version (f ∷ fs) p = all_newest version fs (keep_newest version f p)

-- what comes of an event that is recovered: an input that is taken waits for its row with no connection
abbrev pub recalled : Setting → List Event → Event → Waiting → Outcome
recalled w es (events.Frame to bytes) ws = event_called w es to (events.Frame to bytes) ws
recalled w es (events.Input at bytes) ws = submitted w es at None bytes ws
recalled w es (events.Turn at) ws = event_called w es at (events.Turn at) ws
recalled w es (events.Pass from to m) ws = silent [] ws
recalled w es (events.Sealed from to body) ws = silent [] ws

-- who waits after these events
abbrev pub recalled_waiting : Setting → List Event → Waiting
recalled_waiting w [] = nobody
recalled_waiting w (e ∷ es) = (recalled w es e (recalled_waiting w es)).waiting

-- what is kept for peers after them; nobody is marked
abbrev pub recalled_peers : Setting → List Event → Peers
recalled_peers w [] = no_peers
recalled_peers w (e ∷ es) = all_newest w.mode.version (frames_made_by w es (Some e)) (recalled_peers w es)

-- with what serving begins after these events; none of their frames goes out by it
abbrev pub recovered : Setting → List Event → Serving
recovered w past = record { left = []; waiting = recalled_waiting w past; peers = recalled_peers w past; taken = 0; events = [] }

-- the frames that these events made, as if they had gone out before the call: those that stopped lives gave to a link are among them
abbrev pub recalled_deeds : Setting → List Event → List Deed
recalled_deeds w past = pushed (map Made (all_made w past)) []

-- serving with all events that the tape takes, of which the past ones come first
abbrev pub with_past : List Event → Serving → Serving
with_past past s = record s { events = so_far past s }

-- the events before the newest group's; where there is no group yet, those before the past ones, which are none
abbrev pub earlier_with : Setting → List Event → List (List Round) → List Event
earlier_with w past [] = []
earlier_with w past (group ∷ older) = so_far past (after_groups w past (recovered w past) older)
