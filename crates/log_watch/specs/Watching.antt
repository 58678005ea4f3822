-- What watching does to a link, and how it ends. Lists of the link's calls and of its items have the newest first.
use Rattle.std.specs.Prelude.{◌≡◌, ◌⊎◌, ℕ, ◌≤◌, Bool, true, false, ◌&&◌, nat_le, List, [], ◌∷◌, ◌++◌, length, Option, Some, None, is_some}
use Rattle.ritas_base.specs.Numbers.{Numbers}
use Rattle.outside.specs.Faults.{Rose}
use Rattle.outside.specs.LinkCalls.{TookBack}
use Rattle.outside.specs.Links.{LinkAct, Starts, Gives, failed_once, short_once}
use Rattle.outside.specs.declared.link.FaultCounts.{FaultCounts}
use Rattle.outside.specs.declared.link.LinkItem.{LinkItem}
use Rattle.outside.specs.declared.link.LinkItem.TheVariants as items
use Rattle.command_log.specs.Rows.{Row}
use Rattle.client_port.specs.Messages.{query_bytes}
use Rattle.observer.specs.Reading.{piece_in}
use Rattle.observer.specs.Watching.{Gift, observed, piece_fault}
use Rattle.observer.specs.declared.fault.PieceFault.{PieceFault}
use Rattle.request_submit.specs.Submitting.{plan_of, message_sent_to, sent_to_each}
use Rattle.log_watch.specs.declared.end.WatchEnd.{WatchEnd}
use Rattle.log_watch.specs.declared.end.WatchEnd.TheVariants as ends

-- ---- what is taken

-- a piece is taken where it isn't refused
abbrev pub taken_if : Option PieceFault → Gift → List Gift → List Gift
taken_if None g h = g ∷ h
taken_if (Some fault) g h = h

-- of items the pieces that are taken: each reply is one, or is refused
abbrev pub gifts_of : Numbers → List LinkItem → List Gift
gifts_of p [] = []
gifts_of p (items.Frame to bytes ∷ older) = gifts_of p older
gifts_of p (items.Client at conn bytes ∷ older) = gifts_of p older
gifts_of p (items.Reply from bytes ∷ older) =
    taken_if (piece_fault p (observed p (gifts_of p older)) from bytes)
    (record { from = from; piece = piece_in bytes }) (gifts_of p older)
gifts_of p (items.Up at peer ∷ older) = gifts_of p older
gifts_of p (items.Down at peer ∷ older) = gifts_of p older
gifts_of p (items.Left at conn ∷ older) = gifts_of p older
gifts_of p (items.End ∷ older) = gifts_of p older

-- the log after these items
abbrev pub log_after : Numbers → List LinkItem → List Row
log_after p older = (observed p (gifts_of p older)).rows

-- ---- what is asked

-- the link is started for a client of these nodes, and each is asked for position 0, in ascending order
abbrev pub begun : Numbers → List (List ℕ) → List LinkAct
begun p nodes = sent_to_each p.n (query_bytes 0) ++ Starts (plan_of nodes) ∷ []

abbrev pub node_if : Option PieceFault → ℕ → Option ℕ
node_if None from = Some from
node_if (Some fault) from = None

-- the node that is asked next with an item behind older ones: one that replied, where its piece is taken
abbrev pub asked_next : Numbers → List LinkItem → LinkItem → Option ℕ
asked_next p older (items.Frame to bytes) = None
asked_next p older (items.Client at conn bytes) = None
asked_next p older (items.Reply from bytes) = node_if (piece_fault p (observed p (gifts_of p older)) from bytes) from
asked_next p older (items.Up at peer) = None
asked_next p older (items.Down at peer) = None
asked_next p older (items.Left at conn) = None
asked_next p older items.End = None

abbrev pub query_to : Option ℕ → ℕ → List LinkAct
query_to None position = []
query_to (Some node) position = message_sent_to (query_bytes position) node ∷ []

-- the calls with these items: each was given, and then the node that is asked next was asked for the log's length
abbrev pub watching_acts : Numbers → List (List ℕ) → List LinkItem → List LinkAct
watching_acts p nodes [] = begun p nodes
watching_acts p nodes (item ∷ older) =
    query_to (asked_next p older item) (length (log_after p (item ∷ older)))
    ++ Gives item ∷ watching_acts p nodes older

-- ---- how it ends

-- the item is a reply whose piece is taken, and with it the log has as many rows as are wanted
abbrev pub reaches : Numbers → ℕ → List LinkItem → LinkItem → Bool
reaches p until older item = is_some (asked_next p older item) && nat_le until (length (log_after p (item ∷ older)))

-- an item that isn't the link's end, and with which the log hasn't as many rows
pub record WatchesOn (p : Numbers) (until : ℕ) (older : List LinkItem) (item : LinkItem) : Type 0 where
  pub more : item ≡ items.End → ⊥
  pub short : reaches p until older item ≡ false

-- each of these items is such a one behind the older ones
abbrev pub KeepsWatching : Numbers → ℕ → List LinkItem → Type 0
KeepsWatching p until [] = Unit {0}
KeepsWatching p until (item ∷ older) = WatchesOn p until older item × KeepsWatching p until older

-- the calls with these items, and with one more if there was one, were made up to a point
abbrev pub StopsWatching : Numbers → List (List ℕ) → List LinkItem → List LinkAct → List LinkAct → Type 0
StopsWatching p nodes older old new =
    TookBack old new (watching_acts p nodes older)
    ⊎ ((item : LinkItem) × TookBack old new (watching_acts p nodes (item ∷ older)))

-- with one item more the log is long enough, and no query follows it
pub record LongEnough (p : Numbers) (nodes : List (List ℕ)) (until : ℕ) (older : List LinkItem) (rows : List Row)
    (tells : Bool) (old new : List LinkAct) : Type 0 where
  pub item : LinkItem
  pub long : reaches p until older item ≡ true
  pub log : rows ≡ log_after p (item ∷ older)
  pub told : tells ≡ true → new ≡ Gives item ∷ watching_acts p nodes older ++ old

-- the log is that after all items, and the last call gave the link's end
pub record EndGiven (p : Numbers) (nodes : List (List ℕ)) (older : List LinkItem) (rows : List Row)
    (tells : Bool) (old new : List LinkAct) : Type 0 where
  pub log : rows ≡ log_after p older
  pub told : tells ≡ true → new ≡ Gives items.End ∷ watching_acts p nodes older ++ old

-- each end, with the rows that the log has then
abbrev pub WatchingEndsSo : Numbers → List (List ℕ) → ℕ → List LinkItem → List Row → Bool → List LinkAct → List LinkAct
    → FaultCounts → FaultCounts → WatchEnd → Type 0
WatchingEndsSo p nodes until older rows tells old new before after ends.Rows =
    LongEnough p nodes until older rows tells old new
WatchingEndsSo p nodes until older rows tells old new before after ends.End = EndGiven p nodes older rows tells old new
WatchingEndsSo p nodes until older rows tells old new before after ends.LinkFault =
    Rose before.failed after.failed × (tells ≡ true → StopsWatching p nodes older old new)
WatchingEndsSo p nodes until older rows tells old new before after ends.Mem =
    tells ≡ true → StopsWatching p nodes older old new

-- the link's counts: one of its calls failed where that ended it, at most one was without memory where that did, and
-- else none
abbrev pub HasWatchCause : FaultCounts → FaultCounts → WatchEnd → Type 0
HasWatchCause before after ends.Rows = after ≡ before
HasWatchCause before after ends.End = after ≡ before
HasWatchCause before after ends.LinkFault = after ≡ failed_once before
HasWatchCause before after ends.Mem = (after ≡ before) ⊎ (after ≡ short_once before)

-- There are items, of which none was the link's end and with none of which the log was long enough, after which it
-- ended so. The log is that after these items, or after these and one more.
pub record Watches (p : Numbers) (nodes : List (List ℕ)) (until : ℕ) (rows : List Row) (tells : Bool)
    (old new : List LinkAct) (before after : FaultCounts) (end : WatchEnd) : Type 0 where
  pub items : List LinkItem
  pub on : KeepsWatching p until items
  pub log : (rows ≡ log_after p items) ⊎ ((item : LinkItem) × (rows ≡ log_after p (item ∷ items)))
  pub later : before.failed ≤ after.failed
  pub cause : HasWatchCause before after end
  pub so : WatchingEndsSo p nodes until items rows tells old new before after end
