-- What serving does: which calls it makes on the replicas of a world that are here, its correct ones, and which frames and replies the
-- link is given. Lists of events, of the link's calls and of rounds have the newest first.
use Rattle.std.specs.Prelude.{◌≡◌, ℕ, ◌+◌, ◌<◌, ◌^◌, Bool, true, false, not, ◌&&◌, ◌==◌, List, [], ◌∷◌, ◌++◌, length, map, filter, reverse, sum_by, Option, Some, None, nat_le, if◌then◌else◌}
use Rattle.std.specs.List.{list_all}
use Rattle.ritas_base.specs.declared.mode.FrameVersion.{FrameVersion}
use Rattle.ritas_base.specs.declared.mode.FrameVersion.TheVariants.{One, Two, Three}
use Rattle.link_resume.specs.Lists.{bytes_in, may_have}
use Rattle.ritas_base.specs.declared.event.Event.{Event}
use Rattle.ritas_base.specs.declared.event.Event.TheVariants as events
use Rattle.ritas_base.specs.declared.item.Item.{Item}
use Rattle.ritas_base.specs.History.{replicas}
use Rattle.outside.specs.declared.link.LinkItem.{LinkItem}
use Rattle.outside.specs.declared.link.LinkItem.TheVariants.{End}
use Rattle.outside.specs.Links.{LinkAct, Sends, Replies, bytes_of}
use Rattle.world_model.specs.World.{Setting, states_of, states_before, call_of}
use Rattle.world_model.specs.MadeOrder.{MadeFrame, frames_of_call}
use Rattle.world_model.specs.Agree.{rows_at, completed_at}
use Rattle.node_loop.specs.Waiting.{Waiting, nobody}
use Rattle.node_loop.specs.declared.limits.Closing.{Closing}
use Rattle.node_loop.specs.declared.limits.Limits.{Limits}
use Rattle.node_loop.specs.Chains.{closing_asked, has_ended_at, has_place_at}
use Rattle.node_loop.specs.Calls.{Outcome, event_called, epoch_closed, is_waited_for, silent, item_does, first_does}
use Rattle.node_loop.specs.Peers.{Peers, no_peers, keep_all}
use Rattle.node_loop.specs.Deeds.{act_of}
use Rattle.node_loop.specs.Resending.{Brought, nothing_more, item_brings, asks_for_more, due}
use Rattle.node_loop.specs.declared.peers.Pair.{Pair}

-- The items with which serving begins that weren't taken up yet; who waits; what is kept for peers, and who of them is marked; how many items of
-- the link were taken; and the events since it began.
pub record Serving : Type 0 where
  pub left : List LinkItem
  pub waiting : Waiting
  pub peers : Peers
  pub taken : ℕ
  pub events : List Event

abbrev pub begin : List LinkItem → Serving
begin first = record { left = first; waiting = nobody; peers = no_peers; taken = 0; events = [] }

-- all events, with those before it began
abbrev pub so_far : List Event → Serving → List Event
so_far past s = s.events ++ past

-- ---- what goes out

abbrev pub as_sent : MadeFrame → LinkAct
as_sent f = Sends (record { at = f.from; to = f.to; bytes = f.bytes })

-- the frames that the call of an event made, in their order
abbrev pub frames_made_by : Setting → List Event → Option Event → List MadeFrame
frames_made_by w es None = []
frames_made_by w es (Some e) = frames_of_call (length es) w (states_before w es) (call_of w (states_before w es) e)

-- they are sent
abbrev pub sent_by : Setting → List Event → Option Event → List LinkAct
sent_by w es e = map as_sent (frames_made_by w es e)

-- the event of a call, onto those before it
abbrev pub onto : Option Event → List Event → List Event
onto None es = es
onto (Some e) es = e ∷ es

-- the calls of the link that come of an item or a turn: its frames, then what goes to peers besides, and then its replies
abbrev pub sent_of : Setting → List Event → Outcome → Brought → List LinkAct
sent_of w es did more = reverse (map Replies did.replies) ++ (reverse (map (act_of w.keys) more.deeds) ++ reverse (sent_by w es did.event))

-- what stands with what came of an item or a turn
abbrev pub with_outcome : Outcome → Brought → Serving → Serving
with_outcome did more s = record s { waiting = did.waiting; peers = more.peers; events = onto did.event s.events }

-- ---- the rules

-- what it does next: it takes up one of its first items, ends as its epoch is over, ends as done, ends as so many bytes are kept, takes a turn at a
-- replica, closes the epoch of a number at a replica, ends at its limit, asks a marked peer of a replica to send again, or asks the link
pub data Want : Type 0 where
  Begins : LinkItem → Want
  Ends : Want
  Finishes : Want
  Overflows : ℕ → Want
  Turns : ℕ → Want
  Closes : ℕ → ℕ → Want
  Halts : Want
  Reminds : ℕ → ℕ → Want
  Asks : Want

-- the replicas here
abbrev pub here : Setting → List ℕ
here w = filter w.is_correct (replicas w.numbers.n)

-- the epoch is over here: there are replicas, and the log of each has ended
abbrev pub have_ended : Setting → List Event → List ℕ → Bool
have_ended w es [] = false
have_ended w es (i ∷ is) = list_all (has_ended_at w es) (i ∷ is)

abbrev pub is_epoch_over : Setting → List Event → Bool
is_epoch_over w es = have_ended w es (here w)

-- each log has so many rows, if that isn't 0
abbrev pub has_enough_rows : Setting → ℕ → List Event → Bool
has_enough_rows w until es = not (until == 0) && list_all (λ i. nat_le until (length (rows_at w es i))) (here w)

abbrev pub is_busy : List Item → Bool
is_busy [] = false
is_busy (item ∷ inbox) = true

-- the replicas here at which an item waits, in order
abbrev pub busy : Setting → List Event → List ℕ
busy w es = filter (λ i. is_busy (states_of w es i).inbox) (here w)

-- ---- what is kept for the peers of a replica

-- the most bytes that are kept for all peers of a replica in a session of version 3; in versions 1 and 2 there is no such limit
abbrev pub most_kept_in_all : FrameVersion → Option ℕ
most_kept_in_all One = None
most_kept_in_all Two = None
most_kept_in_all Three = Some 536870912

-- how many are
abbrev pub kept_bytes : Setting → Peers → ℕ → ℕ
kept_bytes w p i = sum_by (λ j. bytes_in (p.keeping i j)) (replicas w.numbers.n)

-- they are more
abbrev pub is_overfull : Setting → Peers → ℕ → Bool
is_overfull w p i = not (may_have (most_kept_in_all w.mode.version) (kept_bytes w p i))

-- the replicas here for whose peers too many bytes are kept, in order
abbrev pub overfull : Setting → Peers → List ℕ
overfull w p = filter (is_overfull w p) (here w)

-- it ends with the bytes that are kept at the first of these, or else this
abbrev pub overflow_or : (ℕ → ℕ) → List ℕ → Want → Want
overflow_or bytes [] other = other
overflow_or bytes (i ∷ is) other = Overflows (bytes i)

-- ---- who closes the epoch

-- a replica may close its epoch of a chain: it completed so many rounds, its log hasn't ended, and a command has a place
abbrev pub may_close : Setting → ℕ → List Event → ℕ → Bool
may_close w rounds es i = w.start.chained && (nat_le rounds (completed_at w es i) && (not (has_ended_at w es i) && has_place_at w es i))

-- it wishes to, unless the row of its closing command is waited for, as it is once it was given that
abbrev pub wishes_to_close : Setting → Closing → List Event → Waiting → ℕ → Bool
wishes_to_close w closing es ws i = may_close w closing.rounds es i && not (is_waited_for (ws (closing_asked i closing.epoch)))

-- the replicas here that do, in order
abbrev pub wishing : Setting → Closing → List Event → Waiting → List ℕ
wishing w closing es ws = filter (wishes_to_close w closing es ws) (here w)

-- the first of these closes the epoch of this number, or else this
abbrev pub close_or : ℕ → List ℕ → Want → Want
close_or epoch [] other = other
close_or epoch (i ∷ is) other = Closes i epoch

-- where it is to be closed here
abbrev pub closing_or : Setting → Option Closing → List Event → Waiting → Want → Want
closing_or w None es ws other = other
closing_or w (Some closing) es ws other = close_or closing.epoch (wishing w closing es ws) other

-- ---- what is wanted

-- a turn at the first of these, or else this
abbrev pub turn_or : List ℕ → Want → Want
turn_or [] other = other
turn_or (i ∷ is) other = Turns i

-- the first of these peers is asked to send again, or else the link for an item
abbrev pub remind_or : List Pair → Want
remind_or [] = Asks
remind_or (pair ∷ pairs) = Reminds pair.at pair.peer

-- ends at the limit, or asks
abbrev pub halt_or : Setting → Limits → List Event → ℕ → Peers → Want
halt_or w limits es taken p = if nat_le limits.items taken then Halts else remind_or (due w es (here w) p)

abbrev pub wants_of : Setting → Limits → List Event → ℕ → Waiting → Peers → Want
wants_of w limits es taken ws p =
    if is_epoch_over w es then Ends
    else if has_enough_rows w limits.rows es then Finishes
    else overflow_or (kept_bytes w p) (overfull w p) (turn_or (busy w es) (closing_or w limits.closing es ws (halt_or w limits es taken p)))

abbrev pub first_or : List LinkItem → Want → Want
first_or [] other = other
first_or (item ∷ left) other = Begins item

-- within these limits
abbrev pub wants : Setting → List Event → Limits → Serving → Want
wants w past limits s = first_or s.left (wants_of w limits (so_far past s) s.taken s.waiting s.peers)

-- ---- rounds

-- one of the first items was taken up, a turn was taken at a replica, a replica closed the epoch of a number, a peer of a replica was asked to send
-- again, or an item of the link was taken
pub data Round : Type 0 where
  Began : LinkItem → Round
  Turned : ℕ → Round
  Closed : ℕ → ℕ → Round
  Reminded : ℕ → ℕ → Round
  Took : LinkItem → Round

abbrev pub behind_first : List LinkItem → List LinkItem
behind_first [] = []
behind_first (item ∷ left) = left

-- the item is taken up
abbrev pub began : Serving → Serving
began s = record s { left = behind_first s.left }

-- an item of the link was taken
abbrev pub took : Serving → Serving
took s = record s { taken = s.taken + 1 }

-- what stands where its call is made, and what comes of that
abbrev pub at_call : Round → Serving → Serving
at_call (Began item) s = began s
at_call (Turned i) s = s
at_call (Closed i epoch) s = s
at_call (Reminded i j) s = s
at_call (Took item) s = took s

abbrev pub outcome : Setting → List Event → Round → Serving → Outcome
outcome w past (Began item) s = first_does w (so_far past s) item s.waiting
outcome w past (Turned i) s = event_called w (so_far past s) i (events.Turn i) s.waiting
outcome w past (Closed i epoch) s = epoch_closed w (so_far past s) i epoch s.waiting
outcome w past (Reminded i j) s = silent [] s.waiting
outcome w past (Took item) s = item_does w (so_far past s) item s.waiting

-- what comes of it for peers, where what is kept has the frames of its call
abbrev pub brings_peers : Setting → List Event → Round → Peers → Brought
brings_peers w es (Began item) p = nothing_more p
brings_peers w es (Turned i) p = nothing_more p
brings_peers w es (Closed i epoch) p = nothing_more p
brings_peers w es (Reminded i j) p = asks_for_more w.mode.version i j p
brings_peers w es (Took item) p = item_brings w es item p

abbrev pub brought : Setting → List Event → Round → Serving → Brought
brought w past x s = brings_peers w (so_far past s) x (keep_all w.mode.version (frames_made_by w (so_far past s) (outcome w past x s).event) s.peers)

abbrev pub round_does : Setting → List Event → Round → Serving → Serving
round_does w past x s = with_outcome (outcome w past x s) (brought w past x s) (at_call x s)

-- what stands after these rounds, of serving that begins so
abbrev pub after_from : Setting → List Event → Serving → List Round → Serving
after_from w past start [] = start
after_from w past start (x ∷ xs) = round_does w past x (after_from w past start xs)

-- an item of a link that isn't its end has at most 65,535 bytes
pub record IsGiven (item : LinkItem) : Type 0 where
  pub goes_on : item ≡ End → ⊥
  pub short : length (bytes_of item) < 2 ^ 16

-- the round is what the rules say: the end of the link is taken in none
abbrev pub IsWanted : Want → Round → Type 0
IsWanted (Begins item) (Began taken) = item ≡ taken
IsWanted (Turns i) (Turned j) = i ≡ j
IsWanted (Closes i a) (Closed j b) = (i ≡ j) × (a ≡ b)
IsWanted (Reminds i j) (Reminded k l) = (i ≡ k) × (j ≡ l)
IsWanted Asks (Took item) = IsGiven item
IsWanted want round = ⊥

-- each round was
abbrev pub AreWantedFrom : Setting → List Event → Limits → Serving → List Round → Type 0
AreWantedFrom w past limits start [] = Unit {0}
AreWantedFrom w past limits start (x ∷ xs) =
    IsWanted (wants w past limits (after_from w past start xs)) x × AreWantedFrom w past limits start xs
