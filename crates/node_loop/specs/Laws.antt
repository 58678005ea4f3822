-- What serving keeps to.
use Rattle.std.specs.Prelude.{◌≡◌, ℕ, ◌<◌, ◌^◌, Bool, true, false, List, [], ◌∷◌, ◌++◌, length, map, reverse, Some, Ok}
use Rattle.std.specs.List.{All, AllByRecursion}
use Rattle.ritas_base.specs.declared.event.Event.{Event}
use Rattle.ritas_base.specs.declared.event.Event.TheVariants as events
use Rattle.outside.specs.declared.link.LinkItem.{LinkItem}
use Rattle.outside.specs.declared.link.Sent.{Sent}
use Rattle.outside.specs.Links.{replies_in}
use Rattle.client_port.specs.Messages.{form_in, position_reply}
use Rattle.command_log.specs.Rows.{position_of, AreOnce}
use Rattle.command_log.specs.Pieces.{piece_bytes, piece_of_log}
use Rattle.layer_api.specs.Broadcast.{BroadcastRules}
use Rattle.layer_api.specs.Service.{ServiceRules, IsPart}
use Rattle.world_model.specs.World.{Setting, seen_of}
use Rattle.world_model.specs.EveryWorld.{IsWorld}
use Rattle.world_model.specs.MadeOrder.{MadeFrame, all_made}
use Rattle.world_model.specs.Agree.{OneIsPart, rows_at}
use Rattle.node_loop.specs.declared.limits.Limits.{Limits}
use Rattle.node_loop.specs.Served.{MayBegin}
use Rattle.node_loop.specs.Serving.{Serving, so_far, Round, Began, Turned, Closed, Reminded, Took, after_from, AreWantedFrom}
use Rattle.node_loop.specs.Told.{AreGroups, after_groups, all_rounds, told_from, deeds_from}
use Rattle.node_loop.specs.Keeping.{IsCallEvent, kept_of}
use Rattle.node_loop.specs.Peers.{Peers}
use Rattle.node_loop.specs.Recovering.{recovered, recalled_deeds}
use Rattle.link_resume.specs.declared.kept.Kept.{Kept}
use Rattle.world_model.specs.Stands.{NoneStops}
use Rattle.node_loop.specs.Deeds.{Deed, Came, Made, Resent, Acked, Wished, Replied, act_of, firsts_in, is_connected}
use Rattle.node_loop.specs.Resending.{is_deferred}
use Rattle.keyed_channel.specs.Frames.{opening, seq_of}
use Rattle.outside.specs.declared.link.LinkItem.TheVariants as items

-- ---- one run

-- the items of the link that rounds took
abbrev pub items_of : List Round → List LinkItem
items_of [] = []
items_of (Began item ∷ rounds) = items_of rounds
items_of (Turned i ∷ rounds) = items_of rounds
items_of (Closed i epoch ∷ rounds) = items_of rounds
items_of (Reminded i j ∷ rounds) = items_of rounds
items_of (Took item ∷ rounds) = item ∷ items_of rounds

-- the items decide: of the rounds of two runs that begin alike and go over one list of items, each as far as it came, the ones are the first of
-- the others
abbrev pub OneRun : Type 0
OneRun = (w : Setting) (past : List Event) (limits : Limits) (start : Serving) (xs ys : List Round)
    → AreWantedFrom w past limits start xs → AreWantedFrom w past limits start ys
    → OneIsPart (items_of xs) (items_of ys) → OneIsPart xs ys

-- the rounds of groups are what the rules say, one after the other, and lead to what the groups lead to
abbrev pub GroupsAreRounds : Type 0
GroupsAreRounds = (w : Setting) (past : List Event) (limits : Limits) (start : Serving) (groups : List (List Round)) → AreGroups w past limits start groups
    → AreWantedFrom w past limits start (all_rounds groups) × (after_from w past start (all_rounds groups) ≡ after_groups w past start groups)

-- more rounds only add to the events, and more groups to the link's calls
abbrev pub RoundsGrow : Type 0
RoundsGrow = (w : Setting) (past : List Event) (start : Serving) (xs ys : List Round) → IsPart xs ys
    → IsPart (after_from w past start xs).events (after_from w past start ys).events

abbrev pub GroupsGrow : Type 0
GroupsGrow = (w : Setting) (past : List Event) (start : Serving) (xs ys : List (List Round)) → IsPart xs ys
    → IsPart (told_from w past start xs) (told_from w past start ys)

-- ---- the frames

abbrev pub sent_as : MadeFrame → Sent
sent_as f = record { at = f.from; to = f.to; bytes = f.bytes }

-- all frames that the replicas of a world made in these events, the oldest first
abbrev pub all_frames_of : Setting → List Event → List Sent
all_frames_of w es = map sent_as (all_made w es)

-- the link's calls are the deeds
abbrev pub ActsAreDeeds : Type 0
ActsAreDeeds = (w : Setting) (past : List Event) (start : Serving) (groups : List (List Round))
    → told_from w past start groups ≡ map (act_of w.keys) (deeds_from w past start [] groups)

-- those before them stay behind them
abbrev pub DeedsAreBehind : Type 0
DeedsAreBehind = (w : Setting) (past : List Event) (start : Serving) (ds : List Deed) (groups : List (List Round))
    → deeds_from w past start ds groups ≡ deeds_from w past start [] groups ++ ds

-- what went out for the first time are the frames that the calls made, in their order, behind those that were made before
abbrev pub FramesAreMade : Type 0
FramesAreMade = (w : Setting) (past : List Event) (start : Serving) (before : List MadeFrame) (ds : List Deed) (groups : List (List Round))
    → all_made w (so_far past start) ≡ before ++ reverse (firsts_in ds)
    → all_made w (so_far past (after_groups w past start groups)) ≡ before ++ reverse (firsts_in (deeds_from w past start ds groups))

-- a kept frame went out for the first time, and no acknowledgement of its number came since
abbrev pub IsUnacknowledged : Setting → ℕ → ℕ → List Deed → Kept → Type 0
IsUnacknowledged w i j ds k = (k.seq ≡ seq_of k.frame) × (is_connected w i j k.frame ds ≡ true)

-- so it is of all that is kept
pub record AllSent (w : Setting) (p : Peers) (ds : List Deed) : Type 0 where
  pub each : (i j : ℕ) → AllByRecursion (IsUnacknowledged w i j ds) (p.keeping i j)

-- each frame that went out again went out for the first time before it, and no acknowledgement of it came between the two
abbrev pub AreOpen : Setting → List Deed → Type 0
AreOpen w [] = Unit {0}
AreOpen w (Came now item ∷ ds) = AreOpen w ds
AreOpen w (Made f ∷ ds) = AreOpen w ds
AreOpen w (Resent i j frame ∷ ds) = (is_connected w i j frame ds ≡ true) × AreOpen w ds
AreOpen w (Acked i j seq ∷ ds) = AreOpen w ds
AreOpen w (Wished i j seq ∷ ds) = AreOpen w ds
AreOpen w (Replied sent ∷ ds) = AreOpen w ds

abbrev pub ResendsAreOpen : Type 0
ResendsAreOpen = (w : Setting) (past : List Event) (limits : Limits) (start : Serving) (ds : List Deed) (groups : List (List Round))
    → AreGroups w past limits start groups → AllSent w start.peers ds → AreOpen w ds → AreOpen w (deeds_from w past start ds groups)

-- what is kept as serving begins after events that a journal kept are frames of these, as if they had gone out before
abbrev pub RecalledAreSent : Type 0
RecalledAreSent = (w : Setting) (past : List Event) → AllSent w (recovered w past).peers (recalled_deeds w past)

-- and none of these went out again
abbrev pub RecalledAreOpen : Type 0
RecalledAreOpen = (w : Setting) (past : List Event) → AreOpen w (recalled_deeds w past) × (firsts_in (recalled_deeds w past) ≡ reverse (all_made w past))

-- a frame of j with this number came to i and opened there, and its call was answered otherwise than that it is to come again
pub record IsEarned (w : Setting) (es : List Event) (i j seq : ℕ) (ds : List Deed) : Type 0 where
  pub bytes : List ℕ
  pub before : List Event
  pub newer : List Deed
  pub older : List Deed
  pub now : Bool
  pub came : ds ≡ newer ++ Came now (items.Frame i bytes) ∷ older
  pub called : IsPart (events.Frame i bytes ∷ before) es
  pub body : List ℕ
  pub opens : opening (w.keys i) bytes ≡ Ok (record { from = j; seq = seq; body = body })
  pub taken : is_deferred (seen_of w before (events.Frame i bytes)) ≡ false

-- each acknowledgement went out after such a frame
abbrev pub AreEarned : Setting → List Event → List Deed → Type 0
AreEarned w es [] = Unit {0}
AreEarned w es (Came now item ∷ ds) = AreEarned w es ds
AreEarned w es (Made f ∷ ds) = AreEarned w es ds
AreEarned w es (Resent i j frame ∷ ds) = AreEarned w es ds
AreEarned w es (Acked i j seq ∷ ds) = IsEarned w es i j seq ds × AreEarned w es ds
AreEarned w es (Wished i j seq ∷ ds) = AreEarned w es ds
AreEarned w es (Replied sent ∷ ds) = AreEarned w es ds

abbrev pub AcksAreEarned : Type 0
AcksAreEarned = (w : Setting) (past : List Event) (start : Serving) (ds : List Deed) (groups : List (List Round)) → AreEarned w (so_far past start) ds
    → AreEarned w (so_far past (after_groups w past start groups)) (deeds_from w past start ds groups)

-- ---- the replies

-- a reply names the position that its request has in the log of its replica
pub record NamesPosition (w : Setting) (es : List Event) (x : Sent) : Type 0 where
  pub client : ℕ
  pub request : ℕ
  pub position : ℕ
  pub bytes : x.bytes ≡ position_reply client request position
  pub stands : position_of (rows_at w es x.at) client request ≡ Some position

-- a reply is a piece of the log that its replica had after some of these events, the first ones
pub record GivesPiece (w : Setting) (es : List Event) (x : Sent) : Type 0 where
  pub moment : List Event
  pub earlier : IsPart moment es
  pub position : ℕ
  pub bytes : x.bytes ≡ piece_bytes (piece_of_log (rows_at w moment x.at) position)

-- a reply of form 1 names a position, and one of form 3 is a piece
pub record IsTrueReply (w : Setting) (es : List Event) (x : Sent) : Type 0 where
  pub position : form_in x.bytes ≡ 1 → NamesPosition w es x
  pub piece : form_in x.bytes ≡ 3 → GivesPiece w es x

-- so it is of each reply, when it goes out and ever after, where each client and request stands once among the rows that the logs
-- begin with
abbrev pub RepliesAreTrue : ServiceRules → BroadcastRules → Type 0
RepliesAreTrue service other =
    (w : Setting) (past : List Event) (start : Serving) (groups : List (List Round))
    → IsWorld service other w → AreOnce w.start.base
    → AllByRecursion (IsTrueReply w (so_far past (after_groups w past start groups)))
    (replies_in (told_from w past start groups))

-- ---- the events

-- an event at a correct replica, of at most 65,535 bytes, which is no frame that another made
abbrev pub IsServed : Setting → Event → Type 0
IsServed w (events.Frame to bytes) = (w.is_correct to ≡ true) × (length bytes < 2 ^ 16)
IsServed w (events.Input at bytes) = (w.is_correct at ≡ true) × (length bytes < 2 ^ 16)
IsServed w (events.Turn at) = w.is_correct at ≡ true
IsServed w (events.Pass from to m) = ⊥
IsServed w (events.Sealed from to body) = ⊥

-- each event of serving is one, where those before are
abbrev pub EventsFit : Type 0
EventsFit = (w : Setting) (past : List Event) (limits : Limits) (start : Serving) (groups : List (List Round)) → All MayBegin start.left
    → AllByRecursion (IsServed w) start.events → AreGroups w past limits start groups
    → AllByRecursion (IsServed w) (after_groups w past start groups).events

-- ---- what a journal keeps

-- the events that a journal keeps make the frames that all events make
abbrev pub KeptMakes : Type 0
KeptMakes = (w : Setting) (past es : List Event) → NoneStops w → AllByRecursion IsCallEvent es
    → all_frames_of w (kept_of w past es ++ past) ≡ all_frames_of w (es ++ past)
