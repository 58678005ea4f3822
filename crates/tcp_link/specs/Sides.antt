-- What is known of a connection without its stream, and what becomes of it.
use Rattle.std.specs.Prelude.{◌≡◌, ◌⊎◌, ℕ, ◌+◌, ◌-◌, ◌≤◌, nat_eq, is_none, is_some, Bool, true, false, not, ◌&&◌, ◌||◌, nat_lt, nat_le, List, [], ◌++◌, length, take, drop, Option, Some, None, if◌then◌else◌}
use Rattle.outside.specs.declared.link.LinkItem.{LinkItem}
use Rattle.tcp_link.specs.Limits.{length_bytes, little_bytes, many_came, many_kept, looks_of_dial, looks_of_node, looks_of_stranger, looks_of_peer, looks_of_half_closed, most_idle_ticks, most_ticks}
use Rattle.tcp_link.specs.Queues.{Queue, with_frame_last, with_frame_first, with_message}
use Rattle.tcp_link.specs.Pieces.{piece, length_told, IsPieceFront}
use Rattle.tcp_link.specs.Stages.{stage_after, is_up, is_begun, is_half, is_draining, is_read, is_written, is_over}
use Rattle.tcp_link.specs.Names.{most_of, most_kept, link_item_of, is_client, is_node, is_with_peer}
use Rattle.tcp_link.specs.Waits.{capped_64}
use Rattle.tcp_link.specs.Outcomes.{may_write}
use Rattle.tcp_link.specs.declared.pieces.Front.{Front}
use Rattle.tcp_link.specs.declared.pieces.Front.TheVariants as front
use Rattle.tcp_link.specs.declared.stage.Stage.{Stage}
use Rattle.tcp_link.specs.declared.stage.Stage.TheVariants.{Begun, Up, Half, Broken, Older, Refused, Over, Replaced}
use Rattle.tcp_link.specs.declared.stage.Change.{Change}
use Rattle.tcp_link.specs.declared.whom.Whom.{Whom}
use Rattle.tcp_link.specs.declared.stage.Change.TheVariants.{Closes, Breaks, Ends}
use Rattle.tcp_link.specs.declared.whom.Whom.TheVariants.{Unnamed, Peer, Client, Node}
use Rattle.tcp_link.specs.declared.whom.Naming.{Naming}
use Rattle.tcp_link.specs.declared.whom.Naming.TheVariants.{Waits, Names, Closes}
use Rattle.tcp_link.specs.declared.outcome.Moved.{Moved}
use Rattle.tcp_link.specs.declared.outcome.Moved.TheVariants.{Bytes, Later, Again, Closed, Failed}
use Rattle.tcp_link.specs.declared.outcome.Seen.{Seen}
use Rattle.tcp_link.specs.declared.side.Side.{Side}
use Rattle.tcp_link.specs.declared.side.Gives.{Gives}
use Rattle.tcp_link.specs.declared.side.Gives.TheVariants as gives

-- ---- stages

abbrev pub changed : Side → Change → Side
changed s change = record s { stage = stage_after s.stage change }

-- as by an error
abbrev pub ended : Side → Side
ended s = changed s Ends

-- no byte goes out any more
abbrev pub broken : Side → Side
broken s = changed s Breaks

-- a client that sends no more was replied all that it asked, as far as is known, and took it
abbrev pub is_replied : Side → Bool
is_replied s = is_half s.stage && nat_eq s.owed 0 && nat_eq (length s.output) 0

-- it is over or was replied all, and no piece is to be given from it
abbrev pub is_side_done : Side → Bool
is_side_done s = (is_over s.stage || is_replied s) && not s.listed.gives

-- one that takes no bytes is read to its end: what was to go out is let go of, and the time is counted from then on
abbrev pub is_drain_due : Side → Bool
is_drain_due s = is_draining s.stage && not s.listed.drains

abbrev pub draining : Side → Side
draining s = if is_drain_due s then record s { listed = record s.listed { drains = true }; output = []; ticks = 0; idle_ticks = 0 } else s

-- after a tenth of a second more it ends, if nothing came for a second, or if it was read for five; one that waits for an older one
-- isn't read, and isn't counted
abbrev pub ticked : Side → Side
ticked s =
    if is_some s.behind then s
    else if nat_le (most_idle_ticks - 1) s.idle_ticks || nat_le (most_ticks - 1) s.ticks then ended s
    else record s { ticks = s.ticks + 1; idle_ticks = s.idle_ticks + 1 }

-- ---- looks, every five seconds

-- after how many looks in a row, between which nothing came, a connection ends: a peer is called again at the first, a node is given up
-- after 30 seconds, one that told no number is closed at the first, a client that sends no more after 30 seconds, and a peer that doesn't
-- answer after 60; others aren't looked at
abbrev pub looks_of_begun : Whom → ℕ
looks_of_begun (Unnamed at) = looks_of_dial
looks_of_begun (Peer at peer) = looks_of_dial
looks_of_begun (Client at conn) = looks_of_dial
looks_of_begun (Node from) = looks_of_node

abbrev pub looks_of_up : Whom → Option ℕ
looks_of_up (Unnamed at) = Some looks_of_stranger
looks_of_up (Peer at peer) = Some looks_of_peer
looks_of_up (Client at conn) = None
looks_of_up (Node from) = None

abbrev pub most_looks : Stage → Whom → Option ℕ
most_looks Begun whom = Some (looks_of_begun whom)
most_looks Up whom = looks_of_up whom
most_looks Half whom = Some looks_of_half_closed
most_looks Broken whom = None
most_looks Older whom = None
most_looks Refused whom = None
most_looks Over whom = None
most_looks Replaced whom = None

-- a peer's connection that stands, to which nothing was sent since the last look, and of which no look was counted yet: no answer is due
abbrev pub is_at_rest : Side → Bool
is_at_rest s = is_up s.stage && is_with_peer s.whom && not s.has_sent && nat_eq s.looks 0

-- it is to be looked at again
abbrev pub on_looks : Side → Side
on_looks s = record s { listed = record s.listed { looks = true } }

-- so many looks were in a row without anything that came: those of a peer are counted from the first before which something was sent to it
abbrev pub quiet_looks : Side → ℕ
quiet_looks s = if s.has_come || is_at_rest s then 0 else s.looks + 1

abbrev pub looked_at : Side → Option ℕ → Side
looked_at s None = record s { listed = record s.listed { looks = false } }
looked_at s (Some most) =
    if nat_le most (quiet_looks s) then ended (record s { listed = record s.listed { looks = false } })
    else record s { looks = quiet_looks s; has_come = false; has_sent = false }

-- after a look
abbrev pub looked : Side → Side
looked s = looked_at s (most_looks s.stage s.whom)

-- ---- bytes that go out

-- it takes bytes as far as is known, and no pause is made before it is written to
abbrev pub is_side_ready : Side → Bool
is_side_ready s = is_written s.stage && not s.is_blocked && not s.listed.rests

-- a piece may be kept for it: it takes bytes, or is with a node and yet to stand. What is for a peer whose connection is being made is
-- dropped
abbrev pub takes : Side → Bool
takes s = is_written s.stage || (is_begun s.stage && is_node s.whom)

-- a piece is kept behind what is kept, and is one reply less that is owed
abbrev pub piece_kept : Side → List ℕ → Side
piece_kept s bytes = record s { output = s.output ++ piece bytes; owed = s.owed - 1; has_sent = true }

-- with so many kept bytes they are written at once, if they are taken
abbrev pub has_much : Side → Bool
has_much s = is_side_ready s && nat_le many_kept (length s.output)

-- with more kept bytes than may be it takes no more
abbrev pub capped : Side → Side
capped s = if nat_lt (most_kept s.whom) (length s.output) then broken s else s

-- it has no more kept bytes than may be, or takes none
abbrev pub IsCapped : Side → Type 0
IsCapped s = (length s.output ≤ most_kept s.whom) ⊎ (takes s ≡ false)

-- after a write: what went out is kept no more, and after one that failed no byte goes out any more
abbrev pub side_written : Side → Moved → Side
side_written s (Bytes n) = record s { output = drop n s.output }
side_written s Later = record s { is_blocked = true }
side_written s Again = s
side_written s Closed = broken s
side_written s Failed = broken s

-- ---- bytes that come

-- with as many bytes as the longest piece has, no more are read before some are given
abbrev pub is_fed : Side → Bool
is_fed s = nat_le many_came (length s.input)

-- more is read of one that was fed, once it isn't any more
abbrev pub is_read_due : Side → Bool
is_read_due s = s.is_unread && not (is_fed s)

abbrev pub unread_taken : Side → Side
unread_taken s = record s { is_unread = s.is_unread && is_fed s }

-- the other side sends no more: a client is still replied
abbrev pub closed : Side → Side
closed s = changed s (if is_client s.whom then Closes else Ends)

-- after a read: what came stands behind what had come
abbrev pub side_read : Side → Moved → List ℕ → Side
side_read s (Bytes n) buffer = record s { input = s.input ++ take n buffer; idle_ticks = 0; has_come = true }
side_read s Later buffer = s
side_read s Again buffer = s
side_read s Closed buffer = closed s
side_read s Failed buffer = ended s

-- the first byte is taken where it is asked for
abbrev pub named : Side → Naming → Side
named s Waits = s
named s (Names at peer) = record s { whom = Peer at peer; input = drop 1 s.input }
named s Closes = ended (record s { input = drop 1 s.input })

-- ---- pieces that came

-- what stands at the front of what came; nothing of one that has no name yet
abbrev pub IsFrontAt : Option ℕ → List ℕ → Front → Type 0
IsFrontAt None bytes f = f ≡ front.Part
IsFrontAt (Some most) bytes f = IsPieceFront bytes most f

-- a whole piece stands at the front, of at most so many bytes
abbrev pub is_whole_at : Option ℕ → List ℕ → Bool
is_whole_at None bytes = false
is_whole_at (Some most) bytes = nat_le length_bytes (length bytes) && nat_le (length_told bytes) most && nat_le (length_bytes + length_told bytes) (length bytes)

-- a length over the most stands at the front
abbrev pub is_too_long_at : Option ℕ → List ℕ → Bool
is_too_long_at None bytes = false
is_too_long_at (Some most) bytes = nat_le length_bytes (length bytes) && nat_lt most (length_told bytes)

abbrev pub is_whole : Side → Bool
is_whole s = is_whole_at (most_of s.whom) s.input

abbrev pub is_too_long : Side → Bool
is_too_long s = is_too_long_at (most_of s.whom) s.input

-- what it has to give: nothing while an older connection of the same peer is read to its end
abbrev pub gives_of : Side → Gives
gives_of s =
    if is_some s.behind then gives.Nothing
    else if is_whole s then (if is_client s.whom then gives.Message else gives.Frame)
    else if is_too_long s then gives.TooLong else gives.Nothing

-- that is a piece
abbrev pub has_piece : Gives → Bool
has_piece gives.Frame = true
has_piece gives.Message = true
has_piece gives.Nothing = false
has_piece gives.TooLong = false

-- the bytes of the piece at the front, and what follows it
abbrev pub front_piece : List ℕ → List ℕ
front_piece bytes = take (length_told bytes) (drop length_bytes bytes)

abbrev pub behind_piece : List ℕ → List ℕ
behind_piece bytes = drop (length_bytes + length_told bytes) bytes

-- a node's piece tells nothing new
abbrev pub is_little : Whom → List ℕ → Bool
is_little whom bytes = is_node whom && nat_le (length_told bytes) little_bytes

-- the item that is taken, and what stays; it is noted that something was given, whether it told nothing new, and that one reply more is owed
abbrev pub side_item_taken : Side → Option LinkItem
side_item_taken s = if is_whole s then link_item_of s.whom (front_piece s.input) else None

abbrev pub side_taken : Side → Side
side_taken s =
    if is_whole s then record s { input = behind_piece s.input; has_given = true; gave_little = is_little s.whom s.input; owed = capped_64 (s.owed + 1) }
    else s

-- ---- a pause between a node's piece that tells nothing new and what it is sent next

-- a pause begins: the last piece that was taken told nothing new, and none was begun
abbrev pub is_rest_due : Side → Bool
is_rest_due s = s.gave_little && not s.listed.rests

abbrev pub resting : Side → Side
resting s = if is_rest_due s then record s { gave_little = false; listed = record s.listed { rests = true } } else s

-- it is over: what was kept meanwhile goes out
abbrev pub rested : Side → Side
rested s = record s { listed = record s.listed { rests = false } }

-- ---- events

-- after an event: a client that sent no more is gone where nothing can go out any more
abbrev pub side_noted : Side → Seen → Side
side_noted s e = record s {
  is_hung_up = s.is_hung_up || e.is_closed;
  is_blocked = s.is_blocked && not (may_write e);
  stage = if is_half s.stage && e.is_broken then stage_after s.stage Ends else s.stage;
}

-- it is read: it isn't where an older connection of the same peer is read to its end
abbrev pub is_reading : Side → Bool
is_reading s = is_read s.stage && is_none s.behind

-- whether it is to be written to after an event: it waits to stand, or has bytes to go out
abbrev pub is_write_due : Side → Seen → Bool
is_write_due s e = may_write e && (is_begun s.stage || nat_lt 0 (length s.output))

-- after it was taken off the lists that are gone through, or put on one
abbrev pub off_readers : Side → Side
off_readers s = record s { listed = record s.listed { reads = false } }

abbrev pub on_readers : Side → Side
on_readers s = record s { listed = record s.listed { reads = true } }

abbrev pub off_writers : Side → Side
off_writers s = record s { listed = record s.listed { writes = false } }

abbrev pub with_gives : Side → Bool → Side
with_gives s is_listed = record s { listed = record s.listed { gives = is_listed } }

-- a connection that has a piece is put among those that have, if it isn't there; with a length that isn't allowed it ends
abbrev pub side_listed : Side → Gives → Side
side_listed s gives.Frame = with_gives s true
side_listed s gives.Message = with_gives s true
side_listed s gives.Nothing = s
side_listed s gives.TooLong = ended s

abbrev pub queue_listed : Queue → Bool → ℕ → Gives → Queue
queue_listed q true token gives = q
queue_listed q false token gives.Frame = with_frame_last q token
queue_listed q false token gives.Message = with_message q token
queue_listed q false token gives.Nothing = q
queue_listed q false token gives.TooLong = q

-- from a connection that comes next a piece is taken; where it has one more it is put among those that have: one of a peer or a node
-- as the first of them
abbrev pub off_given : Side → Side
off_given s = side_taken (with_gives s false)

abbrev pub queue_given : Queue → ℕ → Gives → Queue
queue_given q token gives.Frame = with_frame_first q token
queue_given q token gives.Message = with_message q token
queue_given q token gives.Nothing = q
queue_given q token gives.TooLong = q

abbrev pub side_given : Side → Side
side_given s = side_listed (off_given s) (gives_of (off_given s))
