-- Worked rows, each of which fails where a definition is turned.
use Rattle.std.specs.Prelude.{◌≡◌, ℕ, List, true, false, [], ◌∷◌, replicate, Some, None, refl}
use Rattle.std.specs.Fn.{iterate}
use Rattle.tcp_link.specs.Names.{naming, admits_one_more, has_client_room, link_item_of, whom_at, numbered_after, most_of, most_kept, sent_through, up_of, told_at_end, dial_again, told_first}
use Rattle.tcp_link.specs.Outcomes.{moved_at, reads_on, change_seen, nobody_at}
use Rattle.tcp_link.specs.Queues.{Queue, empty_queue, next_of, without_next, with_frame_last, with_frame_first, with_message, in_turn}
use Rattle.tcp_link.specs.Stages.{first_stage, stage_after, is_read, is_written}
use Rattle.tcp_link.specs.Tokens.{token_of, serial_after, connection_place, ends_of_all, spares_for, replica_count}
use Rattle.tcp_link.specs.Waits.{WaitEnd, first_clock, after_wait, after_waits, after_work, retry_due_microseconds, look_due_microseconds}
use Rattle.tcp_link.specs.Sides.{most_looks, looked, piece_kept, side_read, is_side_ready, off_given, resting, rested}
use Rattle.outside.specs.declared.link.LinkItem.TheVariants.{Frame}
use Rattle.std.specs.declared.io.ErrorKind.TheVariants.{WouldBlock, Interrupted, ConnectionAborted, ConnectionReset}
use Rattle.tcp_link.specs.declared.agenda.Next.TheVariants as next
use Rattle.tcp_link.specs.declared.entry.Entry.TheVariants.{Replicas, Clients}
use Rattle.tcp_link.specs.declared.news.News.TheVariants as news
use Rattle.tcp_link.specs.declared.outcome.Moved.TheVariants as moved
use Rattle.tcp_link.specs.declared.outcome.Nobody.TheVariants as nobody
use Rattle.tcp_link.specs.declared.side.Side.{Side}
use Rattle.tcp_link.specs.declared.stage.Change.TheVariants.{Stands, Closes, Breaks, Ends, IsReplaced}
use Rattle.tcp_link.specs.declared.stage.Stage.TheVariants.{Up, Older, Refused, Over, Replaced}
use Rattle.tcp_link.specs.declared.whom.Naming.TheVariants.{Waits, Names, Closes}
use Rattle.tcp_link.specs.declared.whom.Whom.TheVariants.{Unnamed, Peer, Client, Node}

-- ---- stages

-- one that was begun and ends before it stands is refused, and one that stood, or came in, is over
never_stood : stage_after (first_stage true) Ends ≡ Refused
never_stood = refl

stood : stage_after (stage_after (first_stage true) Stands) Ends ≡ Over
stood = refl

came_in : stage_after (first_stage false) Ends ≡ Over
came_in = refl

-- it stays refused
too_late : stage_after Refused Stands ≡ Refused
too_late = refl

-- one that a newer one replaced is read to its end, takes no bytes, and tells nothing at its end
older_is_read : is_read (stage_after Up IsReplaced) ≡ true
older_is_read = refl

older_is_not_written : is_written (stage_after Up IsReplaced) ≡ false
older_is_not_written = refl

older_ends : stage_after (stage_after Up IsReplaced) Ends ≡ Replaced
older_ends = refl

ended_is_replaced : stage_after (stage_after Up Ends) IsReplaced ≡ Replaced
ended_is_replaced = refl

-- after a write that failed it is read, and then it is over
broken_is_read : is_read (stage_after Up Breaks) ≡ true
broken_is_read = refl

broken_is_not_written : is_written (stage_after Up Breaks) ≡ false
broken_is_not_written = refl

broken_ends : stage_after (stage_after Up Breaks) Ends ≡ Over
broken_ends = refl

broken_is_replaced : stage_after (stage_after Up Breaks) IsReplaced ≡ Older
broken_is_replaced = refl

-- one that sends no more takes bytes, and is over once it takes none
half_is_written : is_written (stage_after Up Closes) ≡ true
half_is_written = refl

half_is_not_read : is_read (stage_after Up Closes) ≡ false
half_is_not_read = refl

half_breaks : stage_after (stage_after Up Closes) Breaks ≡ Over
half_breaks = refl

broken_closes : stage_after (stage_after Up Breaks) Closes ≡ Over
broken_closes = refl

-- ---- the first byte, at replica 1 of 4

own : naming 4 (Unnamed 1) (1 ∷ []) ≡ Closes
own = refl

lower : naming 4 (Unnamed 1) (0 ∷ 9 ∷ []) ≡ Closes
lower = refl

greater : naming 4 (Unnamed 1) (2 ∷ 9 ∷ []) ≡ Names 1 2
greater = refl

greatest : naming 4 (Unnamed 1) (3 ∷ []) ≡ Names 1 3
greatest = refl

number_n : naming 4 (Unnamed 1) (4 ∷ []) ≡ Closes
number_n = refl

no_byte : naming 4 (Unnamed 1) [] ≡ Waits
no_byte = refl

named_before : naming 4 (Peer 1 2) (0 ∷ []) ≡ Waits
named_before = refl

-- a client tells no number
of_a_client : naming 4 (Client 1 0) (0 ∷ []) ≡ Waits
of_a_client = refl

-- the side that connects tells its own
tells : told_first (Peer 3 1) ≡ Some 3
tells = refl

-- ---- clients

last_client : admits_one_more (Clients 0) 4294967294 ≡ true
last_client = refl

one_too_many : admits_one_more (Clients 0) 4294967295 ≡ false
one_too_many = refl

peers_always : admits_one_more (Replicas 0) 4294967295 ≡ true
peers_always = refl

first_client : whom_at (Clients 2) 0 ≡ Client 2 0
first_client = refl

numbered : numbered_after (Clients 2) 0 ≡ 1
numbered = refl

not_numbered : numbered_after (Replicas 2) 5 ≡ 5
not_numbered = refl

-- ---- caps

longest_frame : sent_through false 1 16384 ≡ Some 1
longest_frame = refl

too_long_a_frame : sent_through false 1 16385 ≡ None
too_long_a_frame = refl

longest_request : sent_through true 1 65535 ≡ Some 0
longest_request = refl

most_of_a_peer : most_of (Peer 0 1) ≡ Some 16384
most_of_a_peer = refl

most_of_a_client : most_of (Client 0 1) ≡ Some 65535
most_of_a_client = refl

kept_of_a_peer : most_kept (Peer 0 1) ≡ 16777216
kept_of_a_peer = refl

kept_of_a_client : most_kept (Client 0 1) ≡ 131072
kept_of_a_client = refl

-- ---- what is told, and which dial comes again

peer_up : up_of Up (Peer 1 2) ≡ Some (news.Up 1 2)
peer_up = refl

peer_not_yet : up_of (first_stage true) (Peer 1 2) ≡ None
peer_not_yet = refl

node_up : up_of Up (Node 2) ≡ None
node_up = refl

peer_down : told_at_end Over true (Peer 1 2) ≡ Some (news.Down 1 2)
peer_down = refl

peer_replaced : told_at_end Replaced true (Peer 1 2) ≡ None
peer_replaced = refl

peer_never_there : told_at_end Refused false (Peer 1 2) ≡ None
peer_never_there = refl

node_never_there : told_at_end Refused false (Node 2) ≡ Some (news.Down 0 2)
node_never_there = refl

client_gone : told_at_end Over true (Client 1 7) ≡ Some (news.Left 1 7)
client_gone = refl

-- one of which nothing was given is nobody's who waits
client_said_nothing : told_at_end Over false (Client 1 7) ≡ None
client_said_nothing = refl

stranger_gone : told_at_end Over false (Unnamed 1) ≡ None
stranger_gone = refl

again : dial_again {X = ℕ} false (Some 3) ≡ Some 3
again = refl

once : dial_again {X = ℕ} true (Some 3) ≡ None
once = refl

-- ---- sockets

not_ready : moved_at WouldBlock ≡ moved.Later
not_ready = refl

was_interrupted : moved_at Interrupted ≡ moved.Again
was_interrupted = refl

was_reset : moved_at ConnectionReset ≡ moved.Failed
was_reset = refl

filled : reads_on 2048 false (moved.Bytes 2048) ≡ true
filled = refl

not_filled : reads_on 2048 false (moved.Bytes 2047) ≡ false
not_filled = refl

hung_up : reads_on 2048 true (moved.Bytes 1) ≡ true
hung_up = refl

failed : change_seen false (Some false) ≡ Some Ends
failed = refl

itself : change_seen true (Some true) ≡ Some Ends
itself = refl

reached : change_seen true (Some false) ≡ Some Stands
reached = refl

not_yet : change_seen true None ≡ None
not_yet = refl

was_gone : nobody_at ConnectionAborted ≡ nobody.Gone
was_gone = refl

-- ---- pauses

-- what is added at first is due after 100,000 microseconds
due_at_first : retry_due_microseconds first_clock ≡ 100000
due_at_first = refl

-- quiet waits have 1, 2, 4, 8, 16, 32 and 32 thousands of microseconds: seven are too few, and the eighth is enough
abbrev quiet : WaitEnd
quiet = record { is_quiet = true; shown = None }

after_seven : after_waits first_clock (replicate 7 quiet) ≡ record { counted_microseconds = 95000; wait_microseconds = 32000; shown_microseconds = None }
after_seven = refl

after_eight : after_waits first_clock (replicate 8 quiet) ≡ record { counted_microseconds = 127000; wait_microseconds = 32000; shown_microseconds = None }
after_eight = refl

-- an event makes waits short again
abbrev by_event : WaitEnd
by_event = record { is_quiet = false; shown = None }

after_an_event : after_waits first_clock (quiet ∷ quiet ∷ by_event ∷ []) ≡ record { counted_microseconds = 3050; wait_microseconds = 1000; shown_microseconds = None }
after_an_event = refl

-- what is done counts as an event does, and makes no wait short
after_one_thing : after_work (record { counted_microseconds = 95000; wait_microseconds = 32000; shown_microseconds = None }) ≡ record { counted_microseconds = 95050; wait_microseconds = 32000; shown_microseconds = None }
after_one_thing = refl

-- with a clock what it shows is counted, and what is done counts nothing beside; the first reading of all tells nothing yet
read_twice : after_waits first_clock (record { is_quiet = false; shown = Some 700 } ∷ record { is_quiet = true; shown = Some 2700 } ∷ []) ≡ record { counted_microseconds = 2050; wait_microseconds = 2000; shown_microseconds = Some 2700 }
read_twice = refl

after_one_shown : after_work (record { counted_microseconds = 95000; wait_microseconds = 32000; shown_microseconds = Some 8 }) ≡ record { counted_microseconds = 95000; wait_microseconds = 32000; shown_microseconds = Some 8 }
after_one_shown = refl

-- a clock that went back counts nothing, and one that can't be read leaves it to be guessed
went_back : (after_wait (record { counted_microseconds = 9; wait_microseconds = 1000; shown_microseconds = Some 8 }) true (Some 5)).counted_microseconds ≡ 9
went_back = refl

unread : (after_wait (record { counted_microseconds = 9; wait_microseconds = 1000; shown_microseconds = Some 8 }) true None).counted_microseconds ≡ 1009
unread = refl

look_at_first : look_due_microseconds first_clock ≡ 5000000
look_at_first = refl

-- ---- looks

unnamed_at_first_look : most_looks Up (Unnamed 1) ≡ Some 1
unnamed_at_first_look = refl

dial_at_first_look : most_looks (first_stage true) (Peer 1 0) ≡ Some 1
dial_at_first_look = refl

silent_peer : most_looks Up (Peer 1 2) ≡ Some 12
silent_peer = refl

half_a_minute : most_looks (stage_after Up Closes) (Client 0 1) ≡ Some 6
half_a_minute = refl

client_may_be_silent : most_looks Up (Client 0 1) ≡ None
client_may_be_silent = refl

-- a connection that came in to replica 1, with peer 2
abbrev new_peer : Side
new_peer = record {
  whom = Peer 1 2;
  stage = Up;
  dial = None;
  is_hung_up = false;
  has_given = false;
  gave_little = false;
  is_blocked = false;
  behind = None;
  newer = None;
  owed = 0;
  is_unread = false;
  looks = 0;
  has_come = false;
  has_sent = false;
  ticks = 0;
  idle_ticks = 0;
  listed = record { reads = false; writes = false; gives = false; drains = false; looks = true; rests = false };
  input = [];
  output = [];
}

-- one that says nothing and isn't sent anything stays as it is, however often it is looked at
not_asked : iterate looked 100 new_peer ≡ new_peer
not_asked = refl

-- one that is sent something and says nothing ends at the 12th look from then on, also where nothing more is sent
asked_for_55_seconds : (iterate looked 11 (piece_kept (iterate looked 30 new_peer) (7 ∷ []))).stage ≡ Up
asked_for_55_seconds = refl

asked_for_a_minute : (iterate looked 12 (piece_kept (iterate looked 30 new_peer) (7 ∷ []))).stage ≡ Over
asked_for_a_minute = refl

-- what comes begins the count anew, and then no answer is due
answered : (looked (side_read (iterate looked 11 (piece_kept new_peer (7 ∷ []))) (moved.Bytes 1) (9 ∷ []))).looks ≡ 0
answered = refl

answered_at_last : (iterate looked 100 (side_read (iterate looked 11 (piece_kept new_peer (7 ∷ []))) (moved.Bytes 1) (9 ∷ []))).stage ≡ Up
answered_at_last = refl

-- a node whose piece has six bytes isn't written to before a pause is over, and one whose piece has seven is
abbrev node_with : List ℕ → Side
node_with bytes = resting (off_given (record new_peer { whom = Node 1; input = bytes }))

abbrev six_bytes : List ℕ
six_bytes = 0 ∷ 6 ∷ 3 ∷ 0 ∷ 0 ∷ 0 ∷ 1 ∷ 0 ∷ []

node_rests : is_side_ready (node_with six_bytes) ≡ false
node_rests = refl

node_rested : is_side_ready (rested (node_with six_bytes)) ≡ true
node_rested = refl

node_goes_on : is_side_ready (node_with (0 ∷ 7 ∷ 3 ∷ 0 ∷ 0 ∷ 0 ∷ 1 ∷ 0 ∷ 0 ∷ [])) ≡ true
node_goes_on = refl

-- one that told no number ends at the first look
stranger_ends : (looked (record new_peer { whom = Unnamed 1 })).stage ≡ Over
stranger_ends = refl

-- ---- who has room

last_place : has_client_room (Clients 0) 767 true ≡ true
last_place = refl

no_place : has_client_room (Clients 0) 768 true ≡ false
no_place = refl

no_spares : has_client_room (Clients 0) 0 false ≡ false
no_spares = refl

peers_have_room : has_client_room (Replicas 0) 768 false ≡ true
peers_have_room = refl

spares_of_four : spares_for 4 ≡ 16
spares_of_four = refl

-- ---- pieces between replicas

empty_frame : link_item_of (Peer 0 1) [] ≡ Some (Frame 0 [])
empty_frame = refl

frame_of_a_byte : link_item_of (Peer 0 1) (7 ∷ []) ≡ Some (Frame 0 (7 ∷ []))
frame_of_a_byte = refl

-- ---- what is given

abbrev both : Queue
both = record { news = []; frames = 5 ∷ 6 ∷ []; due = 7 ∷ []; later = 8 ∷ [] }

frames_first : next_of both ≡ Some (next.Frame 5)
frames_first = refl

same_again : with_frame_first (without_next both (Some (next.Frame 5))) 5 ≡ both
same_again = refl

newer_is_last : (with_frame_last both 9).frames ≡ 5 ∷ 6 ∷ 9 ∷ []
newer_is_last = refl

client_waits : (with_message both 9).later ≡ 8 ∷ 9 ∷ []
client_waits = refl

next_turn : in_turn both ≡ record { news = []; frames = 5 ∷ 6 ∷ []; due = 7 ∷ 8 ∷ []; later = [] }
next_turn = refl

-- of 20 clients 16 give in one turn
many : (in_turn (record empty_queue { later = replicate 20 3 })).due ≡ replicate 16 3
many = refl

left_for_later : (in_turn (record empty_queue { later = replicate 20 3 })).later ≡ replicate 4 3
left_for_later = refl

-- ---- numbers

first_token : token_of (serial_after 0) 0 ≡ 16777216
first_token = refl

begins_anew : serial_after 1000000000000 ≡ 1
begins_anew = refl

last_pair : connection_place 30 30 ≡ Some 960
last_pair = refl

no_pair : connection_place 0 31 ≡ None
no_pair = refl

ends_of_four : ends_of_all 4 ≡ 12
ends_of_four = refl

most_replicas : replica_count 32 ≡ 31
most_replicas = refl
