-- The limits of a link, beside the longest frame, which is that of `ritas_base`. `src/limits.rt` has each as a constant, and `limits_are`
-- ties the two. A turn is one round of what a link does, a look is one at a silent connection, and a tick one at a connection that is read
-- to its end.
use Rattle.std.specs.Prelude.{ℕ, ◌+◌}

-- ---- replicas, clients and connections

-- a session has at most so many replicas
abbrev pub most_replicas : ℕ
most_replicas = 31

-- so many clients are numbered, from 0 on, and then no more come in
abbrev pub most_clients : ℕ
most_clients = 4294967295

-- at most so many clients are there at a time
abbrev pub most_at_once : ℕ
most_at_once = 768

-- one that told no number is closed once so many others came in after it
abbrev pub most_strangers : ℕ
most_strangers = 64

-- so many descriptors are held for each replica, and so many for those that told no number yet
abbrev pub spares_of_replica : ℕ
spares_of_replica = 2

abbrev pub spares_of_strangers : ℕ
spares_of_strangers = 8

-- at most so many connections stand at a time; a number below names no connection, but a door
abbrev pub most_conns : ℕ
most_conns = 16777216

-- so many connections are made before one may have the token of an old one
abbrev pub most_serials : ℕ
most_serials = 1000000000000

-- ---- bytes

-- so many bytes tell the length of a piece
abbrev pub length_bytes : ℕ
length_bytes = 2

-- a piece has at most so many bytes behind them
abbrev pub longest_piece : ℕ
longest_piece = 65535

-- a reply of a node with at most so many bytes tells nothing new: it is a piece of a log that has no rows
abbrev pub little_bytes : ℕ
little_bytes = 6

-- with so many bytes that came there is a whole piece among them, and no more are read
abbrev pub many_came : ℕ
many_came = length_bytes + longest_piece

-- one read takes at most so many bytes
abbrev pub longest_read : ℕ
longest_read = 2048

-- with so many kept bytes they are written at once
abbrev pub many_kept : ℕ
many_kept = 65536

-- with more kept bytes a connection takes no more
abbrev pub most_unwritten_bytes : ℕ
most_unwritten_bytes = 16777216

-- and so does a client's
abbrev pub most_unwritten_bytes_of_client : ℕ
most_unwritten_bytes_of_client = 131072

-- ---- turns

-- so many connections are accepted in one turn at a door for replicas
abbrev pub replicas_a_turn : ℕ
replicas_a_turn = 64

-- and so many at one for clients
abbrev pub clients_a_turn : ℕ
clients_a_turn = 16

-- so many clients are read in one turn at most
abbrev pub clients_read_a_turn : ℕ
clients_read_a_turn = 32

-- and so many of them give a message
abbrev pub messages_a_turn : ℕ
messages_a_turn = 16

-- one wait takes at most so many events
abbrev pub most_events : ℕ
most_events = 1024

-- one connection is written to at most so often in a row
abbrev pub most_writes : ℕ
most_writes = 4294967295

-- ---- times

-- what is tried again is due after so long
abbrev pub pause_microseconds : ℕ
pause_microseconds = 100000

-- a connection is looked at again after so long
abbrev pub look_microseconds : ℕ
look_microseconds = 5000000

-- the first of some quiet waits lasts so long
abbrev pub first_wait_microseconds : ℕ
first_wait_microseconds = 1000

-- and none lasts longer than this
abbrev pub longest_wait_microseconds : ℕ
longest_wait_microseconds = 32000

-- a wait that an event ended counts so long, and so does each thing that is done
abbrev pub short_wait_microseconds : ℕ
short_wait_microseconds = 50

-- ---- looks and ticks: after how many a connection ends

-- looks in a row at a peer's connection that is being made
abbrev pub looks_of_dial : ℕ
looks_of_dial = 1

-- and at a node's
abbrev pub looks_of_node : ℕ
looks_of_node = 6

-- looks at one that told no number
abbrev pub looks_of_stranger : ℕ
looks_of_stranger = 1

-- looks in a row at a peer that was sent something, between which nothing came
abbrev pub looks_of_peer : ℕ
looks_of_peer = 12

-- looks in a row at a client that sends no more
abbrev pub looks_of_half_closed : ℕ
looks_of_half_closed = 6

-- ticks in a row in which nothing came
abbrev pub most_idle_ticks : ℕ
most_idle_ticks = 10

-- ticks in all
abbrev pub most_ticks : ℕ
most_ticks = 50
