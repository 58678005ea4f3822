-- Connections, as they are found by their tokens, and by pairs of replicas.
use Rattle.std.specs.Prelude.{ℕ, Bool, false, ◌==◌, nat_lt, List, length, drop, Option, Some, None, slice_get, slice_set, slice_index_or, if◌then◌else◌}
use Rattle.slab.specs.Slab.{Slab, get}
use Rattle.tcp_link.specs.Limits.{most_strangers}
use Rattle.tcp_link.specs.Sides.{is_side_done}
use Rattle.tcp_link.specs.Stages.{is_up}
use Rattle.tcp_link.specs.Tokens.{token_place, connection_place}
use Rattle.tcp_link.specs.declared.whom.Whom.{Whom}
use Rattle.tcp_link.specs.declared.whom.Whom.TheVariants.{Unnamed, Peer, Client, Node}
use Rattle.tcp_link.specs.declared.conn.Conn.{Conn}

-- a connection, if this is its token
abbrev pub if_token : ℕ → Option Conn → Option Conn
if_token token None = None
if_token token (Some c) = if c.token == token then Some c else None

-- the connection of a token: one that stands at its place, and has this very token
abbrev pub conn_at : Slab Conn → ℕ → Option Conn
conn_at places token = if_token token (get places (token_place token))

-- a connection, if it is over or was replied all, and no piece is to be given from it
abbrev pub if_done : Option Conn → Option Conn
if_done None = None
if_done (Some c) = if is_side_done c.side then Some c else None

-- a connection stands
abbrev pub is_up_conn : Option Conn → Bool
is_up_conn None = false
is_up_conn (Some c) = is_up c.side.stage

-- the connection of a token that was noted stands: one that was replaced is noted no more, and one that ended doesn't
abbrev pub is_up_at : Slab Conn → Option ℕ → Bool
is_up_at places None = false
is_up_at places (Some token) = is_up_conn (conn_at places token)

-- what is noted at a place
abbrev pub noted_at : List (Option ℕ) → Option ℕ → Option ℕ
noted_at peers None = None
noted_at peers (Some place) = slice_index_or peers place None

-- the token of the newest connection of a replica with a peer
abbrev pub newest_connection : List (Option ℕ) → ℕ → ℕ → Option ℕ
newest_connection peers at peer = noted_at peers (connection_place at peer)

-- where a new connection is noted: one that was begun, by its peer or node; one that came in only once it has its name
abbrev pub place_noted : Whom → Option ℕ
place_noted (Unnamed at) = None
place_noted (Peer at peer) = connection_place at peer
place_noted (Client at conn) = None
place_noted (Node from) = connection_place 0 from

-- of the connections that came in last and may be yet to tell their numbers, the oldest first: the one that is too many, and those that are left
abbrev pub stranger_too_many : List ℕ → Option ℕ
stranger_too_many tokens = if nat_lt most_strangers (length tokens) then slice_get tokens 0 else None

abbrev pub strangers_left : List ℕ → List ℕ
strangers_left tokens = if nat_lt most_strangers (length tokens) then drop 1 tokens else tokens

-- it is noted at a place
abbrev pub noting : List (Option ℕ) → Option ℕ → ℕ → List (Option ℕ)
noting peers None token = peers
noting peers (Some place) token = slice_set peers place (Some token)
