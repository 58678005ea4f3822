-- Whom a connection is with: what a first byte is answered, which number a client gets, and what is told of peers and clients.
use Rattle.std.specs.Prelude.{ℕ, ◌+◌, ◌<◌, Bool, true, false, ◌&&◌, nat_lt, nat_le, nat_eq, List, [], ◌∷◌, Option, Some, None, if◌then◌else◌}
use Rattle.ritas_base.specs.Limits.{longest_frame}
use Rattle.tcp_link.specs.Limits.{most_clients, most_at_once, longest_piece, most_unwritten_bytes, most_unwritten_bytes_of_client}
use Rattle.outside.specs.declared.link.LinkItem.{LinkItem}
use Rattle.outside.specs.declared.link.LinkItem.TheVariants.{Frame, Client as Message, Reply}
use Rattle.outside.specs.declared.link.LinkItem.TheVariants as items
use Rattle.tcp_link.specs.declared.stage.Stage.{Stage}
use Rattle.tcp_link.specs.declared.stage.Stage.TheVariants.{Begun, Up, Half, Broken, Older, Refused, Over, Replaced}
use Rattle.tcp_link.specs.declared.whom.Whom.{Whom}
use Rattle.tcp_link.specs.declared.whom.Whom.TheVariants.{Unnamed, Peer, Client, Node}
use Rattle.tcp_link.specs.declared.news.News.{News}
use Rattle.tcp_link.specs.declared.news.News.TheVariants as news
use Rattle.tcp_link.specs.declared.whom.Naming.{Naming}
use Rattle.tcp_link.specs.declared.whom.Naming.TheVariants.{Waits, Names, Closes}
use Rattle.tcp_link.specs.declared.entry.Entry.{Entry}
use Rattle.tcp_link.specs.declared.entry.Entry.TheVariants as entries

-- ---- the first byte

-- at replica `at` of n, a peer that connects has a greater number below n
abbrev pub IsName : ℕ → ℕ → ℕ → Type 0
IsName n at byte = (at < byte) × (byte < n)

abbrev pub is_name : ℕ → ℕ → ℕ → Bool
is_name n at byte = nat_lt at byte && nat_lt byte n

-- what the first byte of what came is answered; once a connection has its name, its bytes aren't asked for one
abbrev pub naming : ℕ → Whom → List ℕ → Naming
naming n (Unnamed at) [] = Waits
naming n (Unnamed at) (byte ∷ rest) = if is_name n at byte then Names at byte else Closes
naming n (Peer at peer) bytes = Waits
naming n (Client at conn) bytes = Waits
naming n (Node from) bytes = Waits

-- ---- clients

-- replicas come in, and no clients
abbrev pub is_of_replicas : Entry → Bool
is_of_replicas (entries.Replicas at) = true
is_of_replicas (entries.Clients at) = false

-- whether one more may come in, where so many clients were numbered: peers always may. The numbers of clients are below `most_clients`
abbrev pub admits_one_more : Entry → ℕ → Bool
admits_one_more (entries.Replicas at) numbered = true
admits_one_more (entries.Clients at) numbered = nat_lt numbered most_clients

-- whether there is room for one that came in, where so many clients are there and all spare descriptors or not: a client takes none that
-- a peer may need
abbrev pub has_client_room : Entry → ℕ → Bool → Bool
has_client_room (entries.Replicas at) there has_spares = true
has_client_room (entries.Clients at) there has_spares = nat_lt there most_at_once && has_spares

-- whom a connection is with that came in, where so many clients were numbered
abbrev pub whom_at : Entry → ℕ → Whom
whom_at (entries.Replicas at) numbered = Unnamed at
whom_at (entries.Clients at) numbered = Client at numbered

-- and how many are numbered then
abbrev pub numbered_after : Entry → ℕ → ℕ
numbered_after (entries.Replicas at) numbered = numbered
numbered_after (entries.Clients at) numbered = numbered + 1

-- one that came in is let in, where so many clients were numbered, so many are there, and all spare descriptors or not
abbrev pub is_let_in : Entry → ℕ → ℕ → Bool → Bool
is_let_in entry numbered there has_spares = admits_one_more entry numbered && has_client_room entry there has_spares

-- then it is with this one, and else it is closed
abbrev pub whom_let_in : Entry → ℕ → ℕ → Bool → Option Whom
whom_let_in entry numbered there has_spares = if is_let_in entry numbered there has_spares then Some (whom_at entry numbered) else None

-- and so many clients are numbered
abbrev pub numbered_let_in : Entry → ℕ → ℕ → Bool → ℕ
numbered_let_in entry numbered there has_spares = if is_let_in entry numbered there has_spares then numbered_after entry numbered else numbered

-- ---- pieces

-- the most bytes of a piece: nothing is given of one that has no name yet
abbrev pub most_of : Whom → Option ℕ
most_of (Unnamed at) = None
most_of (Peer at peer) = Some longest_frame
most_of (Client at conn) = Some longest_piece
most_of (Node from) = Some longest_piece

-- with more kept bytes a connection takes no more
abbrev pub most_kept : Whom → ℕ
most_kept (Unnamed at) = most_unwritten_bytes
most_kept (Peer at peer) = most_unwritten_bytes
most_kept (Client at conn) = most_unwritten_bytes_of_client
most_kept (Node from) = most_unwritten_bytes

-- the item that a piece is
abbrev pub link_item_of : Whom → List ℕ → Option LinkItem
link_item_of (Unnamed at) bytes = None
link_item_of (Peer at peer) bytes = Some (Frame at bytes)
link_item_of (Client at conn) bytes = Some (Message at conn bytes)
link_item_of (Node from) bytes = Some (Reply from bytes)

-- it is with a client
abbrev pub is_client : Whom → Bool
is_client (Unnamed at) = false
is_client (Peer at peer) = false
is_client (Client at conn) = true
is_client (Node from) = false

-- it is with a node
abbrev pub is_node : Whom → Bool
is_node (Unnamed at) = false
is_node (Peer at peer) = false
is_node (Client at conn) = false
is_node (Node from) = true

-- it is with a peer
abbrev pub is_with_peer : Whom → Bool
is_with_peer (Unnamed at) = false
is_with_peer (Peer at peer) = true
is_with_peer (Client at conn) = false
is_with_peer (Node from) = false

-- it is a client's connection to this replica
abbrev pub is_client_of : ℕ → Whom → Bool
is_client_of own (Unnamed at) = false
is_client_of own (Peer at peer) = false
is_client_of own (Client at conn) = nat_eq at own
is_client_of own (Node from) = false

-- the replica through which bytes are sent, as its link finds the connection; a frame that is longer than a peer takes is dropped
abbrev pub sent_through : Bool → ℕ → ℕ → Option ℕ
sent_through is_client_link at length = if is_client_link then Some 0 else if nat_le length longest_frame then Some at else None

-- ---- news

-- the item that tells it
abbrev pub item_told : News → LinkItem
item_told (news.Up at peer) = items.Up at peer
item_told (news.Down at peer) = items.Down at peer
item_told (news.Left at conn) = items.Left at conn

-- what is told of a connection that came to a stage, by being made or by its number: of a peer, that it is up
abbrev pub up_of : Stage → Whom → Option News
up_of stage (Unnamed at) = None
up_of stage (Client at conn) = None
up_of stage (Node from) = None
up_of Up (Peer at peer) = Some (news.Up at peer)
up_of Begun (Peer at peer) = None
up_of Half (Peer at peer) = None
up_of Broken (Peer at peer) = None
up_of Older (Peer at peer) = None
up_of Refused (Peer at peer) = None
up_of Over (Peer at peer) = None
up_of Replaced (Peer at peer) = None

-- what is told of a closed connection: of a peer, that it is down, if the connection stood and none is in its place; of a node always;
-- of a client, that it left, if something of it was given
abbrev pub told_at_end : Stage → Bool → Whom → Option News
told_at_end stage has_given (Unnamed at) = None
told_at_end stage has_given (Client at conn) = if has_given then Some (news.Left at conn) else None
told_at_end stage has_given (Node from) = Some (news.Down 0 from)
told_at_end Over has_given (Peer at peer) = Some (news.Down at peer)
told_at_end Begun has_given (Peer at peer) = None
told_at_end Up has_given (Peer at peer) = None
told_at_end Half has_given (Peer at peer) = None
told_at_end Broken has_given (Peer at peer) = None
told_at_end Older has_given (Peer at peer) = None
told_at_end Refused has_given (Peer at peer) = None
told_at_end Replaced has_given (Peer at peer) = None

-- the dial that comes again for a closed connection: a client connects once
abbrev pub dial_again : {X : Type 0} → Bool → Option X → Option X
dial_again is_client_link dial = if is_client_link then None else dial

-- the byte that is told first by a connection that was begun
abbrev pub told_first : Whom → Option ℕ
told_first (Unnamed at) = None
told_first (Peer at peer) = Some at
told_first (Client at conn) = None
told_first (Node from) = None
