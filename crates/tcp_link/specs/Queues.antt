-- The order in which a link gives what came. A connection is named by its token, and is at most once among those with pieces.
use Rattle.std.specs.Prelude.{◌≡◌, ℕ, false, nat_eq, List, [], ◌∷◌, ◌++◌, map, take, drop, Option, Some, None, if◌then◌else◌}
use Rattle.std.specs.List.{flat_map}
use Rattle.tcp_link.specs.Limits.{messages_a_turn}
use Rattle.tcp_link.specs.declared.news.News.{News}
use Rattle.tcp_link.specs.declared.agenda.Next.{Next}
use Rattle.tcp_link.specs.declared.agenda.Next.TheVariants as next

-- news of peers, nodes and clients; the connections of peers and nodes with pieces; those of clients from which one piece is given in this turn; and
-- those whose turn comes later
pub record Queue : Type 0 where
  pub news : List News
  pub frames : List ℕ
  pub due : List ℕ
  pub later : List ℕ

abbrev pub empty_queue : Queue
empty_queue = record { news = []; frames = []; due = []; later = [] }

-- ---- what comes next: news, then frames, then the messages of this turn

abbrev pub next_in : List News → List ℕ → List ℕ → Option Next
next_in (one ∷ news) frames due = Some (next.Told one)
next_in [] (t ∷ frames) due = Some (next.Frame t)
next_in [] [] (t ∷ due) = Some (next.Message t)
next_in [] [] [] = None

abbrev pub next_of : Queue → Option Next
next_of q = next_in q.news q.frames q.due

abbrev pub without_next : Queue → Option Next → Queue
without_next q (Some (next.Told one)) = record q { news = drop 1 q.news }
without_next q (Some (next.Frame t)) = record q { frames = drop 1 q.frames }
without_next q (Some (next.Message t)) = record q { due = drop 1 q.due }
without_next q None = q

-- ---- what is put where

abbrev pub with_news : Queue → News → Queue
with_news q one = record q { news = q.news ++ one ∷ [] }

abbrev pub with_told : Queue → Option News → Queue
with_told q None = q
with_told q (Some one) = with_news q one

-- a connection of a peer or a node that has pieces is the last of them
abbrev pub with_frame_last : Queue → ℕ → Queue
with_frame_last q t = record q { frames = q.frames ++ t ∷ [] }

-- one from which a piece was given, and which has more, is the first: so all of one come one after the other
abbrev pub with_frame_first : Queue → ℕ → Queue
with_frame_first q t = record q { frames = t ∷ q.frames }

-- a client that has a piece, or one more, gives it in a later turn
abbrev pub with_message : Queue → ℕ → Queue
with_message q t = record q { later = q.later ++ t ∷ [] }

-- a turn begins: the first clients of those that have a piece give one each, and the others wait for a later turn
abbrev pub in_turn : Queue → Queue
in_turn q = record q { due = take messages_a_turn (q.due ++ q.later); later = drop messages_a_turn (q.due ++ q.later) }

-- ---- the whole order, where it is known which pieces came by each connection

-- what is given: news, or a piece of a connection
pub data Given : Type 0 where
  IsTold : News → Given
  Piece : ℕ → List ℕ → Given

-- all pieces of a connection
abbrev pub pieces_of : (ℕ → List (List ℕ)) → ℕ → List Given
pieces_of came t = map (Piece t) (came t)

-- one piece of it, if it has one
abbrev pub piece_of : (ℕ → List (List ℕ)) → ℕ → List Given
piece_of came t = take 1 (pieces_of came t)

-- what is given before the next turn: all news, all frames connection by connection, and one message of each client
abbrev pub all_given : (ℕ → List (List ℕ)) → Queue → List Given
all_given came q = map IsTold q.news ++ (flat_map (pieces_of came) q.frames ++ flat_map (piece_of came) q.due)

-- the pieces that are left, where these are of one connection
abbrev pub came_but : (ℕ → List (List ℕ)) → ℕ → List (List ℕ) → ℕ → List (List ℕ)
came_but came t pieces u = if nat_eq u t then pieces else came u

-- after a piece of a connection of a peer: it is the first again where it has more, and else is on no list
abbrev pub after_frame : Queue → ℕ → List (List ℕ) → Queue
after_frame q t [] = q
after_frame q t (p ∷ pieces) = with_frame_first q t

-- after a piece of a client: it is in a later turn where it has more
abbrev pub after_message : Queue → ℕ → List (List ℕ) → Queue
after_message q t [] = q
after_message q t (p ∷ pieces) = with_message q t

-- a connection is none of these
abbrev pub IsNoneOf : List ℕ → ℕ → Type 0
IsNoneOf [] t = Unit {0}
IsNoneOf (u ∷ us) t = (nat_eq u t ≡ false) × IsNoneOf us t

-- news comes first
abbrev pub NewsFirst : Type 0
NewsFirst = (came : ℕ → List (List ℕ)) (q : Queue) (one : News) → next_of q ≡ Some (next.Told one)
    → all_given came q ≡ IsTold one ∷ all_given came (without_next q (next_of q))

-- a frame that comes next is the first of all that is given, and then the rest is, in the same order
abbrev pub FramesInOrder : Type 0
FramesInOrder = (came : ℕ → List (List ℕ)) (q : Queue) (t : ℕ) (piece : List ℕ) (pieces : List (List ℕ)) → next_of q ≡ Some (next.Frame t)
    → came t ≡ piece ∷ pieces → IsNoneOf (drop 1 q.frames) t → IsNoneOf q.due t
    → all_given came q ≡ Piece t piece ∷ all_given (came_but came t pieces) (after_frame (without_next q (next_of q)) t pieces)

-- and so is a message
abbrev pub MessagesInOrder : Type 0
MessagesInOrder = (came : ℕ → List (List ℕ)) (q : Queue) (t : ℕ) (piece : List ℕ) (pieces : List (List ℕ)) → next_of q ≡ Some (next.Message t)
    → came t ≡ piece ∷ pieces → IsNoneOf (drop 1 q.due) t
    → all_given came q ≡ Piece t piece ∷ all_given (came_but came t pieces) (after_message (without_next q (next_of q)) t pieces)
