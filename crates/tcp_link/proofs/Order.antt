-- What comes next is the first of all that is given.
use Rattle.std.proofs.Common.{◌≡◌, ℕ, true, nat_eq, List, [], ◌∷◌, ◌++◌, map, drop, Some, refl, ap, arith}
use Rattle.std.specs.List.{flat_map}
use Rattle.std.proofs.lemmas.Bool.Decides.{nat_tests}
use Rattle.tcp_link.specs.declared.news.News.{News}
use Rattle.tcp_link.specs.declared.agenda.Next.TheVariants as next
use Rattle.tcp_link.specs.Queues.{Queue, next_in, without_next, Given, IsTold, Piece, pieces_of, piece_of, all_given, came_but, after_frame, after_message, IsNoneOf, NewsFirst, FramesInOrder, MessagesInOrder}

same_number : (t : ℕ) → nat_eq t t ≡ true
same_number t = grind (arith, nat_tests)

-- pieces of other connections stay
others_all : (came : ℕ → List (List ℕ)) (t : ℕ) (left : List (List ℕ)) (us : List ℕ) → IsNoneOf us t
    → flat_map (pieces_of (came_but came t left)) us ≡ flat_map (pieces_of came) us
others_all came t left [] none = refl
others_all came t left (u ∷ us) none = rw (none.0, others_all came t left us none.1) refl

others_one : (came : ℕ → List (List ℕ)) (t : ℕ) (left : List (List ℕ)) (us : List ℕ) → IsNoneOf us t
    → flat_map (piece_of (came_but came t left)) us ≡ flat_map (piece_of came) us
others_one came t left [] none = refl
others_one came t left (u ∷ us) none = rw (none.0, others_one came t left us none.1) refl

-- ---- over the lists of a queue

abbrev queue : List News → List ℕ → List ℕ → List ℕ → Queue
queue news frames due later = record { news = news; frames = frames; due = due; later = later }

news_lists : (came : ℕ → List (List ℕ)) (news : List News) (frames due later : List ℕ) (d : News) → next_in news frames due ≡ Some (next.Told d)
    → all_given came (queue news frames due later) ≡ IsTold d ∷ all_given came (without_next (queue news frames due later) (next_in news frames due))
news_lists came (x ∷ news) frames due later d is =
    let same : x ≡ d = cc in
    rw same refl
news_lists came [] (t ∷ frames) due later d is = cc
news_lists came [] [] (t ∷ due) later d is = cc
news_lists came [] [] [] later d is = cc

-- the pieces of a connection that is the first again, or is on no list
frames_left : (came : ℕ → List (List ℕ)) (frames due later : List ℕ) (t : ℕ) (pieces : List (List ℕ)) → IsNoneOf frames t → IsNoneOf due t
    → map (Piece t) pieces ++ flat_map (pieces_of came) frames ++ flat_map (piece_of came) due
    ≡ all_given (came_but came t pieces) (after_frame (queue [] frames due later) t pieces)
frames_left came frames due later t [] apart apart_due = rw (others_all came t [] frames apart, others_one came t [] due apart_due) refl
frames_left came frames due later t (p ∷ pieces) apart apart_due =
    rw (same_number t, others_all came t (p ∷ pieces) frames apart, others_one came t (p ∷ pieces) due apart_due) refl

frame_lists : (came : ℕ → List (List ℕ)) (news : List News) (frames due later : List ℕ) (t : ℕ) (piece : List ℕ) (pieces : List (List ℕ))
    → next_in news frames due ≡ Some (next.Frame t) → came t ≡ piece ∷ pieces → IsNoneOf (drop 1 frames) t → IsNoneOf due t
    → all_given came (queue news frames due later)
    ≡ Piece t piece ∷ all_given (came_but came t pieces) (after_frame (without_next (queue news frames due later) (next_in news frames due)) t pieces)
frame_lists came (x ∷ news) frames due later t piece pieces is here apart apart_due = cc
frame_lists came [] (u ∷ frames) due later t piece pieces is here apart apart_due =
    let same : u ≡ t = cc in
    rw (same, here) (ap (λ (gs : List Given). Piece t piece ∷ gs) (frames_left came frames due later t pieces apart apart_due))
frame_lists came [] [] (u ∷ due) later t piece pieces is here apart apart_due = cc
frame_lists came [] [] [] later t piece pieces is here apart apart_due = cc

messages_left : (came : ℕ → List (List ℕ)) (due later : List ℕ) (t : ℕ) (pieces : List (List ℕ)) → IsNoneOf due t
    → flat_map (piece_of came) due ≡ all_given (came_but came t pieces) (after_message (queue [] [] due later) t pieces)
messages_left came due later t [] apart = rw (others_one came t [] due apart) refl
messages_left came due later t (p ∷ pieces) apart = rw (others_one came t (p ∷ pieces) due apart) refl

message_lists : (came : ℕ → List (List ℕ)) (news : List News) (frames due later : List ℕ) (t : ℕ) (piece : List ℕ) (pieces : List (List ℕ))
    → next_in news frames due ≡ Some (next.Message t) → came t ≡ piece ∷ pieces → IsNoneOf (drop 1 due) t
    → all_given came (queue news frames due later)
    ≡ Piece t piece ∷ all_given (came_but came t pieces) (after_message (without_next (queue news frames due later) (next_in news frames due)) t pieces)
message_lists came (x ∷ news) frames due later t piece pieces is here apart = cc
message_lists came [] (u ∷ frames) due later t piece pieces is here apart = cc
message_lists came [] [] (u ∷ due) later t piece pieces is here apart =
    let same : u ≡ t = cc in
    rw (same, here) (ap (λ (gs : List Given). Piece t piece ∷ gs) (messages_left came due later t pieces apart))
message_lists came [] [] [] later t piece pieces is here apart = cc

-- ---- the laws

pub news_first : NewsFirst
news_first came q d is = news_lists came q.news q.frames q.due q.later d is

pub frames_in_order : FramesInOrder
frames_in_order came q t piece pieces is here apart apart_due = frame_lists came q.news q.frames q.due q.later t piece pieces is here apart apart_due

pub messages_in_order : MessagesInOrder
messages_in_order came q t piece pieces is here apart = message_lists came q.news q.frames q.due q.later t piece pieces is here apart
