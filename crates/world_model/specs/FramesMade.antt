-- The frames that the replicas of a world made, for each sender and receiver the oldest first, and in which order.
use Rattle.std.specs.Prelude.{◌≡◌, ℕ, ◌+◌, ◌*◌, ◌==◌, List, [], ◌∷◌, ◌++◌, map, filter, length, slice_index_or, slice_set, Option, Some, None}
use Rattle.std.specs.List.{slice_get}
use Rattle.std.specs.Option.{option_map}
use Rattle.replica.specs.Out.{OutFrame}
use Rattle.world_model.specs.declared.order.Place.{Place}
use Rattle.world_model.specs.MadeOrder.{MadeFrame}

-- a list for each sender and receiver, of n, and where each frame stands, in the order in which they were made
pub record MadeTable : Type 0 where
  pub n : ℕ
  pub lists : List (List (List ℕ))
  pub order : List Place

-- the table has a list for each two of n replicas
pub record IsSquare (t : MadeTable) (n : ℕ) : Type 0 where
  pub many : t.n ≡ n
  pub lists : length t.lists ≡ n * n

-- the frames that one replica made for another
abbrev pub made_in : MadeTable → ℕ → ℕ → List (List ℕ)
made_in t from to = slice_index_or t.lists (from * t.n + to) []

-- those of these frames that are for j
abbrev pub frames_to : ℕ → List OutFrame → List (List ℕ)
frames_to j frames = map (λ f. f.bytes) (filter (λ f. f.to == j) frames)

-- ---- the order

-- the frame at a place
abbrev pub frame_placed : MadeTable → Place → Option MadeFrame
frame_placed t p =
    option_map (λ bytes. record { event = p.event; from = p.from; to = p.to; bytes = bytes })
    (slice_get (made_in t p.from p.to) p.at)

abbrev pub placed_if : MadeTable → Option Place → Option MadeFrame
placed_if t None = None
placed_if t (Some p) = frame_placed t p

-- the frame of this number, from 0
abbrev pub made_at : MadeTable → ℕ → Option MadeFrame
made_at t k = placed_if t (slice_get t.order k)

-- the places of the order are those of these frames
abbrev pub IsOrderOf : MadeTable → List MadeFrame → Type 0
IsOrderOf t frames = map (frame_placed t) t.order ≡ map Some frames

-- ---- more frames

-- where the next frame of a sender for a receiver stands
abbrev pub next_place : MadeTable → ℕ → ℕ → ℕ → Place
next_place t event from to = record { event = event; from = from; to = to; at = length (made_in t from to) }

-- the lists, with one frame more at the back of the one at a place
abbrev pub pushed_at : List (List (List ℕ)) → ℕ → List ℕ → List (List (List ℕ))
pushed_at lists at frame = slice_set lists at (slice_index_or lists at [] ++ frame ∷ [])

-- one frame more, which a replica made in an event
abbrev pub with_frame : MadeTable → ℕ → ℕ → OutFrame → MadeTable
with_frame t event from frame = record {
  n = t.n;
  lists = pushed_at t.lists (from * t.n + frame.to) frame.bytes;
  order = t.order ++ next_place t event from frame.to ∷ [];
}

-- these frames more, of one sender
abbrev pub with_frames : MadeTable → ℕ → ℕ → List OutFrame → MadeTable
with_frames t event from [] = t
with_frames t event from (frame ∷ frames) = with_frames (with_frame t event from frame) event from frames
