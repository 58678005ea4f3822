-- Frames that are kept: one list for each peer, each in the order in which its frames were kept.
use Rattle.std.specs.Prelude.{◌≡◌, ℕ, ◌+◌, ◌==◌, ◌&&◌, nat_le, nat_lt, not, Bool, true, false, List, [], ◌∷◌, ◌++◌, filter, slice_index_or, slice_set, length, sum_by, Option, Some, None, if◌then◌else◌}
use Rattle.ritas_base.specs.declared.mode.FrameVersion.{FrameVersion}
use Rattle.ritas_base.specs.declared.mode.FrameVersion.TheVariants.{One, Two, Three}
use Rattle.link_resume.specs.declared.kept.Kept.{Kept}

-- what is kept for each peer, and the most bytes that are kept for one, if there is a limit
pub record Keepings : Type 0 where
  pub limit : Option ℕ
  pub lists : List (List Kept)

-- what is kept for a peer
abbrev pub kept_for : List (List Kept) → ℕ → List Kept
kept_for lists peer = slice_index_or lists peer []

-- how many bytes these frames have
abbrev pub bytes_in : List Kept → ℕ
bytes_in kept = sum_by (λ k. length k.frame) kept

-- ---- the limit

-- the most bytes that are kept for one peer in a session of versions 1 and 2; in version 3 there is no limit
abbrev pub most_kept_bytes : ℕ
most_kept_bytes = 8388608

abbrev pub most_kept : FrameVersion → Option ℕ
most_kept One = Some most_kept_bytes
most_kept Two = Some most_kept_bytes
most_kept Three = None

-- so many bytes may be kept
abbrev pub may_have : Option ℕ → ℕ → Bool
may_have None bytes = true
may_have (Some most) bytes = nat_le bytes most

-- they are within the limit, or over it
abbrev pub IsWithin : Option ℕ → ℕ → Type 0
IsWithin limit bytes = may_have limit bytes ≡ true

abbrev pub IsOver : Option ℕ → ℕ → Type 0
IsOver limit bytes = may_have limit bytes ≡ false

-- ---- what is kept

-- what is kept for a peer is this
abbrev pub with_list : Keepings → ℕ → List Kept → Keepings
with_list k peer kept = record k { lists = slice_set k.lists peer kept }

-- a frame of this number is kept behind the others of the peer
abbrev pub with_frame_kept : Keepings → ℕ → ℕ → List ℕ → Keepings
with_frame_kept k peer seq frame = with_list k peer (kept_for k.lists peer ++ record { seq = seq; frame = frame } ∷ [])

-- those that have another number
abbrev pub all_but : ℕ → List Kept → List Kept
all_but seq kept = filter (λ k. not (k.seq == seq)) kept

-- the frames of this number aren't kept any more
abbrev pub without_number : Keepings → ℕ → ℕ → Keepings
without_number k peer seq = with_list k peer (all_but seq (kept_for k.lists peer))

-- the oldest are dropped until so many bytes fit behind the others
abbrev pub room_within : ℕ → ℕ → List Kept → List Kept
room_within most size [] = []
room_within most size (k ∷ ks) = if nat_le (bytes_in (k ∷ ks) + size) most then k ∷ ks else room_within most size ks

-- with no limit none is
abbrev pub room_for : Option ℕ → ℕ → List Kept → List Kept
room_for None size kept = kept
room_for (Some most) size kept = room_within most size kept

-- so it is of what is kept for a peer
abbrev pub with_room : Keepings → ℕ → ℕ → Keepings
with_room k peer size = with_list k peer (room_for k.limit size (kept_for k.lists peer))

-- ---- batches

-- whether a frame has a greater number than another one, if there is another
abbrev pub is_behind : Option ℕ → Kept → Bool
is_behind None k = true
is_behind (Some seq) k = nat_lt seq k.seq

-- and none greater than the last one
abbrev pub is_between : Option ℕ → ℕ → Kept → Bool
is_between after last k = is_behind after k && nat_le k.seq last

-- the frames with such numbers
abbrev pub between : Option ℕ → ℕ → List Kept → List Kept
between after last kept = filter (is_between after last) kept

-- whether a frame of so many bytes is in a batch behind others that have so many, if there are any, where it may have a most of bytes
abbrev pub joins_batch : ℕ → Option ℕ → ℕ → Bool
joins_batch most None size = true
joins_batch most (Some bytes) size = nat_le (bytes + size) most

-- how many they have with it
abbrev pub bytes_with : Option ℕ → ℕ → ℕ
bytes_with None size = size
bytes_with (Some bytes) size = bytes + size

-- as many of the first ones as are in a batch behind others
abbrev pub batch_behind : ℕ → Option ℕ → List Kept → List Kept
batch_behind most given [] = []
batch_behind most given (k ∷ ks) =
    if joins_batch most given (length k.frame) then k ∷ batch_behind most (Some (bytes_with given (length k.frame))) ks else []

-- as many of the first ones as have at most so many bytes together, and at least one
abbrev pub batch : ℕ → List Kept → List Kept
batch most kept = batch_behind most None kept

-- the number of the last one
abbrev pub last_seq : ℕ → List Kept → ℕ
last_seq seq [] = seq
last_seq seq (k ∷ ks) = last_seq k.seq ks

abbrev pub last_number : List Kept → Option ℕ
last_number [] = None
last_number (k ∷ ks) = Some (last_seq k.seq ks)
