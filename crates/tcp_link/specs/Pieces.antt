-- Pieces of a stream.
use Rattle.std.specs.Prelude.{ℕ, ◌≡◌, ◌+◌, ◌<◌, ◌≤◌, ◌⊎◌, List, ◌++◌, length, take, drop}
use Rattle.std.specs.Int.{w16, to_be_bytes, from_be_bytes}
use Rattle.tcp_link.specs.Limits.{length_bytes}
use Rattle.tcp_link.specs.declared.pieces.Front.{Front}
use Rattle.tcp_link.specs.declared.pieces.Front.TheVariants as front

-- a piece: its length in two bytes, the greater first, and its bytes
abbrev pub piece : List ℕ → List ℕ
piece bytes = to_be_bytes w16 (length bytes) ++ bytes

-- the length that the first two bytes tell
abbrev pub length_told : List ℕ → ℕ
length_told bytes = from_be_bytes w16 (take length_bytes bytes)

-- what stands at the front of bytes, where pieces have at most so many: of a whole piece, the bytes after the length
abbrev pub IsPieceFront : List ℕ → ℕ → Front → Type 0
IsPieceFront bytes most (front.Piece p) =
    (length_bytes + length_told bytes ≤ length bytes) × (length_told bytes ≤ most) × (p.now ≡ take (length_told bytes) (drop length_bytes bytes))
IsPieceFront bytes most front.Part = (length bytes < length_bytes) ⊎ ((length_told bytes ≤ most) × (length bytes < length_bytes + length_told bytes))
IsPieceFront bytes most front.TooLong = (length_bytes ≤ length bytes) × (most < length_told bytes)

-- a piece at the front lies in the bytes, and has at most so many
abbrev pub FitsIn : List ℕ → ℕ → Front → Type 0
FitsIn bytes most (front.Piece p) = (length_bytes + length p.now ≤ length bytes) × (length p.now ≤ most)
FitsIn bytes most front.Part = Unit {0}
FitsIn bytes most front.TooLong = Unit {0}
