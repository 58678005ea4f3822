-- A piece of a log, as a replica gives it to whoever asks for a position: the rows from there on, and their bytes. A
-- log has the newest row first; the rows of a piece stand in the order of their positions. Numbers have the most
-- significant byte first.
use Rattle.std.specs.Prelude.{◌≡◌, ℕ, zero, suc, ◌+◌, ◌-◌, nat_le, List, [], ◌∷◌, ◌++◌, length, drop, reverse, slice_get, Some, if◌then◌else◌}
use Rattle.std.specs.Int.{w16, w32, to_be_bytes}
use Rattle.command_log.specs.Rows.{Row, row_at}

-- the rows from a position on
pub record Piece : Type 0 where
  pub position : ℕ
  pub rows : List Row

-- ---- its bytes

-- a row begins with so many bytes: origin, number, client, request and the length of the payload
abbrev pub row_front : ℕ
row_front = 15

abbrev pub row_size : Row → ℕ
row_size r = row_front + length r.payload

abbrev pub row_bytes : Row → List ℕ
row_bytes r = r.id.origin ∷ to_be_bytes w32 r.id.num
    ++ (to_be_bytes w32 r.client ++ (to_be_bytes w32 r.request ++ (to_be_bytes w16 (length r.payload) ++ r.payload)))

abbrev pub rows_bytes : List Row → List ℕ
rows_bytes [] = []
rows_bytes (r ∷ rs) = row_bytes r ++ rows_bytes rs

-- a piece begins with so many: its form, the position, and how many rows there are
abbrev pub piece_front : ℕ
piece_front = 6

abbrev pub piece_form : ℕ
piece_form = 3

abbrev pub piece_bytes : Piece → List ℕ
piece_bytes p = piece_form ∷ to_be_bytes w32 p.position ++ (length p.rows ∷ rows_bytes p.rows)

-- ---- which rows it has

-- a piece has so many rows at most, and so many bytes
abbrev pub most_rows : ℕ
most_rows = 8

abbrev pub longest_log_piece : ℕ
longest_log_piece = 16384

-- of these rows, the first ones, so many at most, that have room in so many bytes
abbrev pub rows_within : ℕ → ℕ → List Row → List Row
rows_within zero room rs = []
rows_within (suc most) room [] = []
rows_within (suc most) room (r ∷ rs) =
    if nat_le (row_size r) room then r ∷ rows_within most (room - row_size r) rs else []

-- the piece of a log from a position on: as many rows as are there, and as a piece has
abbrev pub piece_of_log : List Row → ℕ → Piece
piece_of_log log position = record {
  position = position;
  rows = rows_within most_rows (longest_log_piece - piece_front) (drop position (reverse log));
}

-- ---- what it says

-- each row of the piece is that of the log at its position
abbrev pub IsOfLog : List Row → Piece → Type 0
IsOfLog log p = (i : ℕ) (r : Row) → slice_get p.rows i ≡ Some r → row_at log (p.position + i) ≡ Some r
