-- A piece, read from the left: what its bytes say, and where they are wrong.
use Rattle.std.specs.Prelude.{◌≡◌, ℕ, zero, suc, ◌+◌, ◌-◌, ◌<◌, ◌≤◌, ◌==◌, Bool, ◌&&◌, nat_le, nat_lt, List, [], ◌∷◌, length, take, drop, slice_index, Option, Some, None, if◌then◌else◌}
use Rattle.std.specs.Int.{w16, from_be_bytes}
use Rattle.std.specs.Option.{option_or}
use Rattle.client_port.specs.Messages.{four_bytes_at}
use Rattle.ritas_base.specs.Limits.{number_limit, longest_payload}
use Rattle.ritas_base.specs.Places.{first_failed}
use Rattle.command_log.specs.Rows.{Row}
use Rattle.command_log.specs.Pieces.{Piece, row_front, piece_front, piece_form, most_rows, longest_log_piece, piece_bytes}

-- the number in the two bytes from a place on
unfoldable pub two_at : ℕ → List ℕ → ℕ
two_at at bytes = from_be_bytes w16 (take 2 (drop at bytes))

-- ---- what the bytes say

abbrev pub payload_size : List ℕ → ℕ
payload_size bytes = two_at 13 bytes

-- the row with which the bytes begin, and what follows it
abbrev pub row_at_front : List ℕ → Row
row_at_front bytes = record {
  id = record { origin = slice_index bytes 0; num = four_bytes_at 1 bytes };
  client = four_bytes_at 5 bytes;
  request = four_bytes_at 9 bytes;
  payload = take (payload_size bytes) (drop row_front bytes);
}

abbrev pub after_row : List ℕ → List ℕ
after_row bytes = drop (row_front + payload_size bytes) bytes

-- so many rows, one after the other
abbrev pub rows_at_front : ℕ → List ℕ → List Row
rows_at_front zero bytes = []
rows_at_front (suc count) bytes = row_at_front bytes ∷ rows_at_front count (after_row bytes)

abbrev pub position_in : List ℕ → ℕ
position_in bytes = four_bytes_at 1 bytes

abbrev pub row_count_in : List ℕ → ℕ
row_count_in bytes = slice_index bytes 5

abbrev pub piece_in : List ℕ → Piece
piece_in bytes = record {
  position = position_in bytes;
  rows = rows_at_front (row_count_in bytes) (drop piece_front bytes);
}

-- ---- where they are wrong

-- Each test comes with how many bytes are left where it fails: none where the bytes end before a field does, and else
-- those from the wrong field's first byte on.
abbrev pub row_tests : ℕ → List ℕ → List (Bool × ℕ)
row_tests n bytes =
    (nat_le 1 (length bytes), 0)
    ∷ (nat_lt (slice_index bytes 0) n, length bytes)
    ∷ (nat_le 5 (length bytes), 0)
    ∷ (nat_lt (four_bytes_at 1 bytes) number_limit, length bytes - 1)
    ∷ (nat_le row_front (length bytes), 0)
    ∷ (nat_le (payload_size bytes) longest_payload, length bytes - 13)
    ∷ (nat_le (row_front + payload_size bytes) (length bytes), 0)
    ∷ []

unfoldable pub row_left : ℕ → List ℕ → Option ℕ
row_left n bytes = first_failed (row_tests n bytes)

-- so many rows are whole there
abbrev pub AreWhole : ℕ → List ℕ → Type 0
AreWhole zero bytes = Unit {0}
AreWhole (suc count) bytes = (row_front + payload_size bytes ≤ length bytes) × AreWhole count (after_row bytes)

-- what is behind the last row is too much
abbrev pub rest_left : List ℕ → Option ℕ
rest_left [] = None
rest_left (byte ∷ bytes) = Some (length (byte ∷ bytes))

-- so many rows, and nothing behind them
abbrev pub rows_left : ℕ → ℕ → List ℕ → Option ℕ
rows_left n zero bytes = rest_left bytes
rows_left n (suc count) bytes = option_or (row_left n bytes) (rows_left n count (after_row bytes))

-- the number of rows: a piece has so many at most, and each row has a position below 4,294,967,295
abbrev pub is_count : ℕ → ℕ → Bool
is_count position count = nat_le count most_rows && nat_le (position + count) 4294967295

abbrev pub front_tests : List ℕ → List (Bool × ℕ)
front_tests bytes =
    (nat_le 1 (length bytes), 0)
    ∷ (slice_index bytes 0 == piece_form, length bytes)
    ∷ (nat_le piece_front (length bytes), 0)
    ∷ (is_count (position_in bytes) (row_count_in bytes), length bytes - 5)
    ∷ []

unfoldable pub front_left : List ℕ → Option ℕ
front_left bytes = first_failed (front_tests bytes)

-- how many bytes are left from the first wrong one on, of bytes of which a piece has no more
abbrev pub piece_left : ℕ → List ℕ → Option ℕ
piece_left n bytes = option_or (front_left bytes) (rows_left n (row_count_in bytes) (drop piece_front bytes))

-- the offset of the first byte that is wrong, missing or too much; a piece has at most 16,384 bytes, and what is
-- behind them is too much
abbrev pub offset_of : List ℕ → List ℕ → Option ℕ → Option ℕ
offset_of bytes short (Some left) = Some (length short - left)
offset_of bytes short None = if nat_lt longest_log_piece (length bytes) then Some longest_log_piece else None

unfoldable pub form_fault : ℕ → List ℕ → Option ℕ
form_fault n bytes = offset_of bytes (take longest_log_piece bytes) (piece_left n (take longest_log_piece bytes))

-- the front is there, the positions fit, and the rows are whole
pub record IsWhole (bytes : List ℕ) : Type 0 where
  pub front : piece_front ≤ length bytes
  pub below : position_in bytes + row_count_in bytes ≤ 4294967295
  pub rows : AreWhole (row_count_in bytes) (drop piece_front bytes)

-- ---- what a piece is

-- a row of a session of n replicas, whose numbers fit their fields
pub record IsPieceRow (n : ℕ) (r : Row) : Type 0 where
  pub origin : r.id.origin < n
  pub num : r.id.num < number_limit
  pub client : r.client < 4294967296
  pub request : r.request < 4294967296
  pub payload : length r.payload ≤ longest_payload

abbrev pub ArePieceRows : ℕ → List Row → Type 0
ArePieceRows n [] = Unit {0}
ArePieceRows n (r ∷ rs) = IsPieceRow n r × ArePieceRows n rs

pub record IsPiece (n : ℕ) (p : Piece) : Type 0 where
  pub position : p.position < 4294967296
  pub few : length p.rows ≤ most_rows
  pub below : p.position + length p.rows ≤ 4294967295
  pub rows : ArePieceRows n p.rows
  pub short : length (piece_bytes p) ≤ longest_log_piece

-- these bytes spell this piece
pub record SpellsPiece (n : ℕ) (bytes : List ℕ) (p : Piece) : Type 0 where
  pub piece : IsPiece n p
  pub text : bytes ≡ piece_bytes p
