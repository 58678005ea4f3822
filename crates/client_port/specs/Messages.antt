-- What clients and replicas say to each other: requests, queries and replies, as lists of bytes. Numbers have four
-- bytes, the most significant first.
use Rattle.std.specs.Prelude.{ℕ, ◌==◌, ◌&&◌, nat_le, List, ◌∷◌, ◌++◌, length, take, drop, slice_index, Option, Some, None, if◌then◌else◌}
use Rattle.std.specs.Int.{w32, to_be_bytes, from_be_bytes}
use Rattle.ritas_base.specs.Limits.{request_front, least_request, longest_input}

-- the number in the four bytes from a place on
unfoldable pub four_bytes_at : ℕ → List ℕ → ℕ
four_bytes_at at bytes = from_be_bytes w32 (take 4 (drop at bytes))

-- ---- requests

-- a request: the client's number, its own number for the request, and what it asks
pub record Request : Type 0 where
  pub client : ℕ
  pub request : ℕ
  pub payload : List ℕ

-- the bytes of a request
abbrev pub request_bytes : Request → List ℕ
request_bytes r = to_be_bytes w32 r.client ++ (to_be_bytes w32 r.request ++ r.payload)

abbrev pub request_parts : List ℕ → Request
request_parts bytes = record { client = four_bytes_at 0 bytes; request = four_bytes_at 4 bytes; payload = drop request_front bytes }

-- the request that a message is, which has `least_request` (8) to `longest_input` (4,096) bytes
unfoldable pub request_in : List ℕ → Option Request
request_in bytes = if nat_le least_request (length bytes) && nat_le (length bytes) longest_input then Some (request_parts bytes) else None

-- ---- queries

-- a query asks for the rows of a log from a position on
abbrev pub query_bytes : ℕ → List ℕ
query_bytes position = 76 ∷ to_be_bytes w32 position

-- the position that a message asks for: it has five bytes, and the first is that of a query
unfoldable pub query_in : List ℕ → Option ℕ
query_in bytes = if (length bytes == 5) && (slice_index bytes 0 == 76) then Some (four_bytes_at 1 bytes) else None

-- ---- replies

-- a reply: its form, the client's number, the request's, and one number more
abbrev pub reply_bytes : ℕ → ℕ → ℕ → ℕ → List ℕ
reply_bytes form client request number = form ∷ to_be_bytes w32 client ++ (to_be_bytes w32 request ++ to_be_bytes w32 number)

-- form 1: the request has this position
abbrev pub position_reply : ℕ → ℕ → ℕ → List ℕ
position_reply client request position = reply_bytes 1 client request position

-- form 2: the request is refused, for the fault of this number
abbrev pub refusal_reply : ℕ → ℕ → ℕ → List ℕ
refusal_reply client request code = reply_bytes 2 client request code

-- the parts of a reply
abbrev pub form_in : List ℕ → ℕ
form_in bytes = slice_index bytes 0

abbrev pub client_in : List ℕ → ℕ
client_in bytes = four_bytes_at 1 bytes

abbrev pub request_number_in : List ℕ → ℕ
request_number_in bytes = four_bytes_at 5 bytes

abbrev pub reply_number_in : List ℕ → ℕ
reply_number_in bytes = four_bytes_at 9 bytes
