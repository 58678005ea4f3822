-- What a client may rely on, and that what is written is read.
use Rattle.std.specs.Prelude.{◌≡◌, ℕ, ◌+◌, ◌-◌, ◌^◌, ◌<◌, ◌≤◌, Bool, true, List, [], ◌∷◌, length, slice_index, count_by, Option, Some, None, Ok, Err}
use Rattle.ritas_base.specs.History.{replicas}
use Rattle.ritas_base.specs.Limits.{request_front, least_request, longest_payload}
use Rattle.client_port.specs.Messages.{Request, request_bytes, request_in, query_bytes, query_in, position_reply, refusal_reply}
use Rattle.client_port.specs.Votes.{Wanted, ReplyCall, position_said, replied, settled, answer_of}
use Rattle.client_port.specs.declared.votes.ReplyFault.TheVariants.{Refused}

-- ---- positions are true

-- a correct replica gives no other position than that of the request in its own log, where a row's position stays
abbrev pub IsFromLog : Wanted → (ℕ → Bool) → (ℕ → Option ℕ) → ReplyCall → Type 0
IsFromLog w is_correct log c = (position : ℕ) → is_correct c.from ≡ true → position_said w c ≡ Some position → log c.from ≡ Some position

abbrev pub AreFromLogs : Wanted → (ℕ → Bool) → (ℕ → Option ℕ) → List ReplyCall → Type 0
AreFromLogs w is_correct log [] = Unit {0}
AreFromLogs w is_correct log (c ∷ h) = IsFromLog w is_correct log c × AreFromLogs w is_correct log h

-- a correct replica has the request at this position of its log
pub record IsLogged (w : Wanted) (is_correct : ℕ → Bool) (log : ℕ → Option ℕ) (position : ℕ) : Type 0 where
  pub replica : ℕ
  pub within : replica < w.numbers.n
  pub correct : is_correct replica ≡ true
  pub stands : log replica ≡ Some position

-- of n replicas at least n - f are correct; then a position that is answered stands in the log of one of them
abbrev pub PositionLaw : Type 0
PositionLaw = (w : Wanted) (is_correct : ℕ → Bool) (log : ℕ → Option ℕ) (h : List ReplyCall) (c : ReplyCall) (position : ℕ)
    → w.numbers.n - w.numbers.f ≤ count_by is_correct (replicas w.numbers.n)
    → AreFromLogs w is_correct log (c ∷ h)
    → answer_of w h c ≡ Ok (Some position) → IsLogged w is_correct log position

-- ---- requests

-- numbers that fit four bytes, and a payload that is short enough, and long enough for the least request: with a least of
-- `request_front` it may be empty
pub record HasRoom (r : Request) : Type 0 where
  pub client : r.client < 2 ^ 32
  pub request : r.request < 2 ^ 32
  pub least : least_request ≤ request_front + length r.payload
  pub payload : length r.payload ≤ longest_payload

-- what is written is read
abbrev pub RequestIsRead : Type 0
RequestIsRead = (r : Request) → HasRoom r → request_in (request_bytes r) ≡ Some r

-- and nothing else is
abbrev pub RequestWasWritten : Type 0
RequestWasWritten = (bytes : List ℕ) (r : Request) → ((k : ℕ) → slice_index bytes k < 256) → request_in bytes ≡ Some r → bytes ≡ request_bytes r

-- ---- queries

-- what is written is read
abbrev pub QueryIsRead : Type 0
QueryIsRead = (position : ℕ) → position < 2 ^ 32 → query_in (query_bytes position) ≡ Some position

-- and nothing else is
abbrev pub QueryWasWritten : Type 0
QueryWasWritten = (bytes : List ℕ) (position : ℕ) → ((k : ℕ) → slice_index bytes k < 256) → query_in bytes ≡ Some position
    → bytes ≡ query_bytes position

-- no query is a request
abbrev pub QueryIsNoRequest : Type 0
QueryIsNoRequest = (bytes : List ℕ) (position : ℕ) → query_in bytes ≡ Some position → request_in bytes ≡ None

-- ---- replies

-- a replica whose reply to this request is awaited: it gave no position yet, and the numbers fit four bytes
pub record IsAwaited (w : Wanted) (h : List ReplyCall) (from : ℕ) : Type 0 where
  pub client : w.client < 2 ^ 32
  pub request : w.request < 2 ^ 32
  pub within : from < w.numbers.n
  pub first : replied w h from ≡ None

abbrev pub position_from : Wanted → ℕ → ℕ → ReplyCall
position_from w from position = record { from = from; bytes = position_reply w.client w.request position }

abbrev pub refusal_from : Wanted → ℕ → ℕ → ReplyCall
refusal_from w from code = record { from = from; bytes = refusal_reply w.client w.request code }

-- a position that is written is read as it
abbrev pub PositionIsRead : Type 0
PositionIsRead = (w : Wanted) (h : List ReplyCall) (from position : ℕ) → IsAwaited w h from → position < 2 ^ 32
    → (replied w (position_from w from position ∷ h) from ≡ Some position)
    × (answer_of w h (position_from w from position) ≡ Ok (settled w (position_from w from position ∷ h) position))

-- a refusal that is written is read as it, and isn't counted
abbrev pub RefusalIsRead : Type 0
RefusalIsRead = (w : Wanted) (h : List ReplyCall) (from code : ℕ) → IsAwaited w h from → code < 2 ^ 32
    → (answer_of w h (refusal_from w from code) ≡ Err (Refused code))
    × ((k : ℕ) → replied w (refusal_from w from code ∷ h) k ≡ replied w h k)
