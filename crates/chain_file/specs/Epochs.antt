-- The record of an epoch in a chain file: what an epoch left as it was closed, and its text. Numbers have the most significant
-- byte first.
--
-- In a list of rows the newest is first, as in a log; in the text the oldest is first. The requests that waited have the oldest first.
use Rattle.std.specs.Prelude.{◌≡◌, ℕ, ◌-◌, ◌<◌, ◌≤◌, ◌^◌, List, [], ◌∷◌, ◌++◌, length, take, reverse}
use Rattle.std.specs.Int.{w16, w32, to_be_bytes}
use Rattle.std.specs.List.{AllByRecursion}
use Rattle.ritas_base.specs.Limits.{least_request, longest_input}
use Rattle.command_log.specs.Rows.{Row}
use Rattle.command_log.specs.Pieces.{rows_bytes}

-- the rows that the chain got in the epoch, and the requests that waited as it was closed
pub record ClosedEpoch : Type 0 where
  pub rows : List Row
  pub waiting : List (List ℕ)

-- ---- its text

-- a request that waited: its length, and its bytes
abbrev pub request_text : List ℕ → List ℕ
request_text r = to_be_bytes w16 (length r) ++ r

abbrev pub requests_text : List (List ℕ) → List ℕ
requests_text [] = []
requests_text (r ∷ rs) = request_text r ++ requests_text rs

-- how many requests waited, and these
abbrev pub waiting_text : List (List ℕ) → List ℕ
waiting_text rs = to_be_bytes w16 (length rs) ++ requests_text rs

-- how many rows there are, and these, as in a piece of a log
abbrev pub rows_text : List Row → List ℕ
rows_text rs = to_be_bytes w32 (length rs) ++ rows_bytes (reverse rs)

abbrev pub epoch_text : ClosedEpoch → List ℕ
epoch_text e = rows_text e.rows ++ waiting_text e.waiting

-- ---- what fits

-- each number of a row fits its field
pub record FitsRow (r : Row) : Type 0 where
  pub origin : r.id.origin < 2 ^ 8
  pub num : r.id.num < 2 ^ 32
  pub client : r.client < 2 ^ 32
  pub request : r.request < 2 ^ 32
  pub payload : length r.payload < 2 ^ 16

-- the message of a client, which has `least_request` (8) to `longest_input` (4,096) bytes
abbrev pub IsRequest : List ℕ → Type 0
IsRequest r = (least_request ≤ length r) × (length r ≤ longest_input)

-- an epoch that has a text
pub record IsEpoch (e : ClosedEpoch) : Type 0 where
  pub few_rows : length e.rows < 2 ^ 32
  pub rows : AllByRecursion FitsRow e.rows
  pub few_waiting : length e.waiting < 2 ^ 16
  pub waiting : AllByRecursion IsRequest e.waiting

-- the bytes are the text of this epoch
abbrev pub EpochIs : List ℕ → ClosedEpoch → Type 0
EpochIs bytes e = IsEpoch e × (bytes ≡ epoch_text e)

-- the bytes are the text of no epoch
abbrev pub IsNoEpoch : List ℕ → Type 0
IsNoEpoch bytes = (e : ClosedEpoch) → EpochIs bytes e → ⊥

-- ---- of a log

-- the rows from a position on, which counts from the oldest, from 0
abbrev pub rows_from : List Row → ℕ → List Row
rows_from rows first = take (length rows - first) rows

-- the epoch whose rows are these
abbrev pub epoch_from : List Row → ℕ → List (List ℕ) → ClosedEpoch
epoch_from rows first waiting = record { rows = rows_from rows first; waiting = waiting }
