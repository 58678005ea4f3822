-- The log of commands: one row for each client and request, where a command of theirs first has f + 1 origins in the identifier log.
-- The log of an epoch of a chain has the rows of the epochs before below its own, and ends with a closing row. Lists have the newest
-- first.
use Rattle.std.specs.Prelude.{◌≡◌, ℕ, ◌+◌, Bool, true, false, not, ◌==◌, ◌&&◌, ◌||◌, if◌then◌else◌, nat_le, List, [], ◌∷◌, ◌++◌, ◌⊎◌, take, drop, length, reverse, count_by, slice_get, Option, None, Some, unwrap_or}
use Rattle.std.specs.Int.{w32, from_be_bytes}
use Rattle.std.specs.Str.{bytes_eq}
use Rattle.ritas_base.specs.declared.id.Id.{Id}
use Rattle.ritas_base.specs.History.{replicas}
use Rattle.command_log.specs.declared.row.LogRow.{LogRow}

-- a command and its identifier
pub record CommandEntry : Type 0 where
  pub id : Id
  pub command : List ℕ

-- a row of the log, as `LogRow` of the program
abbrev pub Row : Type 0
Row = LogRow

-- a command begins with the client's number, of four bytes, the most significant first
abbrev pub client_of : List ℕ → ℕ
client_of command = from_be_bytes w32 (take 4 command)

-- and then the request's
abbrev pub request_of : List ℕ → ℕ
request_of command = from_be_bytes w32 (take 4 (drop 4 command))

abbrev pub row_with : Id → ℕ → ℕ → List ℕ → Row
row_with id client request payload = record { id = id; client = client; request = request; payload = payload }

-- the row of an entry; what is left of its command is the payload
abbrev pub row_of : CommandEntry → Row
row_of e = row_with e.id (client_of e.command) (request_of e.command) (drop 8 e.command)

-- whether a row is of this client and request
abbrev pub has_row : List Row → ℕ → ℕ → Bool
has_row [] client request = false
has_row (r ∷ rs) client request = (r.client == client && r.request == request) || has_row rs client request

-- two commands are one: the same client, request and payload
abbrev pub is_same_command : Row → Row → Bool
is_same_command q r = q.client == r.client && (q.request == r.request && bytes_eq q.payload r.payload)

-- a replica is an origin of the command of r: one of these entries has that command, and is of it
abbrev pub is_origin : List CommandEntry → Row → ℕ → Bool
is_origin [] r k = false
is_origin (e ∷ es) r k = (is_same_command (row_of e) r && e.id.origin == k) || is_origin es r k

-- how many numbers pass a test, where the number of an origin is a byte
unfoldable pub count_origins : (ℕ → Bool) → ℕ
count_origins test = count_by test (replicas 256)

-- how many replicas are origins of the command of r
abbrev pub origins : List CommandEntry → Row → ℕ
origins es r = count_origins (is_origin es r)

-- f + 1 origins confirm a command: one of them is correct
abbrev pub is_confirmed : ℕ → List CommandEntry → Row → Bool
is_confirmed f es r = nat_le (f + 1) (origins es r)

-- ---- where a log begins, and what ends it

-- the client number that is no client's: replicas submit the row that closes an epoch under it
abbrev pub closing_client : ℕ
closing_client = 4294967295

abbrev pub closes : Row → Bool
closes r = r.client == closing_client

-- whether one of these rows closes an epoch
abbrev pub is_closed : List Row → Bool
is_closed [] = false
is_closed (r ∷ rs) = closes r || is_closed rs

-- where a log begins: the rows of the epochs before its own, which are its base, and whether a closing row ends its own
pub record Start : Type 0 where
  pub base : List Row
  pub chained : Bool

-- a session by itself
abbrev pub alone : Start
alone = record { base = []; chained = false }

-- an epoch of a chain, whose rows so far are these
abbrev pub chained_on : List Row → Start
chained_on rows = record { base = rows; chained = true }

-- whether a log is over, with these rows above its base
abbrev pub has_ended : Start → List Row → Bool
has_ended s rs = s.chained && is_closed rs

-- ---- the rows

-- the row of the newest entry is entered where the log isn't over, its client and request have none, in the base neither, and its
-- command is confirmed
abbrev pub is_entered : Start → ℕ → CommandEntry → List CommandEntry → List Row → Bool
is_entered s f e es rs =
    not (has_ended s rs) && (not (has_row (rs ++ s.base) (client_of e.command) (request_of e.command)) && is_confirmed f (e ∷ es) (row_of e))

abbrev pub rows_with : Start → ℕ → CommandEntry → List CommandEntry → List Row → List Row
rows_with s f e es rs = if is_entered s f e es rs then row_of e ∷ rs else rs

-- the rows of these entries, above the base
abbrev pub own_rows : Start → ℕ → List CommandEntry → List Row
own_rows s f [] = []
own_rows s f (e ∷ es) = rows_with s f e es (own_rows s f es)

-- with those of the base
abbrev pub rows_over : Start → ℕ → List CommandEntry → List Row
rows_over s f es = own_rows s f es ++ s.base

-- the rows of these entries in a session by itself
abbrev pub rows_of : ℕ → List CommandEntry → List Row
rows_of f es = own_rows alone f es

-- where the row of the newest entry comes to stand, if it is entered
abbrev pub entered : Start → ℕ → CommandEntry → List CommandEntry → Option ℕ
entered s f e es = if is_entered s f e es (own_rows s f es) then Some (length (rows_over s f es)) else None

-- positions count from the oldest row, from 0
abbrev pub row_at : List Row → ℕ → Option Row
row_at rs position = slice_get (reverse rs) position

-- where the row of this client and request stands
abbrev pub position_of : List Row → ℕ → ℕ → Option ℕ
position_of [] client request = None
position_of (r ∷ rs) client request = if r.client == client && r.request == request then Some (length rs) else position_of rs client request

-- the entry of an identifier, by what was delivered of it
abbrev pub entry_of_id : (Id → Option (List ℕ)) → Id → CommandEntry
entry_of_id delivered x = record { id = x; command = unwrap_or (delivered x) [] }

-- the entries of an identifier log
abbrev pub entries_of_log : (Id → Option (List ℕ)) → List Id → List CommandEntry
entries_of_log delivered [] = []
entries_of_log delivered (x ∷ xs) = entry_of_id delivered x ∷ entries_of_log delivered xs

-- the log of commands of a session by itself
abbrev pub command_rows : ℕ → (Id → Option (List ℕ)) → List Id → List Row
command_rows f delivered log = rows_of f (entries_of_log delivered log)

-- and that of any, with its base
abbrev pub chain_rows : Start → ℕ → (Id → Option (List ℕ)) → List Id → List Row
chain_rows s f delivered log = rows_over s f (entries_of_log delivered log)

-- each client and request stands there once
abbrev pub AreOnce : List Row → Type 0
AreOnce [] = Unit {0}
AreOnce (r ∷ rs) = (has_row rs r.client r.request ≡ false) × AreOnce rs

-- the identifier is in the list
abbrev pub IsIn : Id → List Id → Type 0
IsIn x [] = ⊥
IsIn x (y ∷ ys) = (y ≡ x) ⊎ IsIn x ys

-- the row is in the list
abbrev pub HasRow : List Row → Row → Type 0
HasRow [] r = ⊥
HasRow (q ∷ qs) r = (q ≡ r) ⊎ HasRow qs r

-- the row at the position is of this client and request
pub record HasPlace (rs : List Row) (position client request : ℕ) : Type 0 where
  pub row : Row
  pub stands : row_at rs position ≡ Some row
  pub of_client : row.client ≡ client
  pub of_request : row.request ≡ request
