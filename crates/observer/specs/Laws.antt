-- What may be relied on: what f + 1 replicas gave at a position is the row of the longest correct log there, and the
-- observer's log is a prefix of it.
use Rattle.std.specs.Prelude.{◌≡◌, ℕ, ◌-◌, ◌<◌, ◌≤◌, Bool, true, ◌⊎◌, List, [], ◌∷◌, length, slice_index, count_by, Some, None}
use Rattle.ritas_base.specs.Numbers.{Numbers}
use Rattle.ritas_base.specs.History.{replicas}
use Rattle.layer_api.specs.Service.{IsPart}
use Rattle.command_log.specs.Rows.{Row, row_at}
use Rattle.command_log.specs.Pieces.{Piece, piece_of_log, IsOfLog}
use Rattle.observer.specs.Reading.{piece_in, form_fault, SpellsPiece}
use Rattle.observer.specs.Giving.{Gift, backed, gifts_at, next_backed, GivenStep, rows_given, gifts_given}
use Rattle.observer.specs.Watching.{observed}

-- ---- replicas and their logs

-- Of n replicas at least n - f are correct, and of two correct ones' logs one is a prefix of the other: they are
-- prefixes of one list.
pub record AreLogs (p : Numbers) (is_correct : ℕ → Bool) (log : ℕ → List Row) : Type 0 where
  pub enough : p.n - p.f ≤ count_by is_correct (replicas p.n)
  pub alike : (i j : ℕ) → is_correct i ≡ true → is_correct j ≡ true → IsPart (log i) (log j) ⊎ IsPart (log j) (log i)

-- no correct replica's log is longer than this list: each is a prefix of it
abbrev pub AreWithin : Numbers → (ℕ → Bool) → (ℕ → List Row) → List Row → Type 0
AreWithin p is_correct log longest = (k : ℕ) → k < p.n → is_correct k ≡ true → IsPart (log k) longest

-- it is the log of a correct replica
pub record IsLongest (p : Numbers) (is_correct : ℕ → Bool) (log : ℕ → List Row) (longest : List Row) : Type 0 where
  pub replica : ℕ
  pub within : replica < p.n
  pub correct : is_correct replica ≡ true
  pub whole : log replica ≡ longest
  pub all : AreWithin p is_correct log longest

-- there is one
abbrev pub LongestLaw : Type 0
LongestLaw = (p : Numbers) (is_correct : ℕ → Bool) (log : ℕ → List Row) → p.f < p.n → AreLogs p is_correct log
    → (longest : List Row) × IsLongest p is_correct log longest

-- ---- one row

-- Where more than f of n replicas gave this row at this position, and each of them that is correct has it there, the
-- longest log has it there.
abbrev pub RowLaw : Type 0
RowLaw = (p : Numbers) (is_correct gave : ℕ → Bool) (log : ℕ → List Row) (longest : List Row) (at : ℕ) (r : Row)
    → p.n - p.f ≤ count_by is_correct (replicas p.n)
    → AreWithin p is_correct log longest
    → p.f < count_by gave (replicas p.n)
    → ((k : ℕ) → k < p.n → gave k ≡ true → is_correct k ≡ true → row_at (log k) at ≡ Some r)
    → row_at longest at ≡ Some r

-- ---- pieces of logs

-- the piece is one of a log as it was at some moment, which is a prefix of what it came to be
pub record IsPieceOf (log : List Row) (p : Piece) : Type 0 where
  pub moment : List Row
  pub earlier : IsPart moment log
  pub rows : IsOfLog moment p

-- each piece of a correct replica is one of its log
abbrev pub AreOfLogs : (ℕ → Bool) → (ℕ → List Row) → List Gift → Type 0
AreOfLogs is_correct log [] = Unit {0}
AreOfLogs is_correct log (g ∷ h) =
    (is_correct g.from ≡ true → IsPieceOf (log g.from) g.piece) × AreOfLogs is_correct log h

-- ---- the row at the next position

-- Where each piece of a correct replica among these steps is one of its log, what f + 1 replicas gave at the next
-- position is the row of the longest log there.
abbrev pub GivenRowLaw : Type 0
GivenRowLaw = (p : Numbers) (is_correct : ℕ → Bool) (log : ℕ → List Row) (longest : List Row) (first : ℕ)
    (h : List GivenStep) (r : Row)
    → p.n - p.f ≤ count_by is_correct (replicas p.n)
    → AreWithin p is_correct log longest
    → AreOfLogs is_correct log (gifts_given h)
    → next_backed p (rows_given first h) ≡ Some r
    → row_at longest (rows_given first h).len ≡ Some r

-- ---- the observer's log

abbrev pub LogLaw : Type 0
LogLaw = (p : Numbers) (is_correct : ℕ → Bool) (log : ℕ → List Row) (longest : List Row) (h : List Gift)
    → p.n - p.f ≤ count_by is_correct (replicas p.n)
    → AreWithin p is_correct log longest
    → AreOfLogs is_correct log h
    → IsPart (observed p h).rows longest

-- no more rows could be entered: at the log's length no row has f + 1 replicas that gave it
abbrev pub AllEnteredLaw : Type 0
AllEnteredLaw = (p : Numbers) (h : List Gift)
    → backed p.f (gifts_at p.n (observed p h).kept (length (observed p h).rows)) ≡ None

-- ---- pieces

-- the piece that a log has from a position on is of the log
abbrev pub PieceIsOfLog : Type 0
PieceIsOfLog = (log : List Row) (position : ℕ) → IsOfLog log (piece_of_log log position)

-- bytes that spell a piece are read as it
abbrev pub PieceIsRead : Type 0
PieceIsRead = (n : ℕ) (bytes : List ℕ) (p : Piece) → SpellsPiece n bytes p
    → (form_fault n bytes ≡ None) × (piece_in bytes ≡ p)

-- and what is read without a fault spells what is read
abbrev pub PieceWasWritten : Type 0
PieceWasWritten = (n : ℕ) (bytes : List ℕ) → ((k : ℕ) → slice_index bytes k < 256) → form_fault n bytes ≡ None
    → SpellsPiece n bytes (piece_in bytes)
