-- What a log stands for: the entries that it was given.
use Rattle.std.specs.Prelude.{◌≡◌, ℕ, ◌-◌, ◌<◌, ◌≤◌, Bool, true, false, ◌==◌, ◌&&◌, if◌then◌else◌, List, ◌∷◌, take, drop, length, Option, None, Some, unwrap_or}
use Rattle.std.specs.Ordering.{nat_cmp}
use Rattle.std.specs.Cmp.Lexicographic.{slice_cmp}
use Rattle.std.specs.BTreeMap.{BTreeMap, get, get_by}
use Rattle.std.specs.declared.vec.Vec.{Vec}
use Rattle.std.specs.Str.{bytes_eq}
use Rattle.std.proofs.Common.{Global}
use Rattle.command_log.specs.declared.origins.OriginSet.{OriginSet}
use Rattle.command_log.specs.declared.waiting.Waiting.{Waiting}
use Rattle.command_log.specs.Rows.{CommandEntry, Row, Start, has_row, is_origin, has_ended, own_rows, rows_over}
use Rattle.command_log.specs.Index.{row_key}
use Rattle.command_log.specs.Origins.{has_origin, no_origins}

-- what a log keeps: where it began, its rows with those of its base, and the origins of the commands that wait
pub record Ledger : Type 0 where
  pub f : ℕ
  pub start : Start
  pub rows : List Row
  pub waiting : Waiting

-- a log with these rows, of which the oldest so many are its base
abbrev pub ledger_of : ℕ → List Row → ℕ → Bool → Waiting → Ledger
ledger_of f rows base_len chained waiting = record {
  f = f;
  start = record { base = drop (length rows - base_len) rows; chained = chained };
  rows = rows;
  waiting = waiting;
}

-- the rows above its base
abbrev pub own_of : Ledger → List Row
own_of l = take (length l.rows - length l.start.base) l.rows

-- so many rows of the log are its base, and whether it is over is known
pub record IsMarked (l : Ledger) (base_len : ℕ) (ended : Bool) : Type 0 where
  pub within : base_len ≤ length l.rows
  pub known : ended ≡ has_ended l.start (own_of l)

-- by their payloads, the origins of commands of one client and request
abbrev pub Payloads : Type 0
Payloads = BTreeMap (Vec ℕ Global) OriginSet

-- those that are kept under a key
abbrev pub payloads_at : Waiting → ℕ → Option Payloads
payloads_at w key = get nat_cmp w.by_key key

-- the origins of the command with this payload
abbrev pub origins_in : Payloads → List ℕ → OriginSet
origins_in payloads payload = unwrap_or (get_by (λ k. slice_cmp nat_cmp payload k.items) payloads) no_origins

abbrev pub origins_of : Option Payloads → List ℕ → OriginSet
origins_of None payload = no_origins
origins_of (Some payloads) payload = origins_in payloads payload

abbrev pub origins_at : Waiting → ℕ → List ℕ → OriginSet
origins_at w key payload = origins_of (payloads_at w key) payload

-- the log stands for these entries
pub record StandsFor (l : Ledger) (es : List CommandEntry) : Type 0 where
  pub rows : l.rows ≡ rows_over l.start l.f es
  -- of a command whose client and request have no row its origins are kept, until the log is over
  pub waiting : has_ended l.start (own_rows l.start l.f es) ≡ false → (r : Row) → r.client < 4294967296 → r.request < 4294967296 → has_row l.rows r.client r.request ≡ false
      → (k : ℕ) → k < 256 → has_origin (origins_at l.waiting (row_key r.client r.request) r.payload) k ≡ is_origin es r k
  -- and where they have one, nothing is
  pub gone : (client request : ℕ) → client < 4294967296 → request < 4294967296 → has_row l.rows client request ≡ true
      → payloads_at l.waiting (row_key client request) ≡ None

-- ---- what comes of a command whose client and request have no row

-- its row is entered, and nothing of them waits
pub record HasEntered (old new : Ledger) (r : Row) : Type 0 where
  pub f : new.f ≡ old.f
  pub start : new.start ≡ old.start
  pub rows : new.rows ≡ r ∷ old.rows
  pub waiting : (k : ℕ) → payloads_at new.waiting k ≡ (if row_key r.client r.request == k then None else payloads_at old.waiting k)

-- it waits with these origins
pub record WaitsWith (old new : Ledger) (r : Row) (origins : OriginSet) : Type 0 where
  pub f : new.f ≡ old.f
  pub start : new.start ≡ old.start
  pub rows : new.rows ≡ old.rows
  pub waiting : (k : ℕ) (v : List ℕ) → origins_at new.waiting k v ≡ (if row_key r.client r.request == k && bytes_eq r.payload v then origins else origins_at old.waiting k v)
  pub others : (k : ℕ) → (row_key r.client r.request == k) ≡ false → payloads_at new.waiting k ≡ payloads_at old.waiting k

-- for want of memory nothing comes of it
pub record IsEntryLost (old new : Ledger) (r : Row) : Type 0 where
  pub f : new.f ≡ old.f
  pub start : new.start ≡ old.start
  pub rows : new.rows ≡ old.rows
  pub waiting : (k : ℕ) (v : List ℕ) → origins_at new.waiting k v ≡ origins_at old.waiting k v
  pub others : (k : ℕ) → (row_key r.client r.request == k) ≡ false → payloads_at new.waiting k ≡ payloads_at old.waiting k
