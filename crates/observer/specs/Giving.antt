-- What replicas gave at the next positions: the row that f + 1 of them gave, what is kept, and which piece isn't taken.
-- A list of pieces or of steps has the newest first.
use Rattle.std.specs.Prelude.{ℕ, ◌+◌, ◌-◌, ◌==◌, Bool, false, not, ◌&&◌, nat_le, nat_lt, List, [], ◌∷◌, map, length, count_by, slice_get, slice_index_or, Option, Some, None, if◌then◌else◌}
use Rattle.std.specs.Option.{option_or}
use Rattle.std.specs.List.{position}
use Rattle.std.specs.Str.{bytes_eq}
use Rattle.ritas_base.specs.Numbers.{Numbers}
use Rattle.ritas_base.specs.History.{replicas}
use Rattle.command_log.specs.Rows.{Row}
use Rattle.command_log.specs.Pieces.{Piece}
use Rattle.observer.specs.declared.fault.PieceFault.{PieceFault}
use Rattle.observer.specs.declared.fault.PieceFault.TheVariants as faults
use Rattle.observer.specs.Reading.{piece_in, form_fault}

-- a piece, and which replica gave it
pub record Gift : Type 0 where
  pub from : ℕ
  pub piece : Piece

-- ---- rows

-- two rows are one
abbrev pub is_same_row : Row → Row → Bool
is_same_row q r = q.id.origin == r.id.origin
    && (q.id.num == r.id.num && (q.client == r.client && (q.request == r.request && bytes_eq q.payload r.payload)))

-- this row was given
abbrev pub is_row : Row → Option Row → Bool
is_row r None = false
is_row r (Some q) = is_same_row q r

-- the row that some rows from a position on have at a position
abbrev pub row_from : ℕ → List Row → ℕ → Option Row
row_from first rows at = if nat_le first at then slice_get rows (at - first) else None

-- ---- the row that f + 1 replicas gave

-- how many of what replicas gave are this row
abbrev pub givers : List (Option Row) → Row → ℕ
givers gifts r = count_by (is_row r) gifts

-- f + 1 of them are: one of these replicas is correct
abbrev pub is_backed_gift : ℕ → List (Option Row) → Option Row → Bool
is_backed_gift f gifts None = false
is_backed_gift f gifts (Some r) = nat_lt f (givers gifts r)

abbrev pub gift_at_place : List (Option Row) → Option ℕ → Option Row
gift_at_place gifts None = None
gift_at_place gifts (Some k) = slice_index_or gifts k None

-- the row of the first replica whose row f + 1 of them gave
unfoldable pub backed : ℕ → List (Option Row) → Option Row
backed f gifts = gift_at_place gifts (position (is_backed_gift f gifts) gifts)

-- what each replica gave at a position
abbrev pub gifts_at : ℕ → (ℕ → ℕ → Option Row) → ℕ → List (Option Row)
gifts_at n kept at = map (λ k. kept k at) (replicas n)

-- ---- what is kept

-- Rows are kept at so many positions from the next one on.
abbrev pub window : ℕ
window = 64

abbrev pub is_near : ℕ → ℕ → Bool
is_near len at = nat_le len at && nat_lt at (len + window)

abbrev pub none_kept : ℕ → ℕ → Option Row
none_kept k at = None

-- what a piece brings is kept at the positions of the window, where its replica gave no row before
abbrev pub keeping : Gift → ℕ → (ℕ → ℕ → Option Row) → ℕ → ℕ → Option Row
keeping g len kept k at = option_or (kept k at)
    (if g.from == k && is_near len at then row_from g.piece.position g.piece.rows at else None)

-- the next position, and the row that each replica gave first at each position
pub record RowsGiven : Type 0 where
  pub len : ℕ
  pub kept : ℕ → ℕ → Option Row

-- the row that f + 1 replicas gave at the next position
abbrev pub next_backed : Numbers → RowsGiven → Option Row
next_backed p s = backed p.f (gifts_at p.n s.kept s.len)

-- ---- steps

-- a step: a replica gave a piece, or the next position was passed
pub data GivenStep : Type 0 where
  Gave : Gift → GivenStep
  Passed : GivenStep

abbrev pub after_step : GivenStep → RowsGiven → RowsGiven
after_step (Gave g) s = record { len = s.len; kept = keeping g s.len s.kept }
after_step Passed s = record { len = s.len + 1; kept = s.kept }

-- what these steps make, where the next position was this one before them
abbrev pub rows_given : ℕ → List GivenStep → RowsGiven
rows_given first [] = record { len = first; kept = none_kept }
rows_given first (step ∷ h) = after_step step (rows_given first h)

-- the pieces among them
abbrev pub gifts_given : List GivenStep → List Gift
gifts_given [] = []
gifts_given (Gave g ∷ h) = g ∷ gifts_given h
gifts_given (Passed ∷ h) = gifts_given h

-- ---- what isn't taken

-- the piece has a row at the end of the window or above it
abbrev pub is_piece_ahead : ℕ → Piece → Bool
is_piece_ahead len p = nat_lt 0 (length p.rows) && nat_lt (len + window) (p.position + length p.rows)

-- this replica's row that is kept at a position
abbrev pub still_kept : RowsGiven → ℕ → ℕ → Option Row
still_kept s k at = if nat_le s.len at then s.kept k at else None

abbrev pub is_another_row : Row → Option Row → Bool
is_another_row r None = false
is_another_row r (Some q) = not (is_same_row q r)

-- the first position from there on at which another row is kept than these rows have
abbrev pub changed_from : (ℕ → Option Row) → ℕ → List Row → Option ℕ
changed_from still at [] = None
changed_from still at (r ∷ rs) = if is_another_row r (still at) then Some at else changed_from still (at + 1) rs

abbrev pub sender_fault : ℕ → ℕ → Option PieceFault
sender_fault n from = if nat_lt from n then None else Some faults.NoSuchReplica

abbrev pub form_faulty : Option ℕ → Option PieceFault
form_faulty None = None
form_faulty (Some at) = Some (faults.Form at)

abbrev pub ahead_fault : ℕ → Piece → Option PieceFault
ahead_fault len p = if is_piece_ahead len p then Some (faults.Ahead len) else None

abbrev pub change_faulty : Option ℕ → Option PieceFault
change_faulty None = None
change_faulty (Some at) = Some (faults.Changed at)

-- the first fault of some bytes from a replica, but for want of memory
unfoldable pub given_fault : Numbers → RowsGiven → ℕ → List ℕ → Option PieceFault
given_fault p s from bytes =
    option_or (sender_fault p.n from)
    (option_or (form_faulty (form_fault p.n bytes))
    (option_or (ahead_fault s.len (piece_in bytes))
    (change_faulty (changed_from (still_kept s from) (piece_in bytes).position (piece_in bytes).rows))))
