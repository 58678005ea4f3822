-- What an observer has of the pieces that it took: the log, and the rows that wait for it to come to their positions.
-- A list of pieces and a log have the newest first.
pub use Rattle.observer.specs.Giving.{Gift}
unfoldable pub use Rattle.observer.specs.Giving.{backed}
use Rattle.std.specs.Prelude.{ℕ, zero, suc, List, [], ◌∷◌, length, Option, Some, None}
use Rattle.ritas_base.specs.Numbers.{Numbers}
use Rattle.command_log.specs.Rows.{Row}
use Rattle.observer.specs.declared.fault.PieceFault.{PieceFault}
use Rattle.observer.specs.Giving.{gifts_at, window, none_kept, keeping, RowsGiven, given_fault}

-- the log, and the row that each replica gave first at each position
pub record Observed : Type 0 where
  pub rows : List Row
  pub kept : ℕ → ℕ → Option Row

-- a row at the log's length is entered, again and again, as long as f + 1 replicas gave one there, so many times at
-- most
abbrev pub entered_given_so : (List Row → List Row) → List Row → Option Row → List Row
entered_given_so next rows None = rows
entered_given_so next rows (Some r) = next (r ∷ rows)

unfoldable pub entered_given : Numbers → (ℕ → ℕ → Option Row) → ℕ → List Row → List Row
entered_given p kept zero rows = rows
entered_given p kept (suc times) rows =
    entered_given_so (entered_given p kept times) rows (backed p.f (gifts_at p.n kept (length rows)))

-- what is there after a piece; no position behind the window has a row, so no more rows than it has positions are
-- entered
abbrev pub after_gift : Numbers → Gift → Observed → Observed
after_gift p g s = record {
  rows = entered_given p (keeping g (length s.rows) s.kept) window s.rows;
  kept = keeping g (length s.rows) s.kept;
}

-- what these pieces make
abbrev pub observed : Numbers → List Gift → Observed
observed p [] = record { rows = []; kept = none_kept }
observed p (g ∷ h) = after_gift p g (observed p h)

-- what was given beside the log, whose length is the next position
abbrev pub given_beside : Observed → RowsGiven
given_beside s = record { len = length s.rows; kept = s.kept }

-- the first fault of some bytes from a replica, but for want of memory
unfoldable pub piece_fault : Numbers → Observed → ℕ → List ℕ → Option PieceFault
unfolding given_fault
piece_fault p s from bytes = given_fault p (given_beside s) from bytes
