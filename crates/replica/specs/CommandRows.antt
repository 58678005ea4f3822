-- The log of commands that a replica keeps: it begins with the rows of its base, if it has one, and follows the identifier log of the
-- replica's service. Lists have the newest first.
use Rattle.std.specs.Prelude.{◌≡◌, ℕ, ◌≤◌, false, List, length, Option, Some}
use Rattle.ritas_base.specs.declared.id.Id.{Id}
use Rattle.ritas_base.specs.Limits.{least_request}
use Rattle.ritas_base.specs.Slots.{command_slot}
use Rattle.layer_api.specs.Service.{IsPart}
use Rattle.command_log.specs.Rows.{Row, Start, entries_of_log, chain_rows}
use Rattle.command_log.specs.Rows.{CommandEntry as Command}
use Rattle.command_log.specs.Standing.{Ledger, StandsFor}
use Rattle.ritas_core.specs.Rules.{Rules, seat_of}
use Rattle.ritas_core.specs.Parts.{Entry, parts}
use Rattle.ritas_core.specs.Shown.{delivered_at, is_hidden}

-- the command that was delivered of an identifier
abbrev pub command_of : Rules → List Entry → Id → Option (List ℕ)
command_of r h x = delivered_at r h (command_slot x.origin x.num)

-- the identifier log after a history
abbrev pub ids_at : Rules → List Entry → List Id
ids_at r h = r.service.done (seat_of r) (parts r h).words

-- with its commands
abbrev pub entries_at : Rules → List Entry → List Command
entries_at r h = entries_of_log (command_of r h) (ids_at r h)

-- and the rows of these, of a log that begins so: those of its base are the oldest
abbrev pub history_rows : Start → Rules → List Entry → List Row
history_rows s r h = chain_rows s r.casts.numbers.f (command_of r h) (ids_at r h)

-- the base of a replica's log has no more rows than these, so that the log has room for 31,000,000 more
abbrev pub most_base : ℕ
most_base = 4200000000

-- the log begins so, and stands for the commands of a history, of whose identifiers so many were entered
pub record Follows (s : Start) (r : Rules) (h : List Entry) (log : Ledger) (fed : ℕ) : Type 0 where
  pub f : log.f ≡ r.casts.numbers.f
  pub start : log.start ≡ s
  pub room : length s.base ≤ most_base
  pub stands : StandsFor log (entries_at r h)
  pub count : fed ≡ length (ids_at r h)

-- rows lie between those of a history and those of a later one, in logs that begin so
abbrev pub LiesBetween : Start → Rules → List Entry → List Entry → List Row → Type 0
LiesBetween s r h later rows = IsPart (history_rows s r h) rows × IsPart rows (history_rows s r later)

-- a core with this history shows the command of an identifier, which has a client's number and a request's
pub record HasCommand (r : Rules) (h : List Entry) (x : Id) : Type 0 where
  pub command : List ℕ
  pub there : command_of r h x ≡ Some command
  pub long : least_request ≤ length command
  pub shown : is_hidden r h (command_slot x.origin x.num) ≡ false
