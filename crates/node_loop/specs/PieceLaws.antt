-- What a piece is that a replica of a session replied: an observer reads it as one of that
-- replica's log.
use Rattle.std.specs.Prelude.{◌≡◌, ◌≤◌, List, length, None}
use Rattle.std.specs.List.{AllByRecursion}
use Rattle.ritas_base.specs.declared.event.Event.{Event}
use Rattle.outside.specs.Links.{replies_in}
use Rattle.outside.specs.declared.link.Sent.{Sent}
use Rattle.client_port.specs.Messages.{form_in}
use Rattle.command_log.specs.Rows.{AreOnce}
use Rattle.layer_api.specs.Broadcast.{BroadcastRules}
use Rattle.layer_api.specs.Service.{ServiceRules}
use Rattle.observer.specs.Reading.{piece_in, form_fault}
use Rattle.observer.specs.Laws.{IsPieceOf}
use Rattle.world_model.specs.World.{Setting}
use Rattle.world_model.specs.EveryWorld.{IsWorld}
use Rattle.world_model.specs.Agree.{rows_at}
use Rattle.world_model.specs.RowsFit.{AreOfCommands}
use Rattle.replica.specs.CommandRows.{most_base}
use Rattle.node_loop.specs.Serving.{Serving, so_far, Round}
use Rattle.node_loop.specs.Told.{after_groups, told_from}
use Rattle.node_loop.specs.Queries.{QueriesFit}

-- A reply of form 3 is read without a fault, as a piece of the log that its replica has after these
-- events: it is of the log as it was at some moment, which is a prefix of that.
abbrev pub IsPieceRead : Setting → List Event → Sent → Type 0
IsPieceRead w es x = form_in x.bytes ≡ 3
    → (form_fault w.numbers.n x.bytes ≡ None) × IsPieceOf (rows_at w es x.at) (piece_in x.bytes)

-- The rows that the logs begin with are such as replicas enter: each client and request once, each row
-- of a command of the session. And there is room above them.
pub record HasSoundBase (w : Setting) : Type 0 where
  pub once : AreOnce w.start.base
  pub rows : AreOfCommands w.numbers.n w.start.base
  pub room : length w.start.base ≤ most_base

-- so it is of each reply, when it goes out and ever after, where the queries that are served fit
abbrev pub PiecesAreOfLogs : ServiceRules → BroadcastRules → Type 0
PiecesAreOfLogs service other =
    (w : Setting) (past : List Event) (start : Serving) (groups : List (List Round))
    → IsWorld service other w → HasSoundBase w → QueriesFit w past start groups
    → AllByRecursion (IsPieceRead w (so_far past (after_groups w past start groups)))
    (replies_in (told_from w past start groups))
