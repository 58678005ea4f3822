-- What a row of a correct replica's log is like, in every world of one service and one broadcast.
use Rattle.std.specs.Prelude.{◌≡◌, ℕ, ◌+◌, ◌*◌, ◌<◌, ◌≤◌, true, List, length}
use Rattle.ritas_base.specs.declared.event.Event.{Event}
use Rattle.ritas_base.specs.Limits.{number_limit, longest_payload}
use Rattle.layer_api.specs.Broadcast.{BroadcastRules}
use Rattle.layer_api.specs.Service.{ServiceRules}
use Rattle.command_log.specs.Rows.{Row, HasRow}
use Rattle.world_model.specs.World.{Setting}
use Rattle.world_model.specs.Agree.{rows_at}
use Rattle.world_model.specs.EveryWorld.{IsWorld}

-- a row is of a command of a session of n replicas: one of them is its origin, which numbered it, and its payload has room in an input
pub record IsOfCommand (n : ℕ) (r : Row) : Type 0 where
  pub origin : r.id.origin < n
  pub num : r.id.num < number_limit
  pub payload : length r.payload ≤ longest_payload

-- each row is
abbrev pub AreOfCommands : ℕ → List Row → Type 0
AreOfCommands n rs = (r : Row) → HasRow rs r → IsOfCommand n r

-- each row is, and above so many, those of the base, there are not more than identifiers
pub record RowsAreOfCommands (n base_len : ℕ) (rs : List Row) : Type 0 where
  pub each : AreOfCommands n rs
  pub few : length rs ≤ base_len + 31 * number_limit

-- the law that so it is at each correct replica, whatever the audit says, where the rows of the base are so
abbrev pub RowsFit : ServiceRules → BroadcastRules → Type 0
RowsFit service other = (w : Setting) (es : List Event) (i : ℕ) → IsWorld service other w → w.is_correct i ≡ true
    → AreOfCommands w.numbers.n w.start.base → RowsAreOfCommands w.numbers.n (length w.start.base) (rows_at w es i)
