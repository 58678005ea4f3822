-- What the logs of commands that correct replicas show have in common, where an event stopped the world for want of memory.
use Rattle.std.specs.Prelude.{◌≡◌, ℕ, ◌<◌, true, List, ◌∷◌, length}
use Rattle.ritas_base.specs.declared.event.Event.{Event}
use Rattle.layer_api.specs.Service.{IsPart}
use Rattle.command_log.specs.Rows.{Row, row_at}
use Rattle.ritas_core.specs.Machine.{with_lost}
use Rattle.ritas_core.specs.Calls.{stopped}
use Rattle.world_model.specs.World.{Setting, call_of, states_of}
use Rattle.world_model.specs.OneValueEach.{history_of}
use Rattle.world_model.specs.Agree.{rows_at, OneIsPart, Agree}
use Rattle.world_model.specs.Stands.{NoneStops, IsTaking}

-- the history of a replica that a call of e stopped, with the entry that it lost, is the history that it was to have after e
abbrev pub LostIsTaken : Type 0
LostIsTaken = (w : Setting) (es : List Event) (e : Event) (i : ℕ) → NoneStops w
    → (taking : IsTaking w (states_of w es i) (call_of w (states_of w es) e) i)
    → history_of w (e ∷ es) i ≡ with_lost (stopped (states_of w es i) taking.what)

-- Where replicas agree: of rows that have the logs of two of them as prefixes, those at a position that both logs have are equal.
abbrev pub EqualRows : Type 0
EqualRows = (w : Setting) (es : List Event) → Agree w es → (i j : ℕ) → w.is_correct i ≡ true → w.is_correct j ≡ true
    → (rows others : List Row) → IsPart (rows_at w es i) rows → IsPart (rows_at w es j) others → (position : ℕ)
    → position < length (rows_at w es i) → position < length (rows_at w es j) → row_at rows position ≡ row_at others position

-- And of rows that are prefixes of the logs of two of them, the one are a prefix of the others.
abbrev pub OnePrefix : Type 0
OnePrefix = (w : Setting) (es : List Event) → Agree w es → (i j : ℕ) → w.is_correct i ≡ true → w.is_correct j ≡ true
    → (rows others : List Row) → IsPart rows (rows_at w es i) → IsPart others (rows_at w es j) → OneIsPart rows others
