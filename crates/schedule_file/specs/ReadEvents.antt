-- Reading the events of a schedule, of a scope.
use Rattle.std.specs.Prelude.{ℕ, zero, suc, Bool, true, false, not, List, [], ◌∷◌, Option, Some, None, Result, Ok, Err, ◌==◌, if◌then◌else◌}
use Rattle.std.specs.Option.{is_none}
use Rattle.ritas_base.specs.declared.event.Event.{Event}
use Rattle.ritas_base.specs.declared.event.Event.TheVariants.{Frame, Input, Turn, Pass, Sealed}
use Rattle.schedule_file.specs.declared.fault.FileFault.{FileFault}
use Rattle.schedule_file.specs.declared.fault.FileFault.TheVariants.{TooLong}
use Rattle.schedule_file.specs.declared.fault.FileFault.TheVariants as faults
use Rattle.schedule_file.specs.declared.scope.Scope.{Scope}
use Rattle.schedule_file.specs.Scopes.{has_replica}
use Rattle.schedule_file.specs.Reading.{Spot, ◌>>=◌, test}
use Rattle.schedule_file.specs.FileBytes.{byte_at, end_at, u32_at, text_at}

-- a replica's number, in the event that begins at p
unfoldable pub replica_at : Scope → ℕ → Spot → Result (ℕ × Spot) FileFault
replica_at scope p s = do
  at ← byte_at s
  _ ← test (has_replica scope at.0) (faults.Event p)
  Ok at

-- the numbers of a sender and of another replica; there are none where all events are at one
unfoldable pub pair_at : Scope → ℕ → Spot → Result ((ℕ × ℕ) × Spot) FileFault
pair_at scope p s = do
  _ ← test (is_none scope.only) (faults.Event p)
  from ← replica_at scope p s
  to ← replica_at scope p from.1
  _ ← test (not (from.0 == to.0)) (faults.Event p)
  Ok ((from.0, to.0), to.1)

-- what follows the first byte of each event
unfoldable pub frame_at : Scope → ℕ → Spot → Result (Event × Spot) FileFault
frame_at scope p s = do
  to ← replica_at scope p s
  bytes ← text_at to.1
  Ok (Frame to.0 bytes.0, bytes.1)

unfoldable pub input_read_at : Scope → ℕ → Spot → Result (Event × Spot) FileFault
input_read_at scope p s = do
  at ← replica_at scope p s
  bytes ← text_at at.1
  Ok (Input at.0 bytes.0, bytes.1)

unfoldable pub turn_at : Scope → ℕ → Spot → Result (Event × Spot) FileFault
turn_at scope p s = do
  at ← replica_at scope p s
  Ok (Turn at.0, at.1)

unfoldable pub pass_at : Scope → ℕ → Spot → Result (Event × Spot) FileFault
pass_at scope p s = do
  pair ← pair_at scope p s
  m ← u32_at pair.1
  Ok (Pass pair.0.0 pair.0.1 m.0, m.1)

unfoldable pub sealed_at : Scope → ℕ → Spot → Result (Event × Spot) FileFault
sealed_at scope p s = do
  pair ← pair_at scope p s
  body ← text_at pair.1
  Ok (Sealed pair.0.0 pair.0.1 body.0, body.1)

-- an event whose first byte is from 1 to 5
unfoldable pub kind_at : Scope → ℕ → ℕ → Spot → Result (Event × Spot) FileFault
kind_at scope p kind s =
    if kind == 1 then frame_at scope p s
    else if kind == 2 then input_read_at scope p s
    else if kind == 3 then turn_at scope p s
    else if kind == 4 then pass_at scope p s
    else if kind == 5 then sealed_at scope p s
    else Err (faults.Event p)

abbrev pub some_event : Event × Spot → Option Event × Spot
some_event x = (Some x.0, x.1)

abbrev pub no_event : Unit {0} × Spot → Option Event × Spot
no_event x = (None, x.1)

-- what follows the first byte of the event that begins at p, or of the end mark, which the end of the file follows
abbrev pub event_of : Scope → ℕ → ℕ → Spot → Result (Option Event × Spot) FileFault
event_of scope p kind s =
    if kind == 0 then (end_at s >>= λ x. Ok (no_event x)) else (kind_at scope p kind s >>= λ x. Ok (some_event x))

-- one event, or the end mark and the end of the file
unfoldable pub event_at : Scope → Spot → Result (Option Event × Spot) FileFault
event_at scope s = do
  kind ← byte_at s
  event_of scope s.at kind.0 kind.1

abbrev pub events_then : Option Event → Result (List Event) FileFault → Result (List Event) FileFault
events_then None more = Ok []
events_then (Some e) more = more >>= λ es. Ok (e ∷ es)

-- the event is a frame, an input or a body, which holds a text
abbrev pub has_text : Event → Bool
has_text (Frame to bytes) = true
has_text (Input at bytes) = true
has_text (Turn at) = false
has_text (Pass from to m) = false
has_text (Sealed from to body) = true

-- an event was read that holds a text
abbrev pub reads_text : Result (Event × Spot) FileFault → Bool
reads_text (Ok x) = has_text x.0
reads_text (Err e) = false

-- and it isn't the end that was read
abbrev pub has_text_next : Option Event → Bool
has_text_next None = false
has_text_next (Some e) = has_text e

abbrev pub reads_text_next : Result (Option Event × Spot) FileFault → Bool
reads_text_next (Ok x) = has_text_next x.0
reads_text_next (Err e) = false

-- the events up to the end mark, in the order of the file, of which there are fewer than so many
unfoldable pub events_at : ℕ → Scope → Spot → Result (List Event) FileFault
events_at zero scope s = Err TooLong
events_at (suc k) scope s = do
  event ← event_at scope s
  events_then event.0 (events_at k scope event.1)
