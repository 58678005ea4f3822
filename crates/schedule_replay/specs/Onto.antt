-- Events that are read go onto those that were taken, the newest first.
use Rattle.std.specs.Prelude.{List, ◌++◌, ◌+◌, ℕ, reverse, Result, Ok}
use Rattle.ritas_base.specs.declared.event.Event.{Event}
use Rattle.schedule_file.specs.declared.fault.FileFault.{FileFault}
use Rattle.schedule_file.specs.FileBytes.{limit}
use Rattle.schedule_file.specs.Place.{ReaderState, spot}
use Rattle.schedule_file.specs.Reading.{◌>>=◌}
use Rattle.schedule_file.specs.ReadEvents.{events_at}

abbrev pub read_onto : List Event → Result (List Event) FileFault → Result (List Event) FileFault
read_onto h read = read >>= λ es. Ok (reverse es ++ h)

-- the events of a file that a reader holds bytes of and a source has the others of, behind those that were taken
abbrev pub more_events : List Event → ReaderState → List ℕ → Result (List Event) FileFault
more_events h reader left = read_onto h (events_at (limit + 1) reader.scope (spot reader.held left))
