-- A schedule file: what it says, or its first fault from the left.
use Rattle.std.specs.Prelude.{ℕ, ◌+◌, List, reverse, Result, Ok}
use Rattle.ritas_base.specs.declared.event.Event.{Event}
use Rattle.schedule_file.specs.declared.fault.FileFault.{FileFault}
use Rattle.schedule_file.specs.Reading.{◌>>=◌, text_start}
use Rattle.schedule_file.specs.FileBytes.{limit}
use Rattle.schedule_file.specs.ReadHeader.{Heading, header_at}
use Rattle.schedule_file.specs.Scopes.{scope_of}
use Rattle.schedule_file.specs.ReadEvents.{events_at}

-- the header, and the events with the newest first
unfoldable pub file_of : List ℕ → Result (Heading × List Event) FileFault
file_of bytes = do
  header ← header_at (text_start bytes)
  events ← events_at (limit + 1) (scope_of header.0) header.1
  Ok (header.0, reverse events)
