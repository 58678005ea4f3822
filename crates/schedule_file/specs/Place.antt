-- Where a file stands that is being read in pieces.
use Rattle.std.specs.Prelude.{ℕ, List, ◌++◌, Option, Some, None, Result, Ok, Err}
use Rattle.ritas_base.specs.declared.event.Event.{Event}
use Rattle.schedule_file.specs.declared.fault.FileFault.{FileFault}
use Rattle.schedule_file.specs.declared.scope.Scope.{Scope}
use Rattle.schedule_file.specs.declared.stage.Stage.{Stage}
use Rattle.schedule_file.specs.declared.stage.Stage.TheVariants.{Open, Ended, Stopped}
use Rattle.schedule_file.specs.Reading.{Spot}

-- the place in the file, and the bytes that came from the source and were not read
pub record Unread : Type 0 where
  pub at : ℕ
  pub bytes : List ℕ

-- the place, and the bytes from there on: those that are held, and those that the source has left
abbrev pub spot : Unread → List ℕ → Spot
spot held left = record { at = held.at; rest = held.bytes ++ left }

-- what a reader holds, the scope of its header, and its stage
pub record ReaderState : Type 0 where
  pub held : Unread
  pub scope : Scope
  pub stage : Stage

-- the stage after an event was read, or the end, or a fault
abbrev pub reading_stage_after : Result (Option Event) FileFault → Stage
reading_stage_after (Ok (Some event)) = Open
reading_stage_after (Ok None) = Ended
reading_stage_after (Err e) = Stopped e
