-- What a tape keeps of steps. Lists of steps have the newest first.
use Rattle.std.specs.Prelude.{◌≡◌, ℕ, List, length, Result, Ok, Err, None}
use Rattle.ritas_base.specs.declared.plan.Plan.{Plan}
use Rattle.ritas_base.specs.declared.what.DriveWhat.{DriveWhat}
use Rattle.ritas_base.specs.declared.what.DriveWhat.TheVariants as drives
use Rattle.schedule_file.specs.ReadHeader.{heading}
use Rattle.schedule_file.specs.Spelling.{FrontOf}
use Rattle.world_model.specs.World.{Setting}
use Rattle.world_model.specs.Players.{Step}
use Rattle.schedule_plan.specs.Plans.{header_of}
use Rattle.schedule_plan.specs.Schedule.{events_by, limit_met}
use Rattle.schedule_stage.specs.declared.halt.Halt.{Halt}
use Rattle.schedule_stage.specs.declared.tape.Tape.{Tape}
use Rattle.schedule_stage.specs.Worlds.{HaltsBy}

-- the file so far, without its end mark
abbrev pub front_by : Setting → Plan → List Step → List ℕ
front_by w p steps = FrontOf (heading (header_of p)) (events_by w p steps)

-- these steps pass no limit, and are counted, as their bytes are, which are kept where they are wanted
pub record IsTape (w : Setting) (p : Plan) (what : DriveWhat) (tape : Tape) (steps : List Step) : Type 0 where
  pub none : limit_met w p steps ≡ None
  pub many : tape.steps ≡ length steps
  pub long : tape.size ≡ length (front_by w p steps)
  pub wanted : tape.what ≡ what
  pub kept : what ≡ drives.Schedule → tape.file.taken ≡ front_by w p steps

-- the tape stands for these steps, or a limit is passed with the newest, or memory ran out
abbrev pub Tapes : Setting → Plan → DriveWhat → Tape → List Step → Result (Unit {0}) Halt → Type 0
Tapes w p what tape steps (Ok done) = IsTape w p what tape steps
Tapes w p what tape steps (Err halt) = HaltsBy w p steps halt

-- ---- what changes

-- only the count of steps may differ
pub record SameFile (old new : Tape) : Type 0 where
  pub counts : new.counts ≡ old.counts
  pub size : new.size ≡ old.size
  pub what : new.what ≡ old.what
  pub file : new.file ≡ old.file

-- only the count of bytes may differ
pub record SameSteps (old new : Tape) : Type 0 where
  pub steps : new.steps ≡ old.steps
  pub counts : new.counts ≡ old.counts
  pub what : new.what ≡ old.what
  pub file : new.file ≡ old.file

-- only the file may differ
pub record SameCounts (old new : Tape) : Type 0 where
  pub steps : new.steps ≡ old.steps
  pub counts : new.counts ≡ old.counts
  pub size : new.size ≡ old.size
  pub what : new.what ≡ old.what

-- only the counts of answers may differ
pub record SameTape (old new : Tape) : Type 0 where
  pub steps : new.steps ≡ old.steps
  pub size : new.size ≡ old.size
  pub what : new.what ≡ old.what
  pub file : new.file ≡ old.file
