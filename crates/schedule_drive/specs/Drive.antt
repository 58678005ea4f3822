-- How a call that makes a plan's schedule ends, and what it writes.
use Rattle.std.specs.Prelude.{◌≡◌, ◌⊎◌, ℕ, List, ◌++◌, Bool, true, Some, None}
use Rattle.outside.specs.Writing.{TookFront}
use Rattle.ritas_base.specs.declared.event.Event.{Event}
use Rattle.ritas_base.specs.declared.plan.Plan.{Plan}
use Rattle.ritas_base.specs.declared.what.DriveWhat.{DriveWhat}
use Rattle.ritas_base.specs.declared.what.DriveWhat.TheVariants as drives
use Rattle.schedule_file.specs.ReadHeader.{heading}
use Rattle.schedule_file.specs.Spelling.{FileOf}
use Rattle.world_model.specs.declared.audit.Audit.{Audit}
use Rattle.world_model.specs.declared.audit.Audit.TheVariants.{Holds, Collision}
use Rattle.world_model.specs.Agree.{Agree}
use Rattle.world_model.specs.Audit.{audit_of}
use Rattle.world_model.specs.Forging.{ForgesNothing}
use Rattle.world_model.specs.World.{Setting}
use Rattle.schedule_replay.specs.Replay.{CountsIf}
use Rattle.schedule_replay.specs.Report.{report_on}
use Rattle.schedule_replay.specs.declared.end.ReplayEnd.{ReplayEnd}
use Rattle.schedule_replay.specs.declared.end.ReplayEnd.TheVariants as replay_ends
use Rattle.schedule_plan.specs.Plans.{header_of}
use Rattle.schedule_plan.specs.Schedule.{world_of, schedule, events_by, limit_met}
use Rattle.schedule_stage.specs.declared.halt.Halt.{Halt}
use Rattle.schedule_stage.specs.declared.halt.Halt.TheVariants as halts
use Rattle.schedule_drive.specs.declared.end.DriveEnd.{DriveEnd}
use Rattle.schedule_drive.specs.declared.end.DriveEnd.TheVariants as ends

-- the events of a plan's schedule in a world, and in its own
abbrev pub events_in : Setting → Plan → List Event
events_in w p = events_by w p (schedule w p)

abbrev pub events_of_plan : Plan → List Event
events_of_plan p = events_in (world_of p) p

-- what is written of it
abbrev pub text_in : DriveWhat → Setting → Plan → List Event → List ℕ
text_in drives.Report w p es = report_on (header_of p) w es
text_in drives.Schedule w p es = FileOf (heading (header_of p)) es

abbrev pub driven_text : DriveWhat → Plan → List Event → List ℕ
driven_text what p es = text_in what (world_of p) p es

-- the end of a call that wrote a report
abbrev pub drive_end_of : ReplayEnd → DriveEnd
drive_end_of (replay_ends.Done a) = ends.Done a
drive_end_of replay_ends.Write = ends.Write
drive_end_of replay_ends.Mem = ends.Mem
drive_end_of (replay_ends.File fault) = ends.Mem

-- the end where the steps of a plan were halted
abbrev pub end_at_halt : Halt → DriveEnd
end_at_halt (halts.Limit x) = ends.Limit x
end_at_halt halts.Mem = ends.Mem

-- For a sink before and after the call, whether or not it tells: one call of it failed just where `Write` is answered. At a limit, and where
-- memory ran out, nothing was done to it.
pub record DriveEnded {K : Type 0} (faults : K → ℕ) (old new : K) (end : DriveEnd) : Type 0 where
  pub counts : CountsIf (faults old) (faults new) (end ≡ ends.Write)
  pub limit : (x : ℕ) → end ≡ ends.Limit x → new ≡ old
  pub wanting : end ≡ ends.Mem → new ≡ old

-- In this world the end is the audit of the plan's schedule, or the first limit that this passes, unless the sink failed or
-- memory ran out. At the audit the sink took the whole text, and in any case a front of it. Nothing is forged, so the audit holds,
-- or names two hashes that collide; and where it holds, the replicas agree.
pub record ShowsIn {K : Type 0} (tells : Bool) (taken : K → List ℕ) (old new : K) (what : DriveWhat) (end : DriveEnd) (w : Setting) (p : Plan) : Type 0 where
  pub done : (a : Audit) → end ≡ ends.Done a → (limit_met w p (schedule w p) ≡ None) × (a ≡ audit_of w (events_in w p))
  pub limit : (x : ℕ) → end ≡ ends.Limit x → limit_met w p (schedule w p) ≡ Some x
  pub write : end ≡ ends.Write → limit_met w p (schedule w p) ≡ None
  pub whole : tells ≡ true → (a : Audit) → end ≡ ends.Done a → taken new ≡ taken old ++ text_in what w p (events_in w p)
  pub front : tells ≡ true → TookFront (taken old) (taken new) (text_in what w p (events_in w p))
  pub unforged : ForgesNothing w (events_in w p)
  pub audit : (a : Audit) → end ≡ ends.Done a → (a ≡ Holds) ⊎ ((k : ℕ) × (a ≡ Collision k))
  pub agree : end ≡ ends.Done Holds → Agree w (events_in w p)

-- the same in the plan's own world
abbrev pub ShowsPlan : {K : Type 0} → Bool → (K → List ℕ) → K → K → DriveWhat → DriveEnd → Plan → Type 0
ShowsPlan tells taken old new what end p = ShowsIn tells taken old new what end (world_of p) p
