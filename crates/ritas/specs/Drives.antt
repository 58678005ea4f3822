-- What is answered where a schedule is made of a plan.
use Rattle.std.specs.Prelude.{◌≡◌, ℕ, List, Bool, Some, None}
use Rattle.ritas_base.specs.declared.plan.Plan.{Plan}
use Rattle.ritas_base.specs.declared.what.DriveWhat.{DriveWhat}
use Rattle.schedule_plan.specs.Schedule.{world_of, schedule, limit_met}
use Rattle.schedule_drive.specs.Drive.{events_of_plan, driven_text}
use Rattle.world_model.specs.Agree.{Agree}
use Rattle.world_model.specs.Audit.{audit_of}
use Rattle.ritas.specs.Run.{Replies}
use Rattle.ritas.specs.Statuses.{audit_status, limit_text}

-- the status of a plan's schedule
abbrev pub status_of_plan : Plan → ℕ
status_of_plan p = audit_status (audit_of (world_of p) (events_of_plan p))

-- A plan is answered by what is asked for of its schedule, or by the line of the limit that this passes first: then nothing is
-- done to the output at 8. At 0 the replicas agree.
pub record AnswersPlan {K : Type 0} (tells : Bool) (taken : K → List ℕ) (old new : K) (what : DriveWhat) (status : ℕ) (p : Plan) : Type 0 where
  pub made : limit_met (world_of p) p (schedule (world_of p) p) ≡ None
      → Replies tells taken old new status (status_of_plan p) (driven_text what p (events_of_plan p))
  pub passes : (x : ℕ) → limit_met (world_of p) p (schedule (world_of p) p) ≡ Some x → Replies tells taken old new status 7 (limit_text x)
  pub agree : status ≡ 0 → Agree (world_of p) (events_of_plan p)
  pub wanting : status ≡ 8 → new ≡ old
