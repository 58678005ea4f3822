-- The laws of every schedule that a plan means.
use Rattle.std.specs.Prelude.{◌≡◌, ◌≢◌, ℕ, ◌<◌, ◌+◌, ◌⊎◌, true, Some, None}
use Rattle.ritas_base.specs.declared.plan.Plan.{Plan}
use Rattle.ritas_base.specs.Numbers.{IsSession}
use Rattle.layer_api.specs.Broadcast.{BroadcastRules}
use Rattle.layer_api.specs.Service.{ServiceRules}
use Rattle.ritas_core.specs.Rules.{HasForm}
use Rattle.world_model.specs.declared.audit.Audit.TheVariants.{Holds, Collision}
use Rattle.world_model.specs.Audit.{audit_of}
use Rattle.world_model.specs.Forging.{ForgesNothing}
use Rattle.world_model.specs.Players.{AreSteps}
use Rattle.world_model.specs.World.{Setting}
use Rattle.schedule_plan.specs.Plans.{cast_of}
use Rattle.schedule_plan.specs.Inputs.{copies_of, copy_at}
use Rattle.schedule_plan.specs.Schedule.{world_by, steps_of, step_limit, schedule, events_by, limit_met}

-- the steps of a plan are steps of its players, however many sweeps or picks there are
abbrev pub StepsLaw : ServiceRules → BroadcastRules → Type 0
StepsLaw service other = (p : Plan) (most : ℕ) → IsSession p.p → AreSteps (world_by service other p) (cast_of p.attack) (steps_of most (world_by service other p) p)

-- what `drive` makes of a plan forges nothing: its audit holds, or two hashes collide
abbrev pub DriveLaw : ServiceRules → BroadcastRules → Type 0
DriveLaw service other = (p : Plan) (most : ℕ) → IsSession p.p → service.serves p.mode.root ≡ true → HasForm p.mode other
    → let w = world_by service other p in let es = events_by w p (steps_of most w p) in
    ForgesNothing w es × ((audit_of w es ≡ Holds) ⊎ ((k : ℕ) × (audit_of w es ≡ Collision k)))

-- no two copies of a command come to one replica
abbrev pub CopiesLaw : Type 0
CopiesLaw = (p : Plan) (k i j : ℕ) → IsSession p.p → i < j → j < copies_of p → copy_at p k i ≢ copy_at p k j

-- more sweeps or picks change nothing, where no limit was met, and don't change which limit was met
abbrev pub WholeLaw : Type 0
WholeLaw = (w : Setting) (p : Plan) (more : ℕ)
    → (limit_met w p (schedule w p) ≡ None → steps_of (more + (step_limit + 1)) w p ≡ schedule w p)
    × ((x : ℕ) → limit_met w p (schedule w p) ≡ Some x → limit_met w p (steps_of (more + (step_limit + 1)) w p) ≡ Some x)
