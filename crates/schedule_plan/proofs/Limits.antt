-- Limits: one that is met stays met, and where none is met, none was met before. Steps that go on top of others.
use Rattle.std.proofs.Common.{◌≡◌, ℕ, ◌<◌, ◌≤◌, Bool, true, false, nat_lt, List, [], ◌∷◌, ◌++◌, length, Option, Some, None, refl, ap, if◌then◌else◌, arith}
use Rattle.std.specs.Option.{option_or}
use Rattle.std.proofs.lemmas.Bool.{lt-ltb, ltb-false}
use Rattle.ritas_base.specs.declared.plan.Plan.{Plan}
use Rattle.schedule_file.specs.FileBytes.{limit}
use Rattle.world_model.specs.World.{Setting}
use Rattle.world_model.specs.Players.{Step}
use Rattle.schedule_plan.specs.Schedule.{step_limit, file_by, limit_at, limit_met}

-- ---- limits that are met

-- no limit is met by no step, and one step more meets the limit that is passed with it
pub none_at_start : (w : Setting) (p : Plan) → limit_met w p [] ≡ None
unfolding limit_met
none_at_start w p = refl

pub met_next : (w : Setting) (p : Plan) (step : Step) (steps : List Step) → limit_met w p steps ≡ None → limit_met w p (step ∷ steps) ≡ limit_at w p (step ∷ steps)
unfolding limit_met
met_next w p step steps none = ap (λ (o : Option ℕ). option_or o (limit_at w p (step ∷ steps))) none

-- a limit that is met is the one that is met when more steps are taken
pub limit_stays : (w : Setting) (p : Plan) (more steps : List Step) (x : ℕ) → limit_met w p steps ≡ Some x → limit_met w p (more ++ steps) ≡ Some x
unfolding limit_met
limit_stays w p [] steps x met = met
limit_stays w p (step ∷ more) steps x met = ap (λ (o : Option ℕ). option_or o (limit_at w p (step ∷ (more ++ steps)))) (limit_stays w p more steps x met)

-- of what is there and what comes then, nothing is there if nothing is there of both
none_first : (o other : Option ℕ) → option_or o other ≡ None → o ≡ None
none_first None other none = refl
none_first (Some x) other none = none

none_then : (o other : Option ℕ) → option_or o other ≡ None → other ≡ None
none_then None other none = none
none_then (Some x) other none = absurd cc

-- where no limit is met, none is met by a part of the steps
pub limit_of_part : (w : Setting) (p : Plan) (more steps : List Step) → limit_met w p (more ++ steps) ≡ None → limit_met w p steps ≡ None
unfolding limit_met
limit_of_part w p [] steps none = none
limit_of_part w p (step ∷ more) steps none = limit_of_part w p more steps (none_first (limit_met w p (more ++ steps)) (limit_at w p (step ∷ (more ++ steps))) none)

-- ---- what is within the limits

-- neither limit is passed with the newest step
both_within : (many over : Bool) → (if many then Some step_limit else (if over then Some limit else None)) ≡ None → (many ≡ false) × (over ≡ false)
both_within true over none = absurd cc
both_within false true none = absurd cc
both_within false false none = (refl, refl)

pub within_at : (w : Setting) (p : Plan) (steps : List Step) → limit_at w p steps ≡ None → (length steps ≤ step_limit) × (length (file_by w p steps) ≤ limit)
within_at w p steps none =
    let parts = both_within (nat_lt step_limit (length steps)) (nat_lt limit (length (file_by w p steps))) none in
    (ltb-false step_limit (length steps) parts.0, ltb-false limit (length (file_by w p steps)) parts.1)

-- where no limit is met, there are no more steps than may be
pub within_steps : (w : Setting) (p : Plan) (steps : List Step) → limit_met w p steps ≡ None → length steps ≤ step_limit
unfolding limit_met
within_steps w p [] none = omega arith
within_steps w p (step ∷ steps) none = (within_at w p (step ∷ steps) (none_then (limit_met w p steps) (limit_at w p (step ∷ steps)) none)).0

-- with a step more than there may be, the limit of steps is passed
pub too_many : (w : Setting) (p : Plan) (steps : List Step) → step_limit < length steps → limit_at w p steps ≡ Some step_limit
too_many w p steps more = ap (λ b. if b then Some step_limit else (if nat_lt limit (length (file_by w p steps)) then Some limit else None)) (lt-ltb step_limit (length steps) more)
