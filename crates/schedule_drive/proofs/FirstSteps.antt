-- A limit that the inputs of a plan pass is one of its schedule.
use Rattle.std.proofs.Common.{ℕ, ◌+◌, List, [], reverse, sym, subst}
use Rattle.ritas_base.specs.declared.plan.Plan.{Plan}
use Rattle.ritas_base.specs.declared.plan.Order.{Order}
use Rattle.ritas_base.specs.declared.plan.Order.TheVariants.{Sweep, Random}
use Rattle.world_model.specs.World.{Setting}
use Rattle.world_model.specs.Players.{Step}
use Rattle.schedule_plan.specs.Garbage.{words_start}
use Rattle.schedule_plan.specs.Inputs.{inputs_of}
use Rattle.schedule_plan.specs.Schedule.{schedule, steps_of, steps_by_order, step_limit}
use Rattle.schedule_plan.specs.Sweeps.{none_yet}
use Rattle.schedule_plan.proofs.Whole.{Grows, sweeps_grow, picks_grow}
use Rattle.schedule_stage.specs.declared.halt.Halt.{Halt}
use Rattle.schedule_stage.specs.Worlds.{HaltsBy}
use Rattle.schedule_drive.proofs.Toward.{halts_later}

-- the inputs come first, in either order
by_order : (w : Setting) (p : Plan) (k : ℕ) (order : Order) → Grows 0 (reverse (inputs_of p)) (steps_by_order k w p order)
by_order w p k Sweep = sweeps_grow w p k none_yet (words_start p) (reverse (inputs_of p))
by_order w p k Random = picks_grow w p k 0 (record { steps = reverse (inputs_of p); passed = []; words = words_start p })

inputs_first : (w : Setting) (p : Plan) → Grows 0 (reverse (inputs_of p)) (schedule w p)
unfolding schedule steps_of
inputs_first w p = by_order w p (step_limit + 1) p.order

pub inputs_halt : (w : Setting) (p : Plan) (halt : Halt) → HaltsBy w p (reverse (inputs_of p)) halt → HaltsBy w p (schedule w p) halt
inputs_halt w p halt by =
    let grown = inputs_first w p in
    subst (λ (steps : List Step). HaltsBy w p steps halt) (sym grown.is) (halts_later w p grown.later (reverse (inputs_of p)) halt by)
