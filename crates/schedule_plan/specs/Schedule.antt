-- The schedule of a plan, and the limits that it may meet. Lists of steps and events have the newest first.
use Rattle.std.specs.Prelude.{ℕ, ◌+◌, nat_lt, List, [], ◌∷◌, length, reverse, Option, Some, None, if◌then◌else◌}
use Rattle.std.specs.Option.{option_or}
use Rattle.ritas_base.specs.declared.event.Event.{Event}
use Rattle.ritas_base.specs.declared.plan.Plan.{Plan}
use Rattle.ritas_base.specs.declared.plan.Order.{Order}
use Rattle.ritas_base.specs.declared.plan.Order.TheVariants.{Sweep, Random}
use Rattle.layer_api.specs.Broadcast.{BroadcastRules}
use Rattle.layer_api.specs.Service.{ServiceRules}
use Rattle.schedule_file.specs.FileBytes.{limit}
use Rattle.schedule_file.specs.ReadHeader.{heading}
use Rattle.schedule_file.specs.Spelling.{FileOf}
use Rattle.schedule_replay.specs.Layers.{setting_by, setting_of}
use Rattle.world_model.specs.World.{Setting}
use Rattle.world_model.specs.Players.{Step, events_of}
use Rattle.schedule_plan.specs.Plans.{cast_of, header_of}
use Rattle.schedule_plan.specs.Inputs.{inputs_of}
use Rattle.schedule_plan.specs.Garbage.{words_start}
use Rattle.schedule_plan.specs.Sweeps.{none_yet, sweeps}
use Rattle.schedule_plan.specs.Picks.{picks}

-- the world of a plan, with a service and a broadcast beside the reliable one, and with those of its mode
abbrev pub world_by : ServiceRules → BroadcastRules → Plan → Setting
world_by service other p = setting_by service other (header_of p)

abbrev pub world_of : Plan → Setting
world_of p = setting_of (header_of p)

-- ---- steps

abbrev pub steps_by_order : ℕ → Setting → Plan → Order → List Step
steps_by_order most w p Sweep = sweeps most w p none_yet (words_start p) (reverse (inputs_of p))
steps_by_order most w p Random = picks most w p 0 (record { steps = reverse (inputs_of p); passed = []; words = words_start p })

-- the steps of a plan with at most so many sweeps or picks
unfoldable pub steps_of : ℕ → Setting → Plan → List Step
steps_of most w p = steps_by_order most w p p.order

-- a schedule has at most so many steps
unfoldable pub step_limit : ℕ
step_limit = 4000000

-- the steps of a plan: no more sweeps or picks are needed, since each has a step, or a limit was met before
unfoldable pub schedule : Setting → Plan → List Step
schedule w p = steps_of (step_limit + 1) w p

-- the events of these steps
abbrev pub events_by : Setting → Plan → List Step → List Event
events_by w p steps = events_of w (cast_of p.attack) steps

-- ---- limits

-- the file of these steps
abbrev pub file_by : Setting → Plan → List Step → List ℕ
file_by w p steps = FileOf (heading (header_of p)) (events_by w p steps)

-- the limit that is passed with the newest step: that of steps is looked at first
abbrev pub limit_at : Setting → Plan → List Step → Option ℕ
limit_at w p steps =
    if nat_lt step_limit (length steps) then Some step_limit
    else (if nat_lt limit (length (file_by w p steps)) then Some limit else None)

-- the first limit that is passed as these steps are taken
unfoldable pub limit_met : Setting → Plan → List Step → Option ℕ
limit_met w p [] = None
limit_met w p (step ∷ steps) = option_or (limit_met w p steps) (limit_at w p (step ∷ steps))
