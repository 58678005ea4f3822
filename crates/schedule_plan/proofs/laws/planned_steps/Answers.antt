use Rattle.schedule_plan.proofs.Planned.{is_planned, plan_steps}
use Rattle.schedule_plan.specs.Schedule.{world_by}
use Rattle.schedule_plan.proofs.laws.planned_steps.Goals as goal

pub returns : goal.returns
returns g c p most session =
    plan_steps (world_by g.S.Service.rules g.E.Broadcast.rules p) p (is_planned g.S.Service.rules g.E.Broadcast.rules p session) most
