use Rattle.schedule_plan.proofs.Driving.{drive_law}
use Rattle.schedule_plan.proofs.laws.drive_forges_nothing.Goals as goal

pub returns : goal.returns
returns g c = drive_law g.S.Service.rules g.E.Broadcast.rules c.planned_steps.ensures c.forges_nothing.ensures.law c.forges_nothing.ensures.audit
