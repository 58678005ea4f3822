use Rattle.schedule_replay.specs.Layers.{layers_by}
use Rattle.schedule_plan.specs.Picks.{garbled}
use Rattle.schedule_stage.specs.Worlds.{world_in}
use Rattle.schedule_drive.proofs.Refreshing.{known_in}
use Rattle.schedule_drive.proofs.Picking.{more_garbled}
use Rattle.schedule_drive.proofs.picks.look_again.Goals as goal

pub returns-then-number-eq0 : goal.returns-then-number-eq0
returns-then-number-eq0 g c = λ what q session stage_is picker_is.
    let m = layers_by g.S.Service.stands g.S.Service.rules g.S.Service.shown g.E.Broadcast.stands g.E.Broadcast.rules g.E.Broadcast.shown in
    let p = c.args.plan.now in
    let w = world_in m p in
    c.refresh_all.ensures p what (garbled p c.args.number q).steps (known_in w p q.steps) q.passed stage_is session picker_is (more_garbled w p c.args.number q)
