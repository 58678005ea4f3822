use Rattle.std.proofs.Common.{refl, ◌∙◌}
use Rattle.schedule_plan.specs.Schedule.{world_by}
use Rattle.schedule_drive.proofs.Ends.{halt_shows, halt_ended}
use Rattle.schedule_drive.proofs.Unforged.{unforged_is}
use Rattle.schedule_drive.proofs.driving.drive_as.Goals as goal

pub returns-in-Err-clause-ended : goal.returns-in-Err-clause-ended
returns-in-Err-clause-ended g c = rw c.end_at.ensures (halt_ended g.K.Sink.faults c.args.sink.now c.args.sink.now c.in-Err.halt refl)

pub returns-in-Err-clause-shows : goal.returns-in-Err-clause-shows
returns-in-Err-clause-shows g c =
    let p = c.args.plan.now in
    let service = g.S.Service.rules in
    let other = g.E.Broadcast.rules in
    let form = g.met.E.Broadcast.form ∙ c.requires.form in
    rw c.end_at.ensures (halt_shows g.K.Sink.tells g.K.Sink.taken c.args.sink.now c.args.sink.now (world_by service other p) p
    (unforged_is service other c.drive_forges_nothing.ensures p c.has_session.ensures c.requires.serves form) c.args.what c.in-Err.halt refl c.in-Err.ensures)

pub returns-in-Ok-clause-shows : goal.returns-in-Ok-clause-shows
returns-in-Ok-clause-shows g c = c.write.ensures.shows c.in-Ok.ensures
