use Rattle.std.proofs.Common.{refl, subst}
use Rattle.ritas_base.specs.declared.what.What.TheVariants as whats
use Rattle.schedule_file.specs.declared.header.Header.{Header}
use Rattle.ritas_base.specs.declared.what.DriveWhat.{DriveWhat}
use Rattle.schedule_file.specs.ReadHeader.{heading}
use Rattle.schedule_file.specs.Spelling.{FrontOf}
use Rattle.world_model.specs.Stands.{WorldStands}
use Rattle.schedule_plan.specs.Plans.{header_of}
use Rattle.schedule_stage.specs.Stage.{IsKeptFile}
use Rattle.schedule_replay.specs.Layers.{layers_by, setting_by}
use Rattle.schedule_replay.specs.Replay.{ShowsWorld}
use Rattle.schedule_plan.specs.Schedule.{schedule, world_by}
use Rattle.schedule_drive.specs.Drive.{events_in}
use Rattle.schedule_drive.proofs.Ends.{report_ended, report_shows, file_shows, file_cut, is_file}
use Rattle.schedule_drive.proofs.Unforged.{made_unforged}
use Rattle.schedule_drive.proofs.driving.write.Goals as goal

pub returns-in-Report-clause-ended : goal.returns-in-Report-clause-ended
returns-in-Report-clause-ended g c =
    rw c.end_of.ensures (report_ended g.K.Sink.faults c.args.sink.now c.show.new.sink c.show.result c.show.ensures.own c.show.ensures.counts (c.show.ensures.memory (λ e. cc)))

pub returns-in-Report-clause-shows : goal.returns-in-Report-clause-shows
returns-in-Report-clause-shows g c = λ finished.
    let p = c.args.plan.now in
    let service = g.S.Service.rules in
    let other = g.E.Broadcast.rules in
    let m = layers_by g.S.Service.stands service g.S.Service.shown g.E.Broadcast.stands other g.E.Broadcast.shown in
    let w = world_by service other p in
    let es = events_in w p in
    let shows = subst (λ (h : Header). ShowsWorld g.K.Sink.tells g.K.Sink.taken c.args.sink.now c.show.new.sink whats.Report c.show.result h (setting_by service other h) es)
    finished.header (c.show.ensures.shows es finished.played) in
    rw (c.in-Report.is, c.end_of.ensures)
    (report_shows g.K.Sink.tells g.K.Sink.taken c.args.sink.now c.show.new.sink w p (made_unforged m c.drive_forges_nothing.ensures p c.args.what c.args.made.now (schedule w p) finished)
    finished.none c.show.result c.show.ensures.own shows)

pub returns-in-Ok-clause-shows : goal.returns-in-Ok-clause-shows
returns-in-Ok-clause-shows g c = λ finished.
    let p = c.args.plan.now in
    let service = g.S.Service.rules in
    let other = g.E.Broadcast.rules in
    let m = layers_by g.S.Service.stands service g.S.Service.shown g.E.Broadcast.stands other g.E.Broadcast.shown in
    let w = world_by service other p in
    let es = events_in w p in
    let unforged = made_unforged m c.drive_forges_nothing.ensures p c.args.what c.args.made.now (schedule w p) finished in
    let world = subst (λ (h : Header). WorldStands m c.world.result.now (setting_by service other h) es) finished.header (c.world.ensures es finished.played) in
    let file = c.args.made.now.file.taken in
    let kept = subst (λ (what : DriveWhat). IsKeptFile what file (FrontOf (heading (header_of p)) es)) c.in-Schedule.is finished.kept in
    let text = is_file g.K.Sink.tells g.K.Sink.taken c.args.sink.now c.write_file.new.sink w p unforged file kept in
    rw c.in-Schedule.is (file_shows g.K.Sink.tells g.K.Sink.taken c.args.sink.now c.write_file.new.sink w p unforged finished.none c.audit-audit.result
    (c.audit-audit.ensures.is w es world) (c.audit-audit.ensures.agree w es world)
    (λ told. rw text at (c.in-Ok.ensures.whole told)) (λ told. rw text at (c.in-Ok.ensures.front told)))

pub returns-in-Err-clause-shows : goal.returns-in-Err-clause-shows
returns-in-Err-clause-shows g c = λ finished.
    let p = c.args.plan.now in
    let service = g.S.Service.rules in
    let other = g.E.Broadcast.rules in
    let m = layers_by g.S.Service.stands service g.S.Service.shown g.E.Broadcast.stands other g.E.Broadcast.shown in
    let w = world_by service other p in
    let es = events_in w p in
    let unforged = made_unforged m c.drive_forges_nothing.ensures p c.args.what c.args.made.now (schedule w p) finished in
    let file = c.args.made.now.file.taken in
    let kept = subst (λ (what : DriveWhat). IsKeptFile what file (FrontOf (heading (header_of p)) es)) c.in-Schedule.is finished.kept in
    let text = is_file g.K.Sink.tells g.K.Sink.taken c.args.sink.now c.write_file.new.sink w p unforged file kept in
    rw c.in-Schedule.is (file_cut g.K.Sink.tells g.K.Sink.taken c.args.sink.now c.write_file.new.sink w p unforged finished.none (λ told. rw text at (c.in-Err.ensures.front told)))
