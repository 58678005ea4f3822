use Rattle.std.proofs.Common.{sym, ◌∙◌}
use Rattle.ritas_base.specs.declared.what.What.{What}
use Rattle.schedule_replay.specs.Frames.{frames_on}
use Rattle.schedule_replay.specs.Layers.{setting_by}
use Rattle.schedule_replay.specs.Report.{report_on}
use Rattle.schedule_replay.specs.Vectors.{vectors_on}
use Rattle.schedule_replay.proofs.Showing.{shows_done}
use Rattle.schedule_replay.proofs.write.show.Goals as goal
use Rattle.schedule_replay.proofs.write.show.Goals.{in-Report, in-Frames, in-Vectors}

pub returns-in-Ok-clause-shows : goal.returns-in-Ok-clause-shows
returns-in-Ok-clause-shows g c = λ es stands.
    let h = c.args.x.now.header in
    let w = setting_by g.S.Service.rules g.E.Broadcast.rules h in
    let audit = c.audit-audit.result in
    let is = c.audit-audit.ensures.is w es stands.world in
    let agree = c.audit-audit.ensures.agree w es stands.world in
    elim c.match-what.branch [
      | in-Report x ↦
          rw (x.sink-is, x.in-Report.is) (shows_done g.K.Sink.tells g.K.Sink.taken _ _ _ h w es audit _ _ _ c.in-Ok.field-0 _
          (x.write_whole-written.ensures.writes (report_on h w es) (x.report_text.ensures es stands is)) (sym x.written-is ∙ c.in-Ok.is) is agree)
      | in-Frames x ↦
          rw (x.sink-is, x.in-Frames.is) (shows_done g.K.Sink.tells g.K.Sink.taken _ _ _ h w es audit _ _ _ c.in-Ok.field-0 _
          (x.write_frames-written.ensures.writes w es stands.world is) (sym x.written-is ∙ c.in-Ok.is) is agree)
      | in-Vectors x ↦
          rw (x.sink-is, x.in-Vectors.is) (shows_done g.K.Sink.tells g.K.Sink.taken _ _ _ h w es audit _ _ _ c.in-Ok.field-0 _
          (x.write_whole-written-in-Vectors.ensures.writes (vectors_on w es) (x.vectors_text.ensures es stands is)) (sym x.written-is ∙ c.in-Ok.is) is agree)
    ]
