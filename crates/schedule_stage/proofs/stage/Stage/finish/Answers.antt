use Rattle.std.proofs.Common.{◌∙◌}
use Rattle.schedule_file.specs.ReadHeader.{heading}
use Rattle.schedule_file.specs.Spelling.{FrontOf}
use Rattle.schedule_plan.specs.Plans.{header_of}
use Rattle.schedule_plan.specs.Schedule.{events_by}
use Rattle.schedule_replay.specs.Layers.{layers_by}
use Rattle.schedule_stage.specs.Worlds.{world_in}
use Rattle.schedule_stage.proofs.Finishing.{kept_so, played_so}
use Rattle.schedule_stage.proofs.stage.Stage.finish.Goals as goal

pub returns : goal.returns
returns g c = λ what steps stands.
    let m = layers_by g.S.Service.stands g.S.Service.rules g.S.Service.shown g.E.Broadcast.stands g.E.Broadcast.rules g.E.Broadcast.shown in
    let p = c.args.plan.now in
    let es = events_by (world_in m p) p steps in
    let stage = c.args.self in
    record {
      header = c.of.ensures.header ∙ c.header_of.ensures;
      played = played_so m p stage.world stage.tape.counts c.of.result c.header_of.result es c.header_of.ensures (c.of.ensures.stands es) stands.header stands.world stands.counts;
      none = stands.tape.none;
      kept = kept_so what stage.tape.file.taken (FrontOf (heading (header_of p)) es) stands.tape.kept;
    }
