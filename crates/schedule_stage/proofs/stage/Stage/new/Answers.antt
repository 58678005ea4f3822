use Rattle.std.proofs.Common.{[], subst}
use Rattle.schedule_file.specs.declared.header.Header.{Header}
use Rattle.schedule_file.specs.ReadHeader.{heading}
use Rattle.schedule_file.specs.Spelling.{IsHeading}
use Rattle.world_model.specs.Counts.{counts_of}
use Rattle.world_model.specs.Stands.{WorldStands}
use Rattle.schedule_replay.specs.Layers.{layers_by, setting_by}
use Rattle.schedule_stage.specs.Worlds.{world_in}
use Rattle.schedule_stage.proofs.stage.Stage.new.Goals as goal

pub returns : goal.returns
unfolding counts_of
returns g c =
    let m = layers_by g.S.Service.stands g.S.Service.rules g.S.Service.shown g.E.Broadcast.stands g.E.Broadcast.rules g.E.Broadcast.shown in
    let p = c.args.plan.now in
    let same = c.first_header-header.ensures.is in
    record {
      header = subst (λ (h : Header). IsHeading (heading h)) same c.first_header-header.ensures.right;
      world = subst (λ (h : Header). WorldStands m c.in_ok-world.world (setting_by g.S.Service.rules g.E.Broadcast.rules h) []) same c.in_ok-world.ensures;
      counts = c.in_ok-tape.ensures.0;
      faces = c.in_ok-faces.ensures;
      tape = c.in_ok-tape.ensures.1 (world_in m p) p same;
      are_steps = tt;
    }
