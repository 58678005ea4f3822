use Rattle.std.proofs.Common.{◌<◌, ◌-◌, ◌^◌, length, ◌∙◌, ap, ap₂, arith}
use Rattle.world_model.specs.Counts.{counts_of, counted_event, total}
use Rattle.schedule_replay.specs.Layers.{setting_by}
use Rattle.schedule_replay.proofs.Totals.{all_counted}
use Rattle.schedule_replay.proofs.played.Played.event.Goals as goal

pub returns-clause-stands : goal.returns-clause-stands
unfolding counts_of
returns-clause-stands g c = λ es stands may.
    let w = setting_by g.S.Service.rules g.E.Broadcast.rules c.args.self.now.header in
    let few : length es < 2 ^ 64 - 1 = omega (arith, all_counted w es, ap total stands.counts, c.requires) in
    let does = c.in_ok-seen.ensures.does w es stands.world may few in
    record {
      header = stands.header;
      world = does.stands;
      counts = c.count.ensures.one ∙ ap₂ counted_event does.seen stands.counts;
    }
