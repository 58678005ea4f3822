use Rattle.std.proofs.Common.{◌∙◌, ap}
use Rattle.world_model.specs.declared.counts.Counts.{Counts}
use Rattle.world_model.specs.Counts.{counted_event}
use Rattle.schedule_plan.specs.Schedule.{events_by}
use Rattle.schedule_replay.specs.Layers.{layers_by}
use Rattle.schedule_stage.specs.Worlds.{world_in}
use Rattle.schedule_stage.proofs.Staging.{few_events, goes_on}
use Rattle.schedule_stage.proofs.Taping.{counted_on}
use Rattle.schedule_stage.proofs.stage.Stage.happen.Goals as goal

pub returns : goal.returns
returns g c = λ p what steps step stands happens.
    let m = layers_by g.S.Service.stands g.S.Service.rules g.S.Service.shown g.E.Broadcast.stands g.E.Broadcast.rules g.E.Broadcast.shown in
    let w = world_in m p in
    let does = c.in_ok-seen.ensures.does w (events_by w p steps) stands.world happens.may (few_events m p what c.args.self.now steps stands) in
    let tape = c.in_ok-event.ensures.tapes w p what steps step stands.tape happens.events in
    goes_on m p what c.args.self.now _ step steps c.args.event.now c.in_ok-seen.seen stands happens does.stands does.seen
    (c.count.ensures.counts ∙ ap (λ (x : Counts). counted_event c.in_ok-seen.seen x) c.in_ok-event.ensures.counts) stands.faces
    (counted_on w p what c.event.new.self c.count.new.self _ tape c.count.ensures.same)
