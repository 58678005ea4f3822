use Rattle.schedule_replay.specs.Layers.{layers_by}
use Rattle.world_model.specs.World.{rules_at, states_of}
use Rattle.schedule_plan.specs.Schedule.{events_by}
use Rattle.schedule_stage.specs.Worlds.{world_in}
use Rattle.schedule_stage.proofs.Staging.{play_of}
use Rattle.schedule_stage.proofs.stage.Stage.waiting.Goals as goal

pub returns-in-Some : goal.returns-in-Some
returns-in-Some g c = rw c.in-Correct.is (λ p what steps stands player.
    let m = layers_by g.S.Service.stands g.S.Service.rules g.S.Service.shown g.E.Broadcast.stands g.E.Broadcast.rules g.E.Broadcast.shown in
    let w = world_in m p in
    let es = events_by w p steps in
    let i = c.in-Correct.i in
    let is = rw c.in-Some.is at (c.replica.ensures.is w es stands.world) in
    let core = c.core.ensures.live w.start (rules_at w i) (w.keys i) (states_of w es i) is.stands is.live in
    c.inbox_len.ensures (rules_at w i) (states_of w es i) core)

pub returns-in-Face : goal.returns-in-Face
returns-in-Face g c = rw c.in-Face.is (λ p what steps stands player.
    let m = layers_by g.S.Service.stands g.S.Service.rules g.S.Service.shown g.E.Broadcast.stands g.E.Broadcast.rules g.E.Broadcast.shown in
    c.waiting.ensures p steps stands.faces (play_of m p what c.args.self.now steps stands) player.0 player.1)
