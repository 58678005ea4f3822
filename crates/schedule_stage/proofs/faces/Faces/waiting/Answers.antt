use Rattle.std.proofs.Common.{◌/◌, length, sym, ◌∙◌, ap}
use Rattle.ritas_core.specs.Machine.{CoreState}
use Rattle.world_model.specs.World.{rules_at, states_of}
use Rattle.world_model.specs.FaceWorlds.{faces_world, told_to}
use Rattle.schedule_replay.specs.Layers.{layers_by}
use Rattle.schedule_plan.specs.Plans.{cast_of}
use Rattle.schedule_stage.specs.Worlds.{world_in}
use Rattle.schedule_stage.proofs.Letters.{face_state}
use Rattle.schedule_stage.proofs.faces.Faces.waiting.Goals as goal

pub returns-in-Some : goal.returns-in-Some
returns-in-Some g c = λ p steps is play faulty below.
    let m = layers_by g.S.Service.stands g.S.Service.rules g.S.Service.shown g.E.Broadcast.stands g.E.Broadcast.rules g.E.Broadcast.shown in
    let w = world_in m p in
    let k = cast_of p.attack in
    let i = c.args.a / 2 in
    let l = c.letter.ensures p steps is in
    let there = faces_world w in
    let states = states_of there (told_to w k l.face steps) in
    let at = c.replica.ensures.is there (told_to w k l.face steps) l.stands in
    let one = rw c.in-Some.is at at in
    let core = c.core.ensures.live there.start (rules_at there i) (there.keys i) (states i) one.stands one.live in
    c.inbox_len.ensures (rules_at there i) (states i) core
    ∙ ap (λ (st : CoreState). length st.inbox) (sym (face_state c.faces_are_replicas.ensures.states w k l.face steps l.letter play.steps_are c.args.a l.here faulty below))
