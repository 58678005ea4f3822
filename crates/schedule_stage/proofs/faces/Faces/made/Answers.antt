use Rattle.std.proofs.Common.{◌/◌, sym, ◌∙◌}
use Rattle.world_model.specs.World.{states_of}
use Rattle.world_model.specs.BetweenLaws.{between_below}
use Rattle.world_model.specs.FaceWorlds.{faces_world, told_to}
use Rattle.schedule_replay.specs.Layers.{layers_by}
use Rattle.schedule_plan.specs.Plans.{cast_of}
use Rattle.schedule_stage.specs.Worlds.{world_in}
use Rattle.schedule_stage.proofs.Showing.{face_shows}
use Rattle.schedule_stage.proofs.faces.Faces.made.Goals as goal

pub returns : goal.returns
returns g c = λ p steps is play faulty below to_below differ.
    let m = layers_by g.S.Service.stands g.S.Service.rules g.S.Service.shown g.E.Broadcast.stands g.E.Broadcast.rules g.E.Broadcast.shown in
    let w = world_in m p in
    let k = cast_of p.attack in
    let l = c.letter.ensures p steps is in
    let made = c.frames_made.ensures.is (faces_world w) (told_to w k l.face steps) l.stands ∙ between_below (faces_world w) (states_of (faces_world w) (told_to w k l.face steps)) (c.args.a / 2) c.args.to to_below in
    sym (face_shows m g.S.Service.rules g.E.Broadcast.rules c.faces_are_replicas.ensures.shown p c.letter.result.now steps c.args.a c.args.to play l faulty below to_below differ c.frames_made.result.now made).many
