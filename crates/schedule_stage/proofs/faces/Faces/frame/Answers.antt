use Rattle.std.proofs.Common.{ℕ, ◌/◌, List, sym, ◌∙◌, subst}
use Rattle.world_model.specs.World.{states_of}
use Rattle.world_model.specs.BetweenLaws.{between_below}
use Rattle.world_model.specs.FaceWorlds.{faces_world, told_to, IsShownAs}
use Rattle.schedule_replay.specs.Layers.{layers_by}
use Rattle.schedule_plan.specs.Plans.{cast_of}
use Rattle.schedule_stage.specs.Worlds.{world_in}
use Rattle.schedule_stage.proofs.Showing.{face_shows, frame_there, none_there}
use Rattle.schedule_stage.proofs.faces.Faces.frame.Goals as goal

pub returns-in_ok-shown-in-Some : goal.returns-in_ok-shown-in-Some
returns-in_ok-shown-in-Some g c = λ p steps is play faulty below to_below differ.
    let m = layers_by g.S.Service.stands g.S.Service.rules g.S.Service.shown g.E.Broadcast.stands g.E.Broadcast.rules g.E.Broadcast.shown in
    let w = world_in m p in
    let k = cast_of p.attack in
    let a = c.args.a in
    let number = c.args.number in
    let list = c.frames_made.result.now in
    let l = c.letter.ensures p steps is in
    let made = c.frames_made.ensures.is (faces_world w) (told_to w k l.face steps) l.stands ∙ between_below (faces_world w) (states_of (faces_world w) (told_to w k l.face steps)) (c.args.a / 2) c.args.to to_below in
    let are = face_shows m g.S.Service.rules g.E.Broadcast.rules c.faces_are_replicas.ensures.shown p c.letter.result.now steps a c.args.to play l faulty below to_below differ list made in
    frame_there w k (a / 2) c.args.to number list _ c.in-Some.made.now c.in_ok-shown-in-Some.shown are c.in-Some.ensures.lookup.3.0 c.in-Some.ensures.lookup.1
    (λ b shows. c.in_ok-shown-in-Some.ensures p steps is below to_below b (subst (λ (x : List ℕ). IsShownAs w k (a / 2) c.args.to number x b) (sym (c.as_slice.ensures ∙ c.in_ok-bytes-in-Some.ensures)) shows))

pub returns-in-None : goal.returns-in-None
returns-in-None g c = λ p steps is play faulty below to_below differ.
    let m = layers_by g.S.Service.stands g.S.Service.rules g.S.Service.shown g.E.Broadcast.stands g.E.Broadcast.rules g.E.Broadcast.shown in
    let w = world_in m p in
    let k = cast_of p.attack in
    let a = c.args.a in
    let list = c.frames_made.result.now in
    let l = c.letter.ensures p steps is in
    let made = c.frames_made.ensures.is (faces_world w) (told_to w k l.face steps) l.stands ∙ between_below (faces_world w) (states_of (faces_world w) (told_to w k l.face steps)) (c.args.a / 2) c.args.to to_below in
    let are = face_shows m g.S.Service.rules g.E.Broadcast.rules c.faces_are_replicas.ensures.shown p c.letter.result.now steps a c.args.to play l faulty below to_below differ list made in
    none_there w k (a / 2) c.args.to c.args.number list _ are c.in-None.ensures.lookup.3
