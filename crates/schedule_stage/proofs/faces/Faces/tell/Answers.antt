use Rattle.std.proofs.Common.{◌-◌, ◌^◌, ◌<◌, List, length, sym, subst, arith}
use Rattle.ritas_base.specs.declared.event.Event.{Event}
use Rattle.world_model.specs.FaceWorlds.{faces_world, told_to}
use Rattle.world_model.specs.Stands.{WorldStands}
use Rattle.schedule_replay.specs.Layers.{layers_by}
use Rattle.schedule_plan.specs.Plans.{cast_of, face_a, face_b}
use Rattle.schedule_stage.specs.Worlds.{world_in}
use Rattle.schedule_stage.proofs.Letters.{here_a, here_b, not_a, not_b, told_here, told_else, told_few}
use Rattle.schedule_stage.proofs.faces.Faces.tell.Goals as goal

pub returns-in_ok-event : goal.returns-in_ok-event
returns-in_ok-event g c = λ p steps step is tells.
    let m = layers_by g.S.Service.stands g.S.Service.rules g.S.Service.shown g.E.Broadcast.stands g.E.Broadcast.rules g.E.Broadcast.shown in
    let w = world_in m p in
    let k = cast_of p.attack in
    let a = c.args.a in
    let e = c.args.event.now in
    let even = c.if-a-eq0.true in
    let few : length (told_to w k face_a steps) < 2 ^ 64 - 1 = omega (arith, told_few w k face_a steps, tells.few) in
    let seeing = c.in_ok-event.ensures.does (faces_world w) (told_to w k face_a steps) is.a tells.may few in
    record {
      attack = is.attack;
      keys = is.keys;
      a = subst (λ (es : List Event). WorldStands m c.event.new.self (faces_world w) es) (sym (told_here w k face_a steps step a e tells.to_a (here_a a even))) seeing.stands;
      b = subst (λ (es : List Event). WorldStands m c.args.self.now.b (faces_world w) es) (sym (told_else w k face_b steps step a e tells.to_b (not_b a even))) is.b;
    }

pub returns-in_ok-event-2 : goal.returns-in_ok-event-2
returns-in_ok-event-2 g c = λ p steps step is tells.
    let m = layers_by g.S.Service.stands g.S.Service.rules g.S.Service.shown g.E.Broadcast.stands g.E.Broadcast.rules g.E.Broadcast.shown in
    let w = world_in m p in
    let k = cast_of p.attack in
    let a = c.args.a in
    let e = c.args.event.now in
    let odd = c.if-a-eq0.false in
    let few : length (told_to w k face_b steps) < 2 ^ 64 - 1 = omega (arith, told_few w k face_b steps, tells.few) in
    let seeing = c.in_ok-event-2.ensures.does (faces_world w) (told_to w k face_b steps) is.b tells.may few in
    record {
      attack = is.attack;
      keys = is.keys;
      a = subst (λ (es : List Event). WorldStands m c.args.self.now.a (faces_world w) es) (sym (told_else w k face_a steps step a e tells.to_a (not_a a odd))) is.a;
      b = subst (λ (es : List Event). WorldStands m c.event-else-a-eq0.new.self (faces_world w) es) (sym (told_here w k face_b steps step a e tells.to_b (here_b a odd))) seeing.stands;
    }
