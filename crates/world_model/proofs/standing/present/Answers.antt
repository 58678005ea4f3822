use Rattle.world_model.proofs.TakenOut.{present_more, present_none}
use Rattle.world_model.proofs.standing.present.Goals as goal

pub loop-place-preserved-in-Continue-1 : goal.loop-place-preserved-in-Continue-1
loop-place-preserved-in-Continue-1 g c =
    present_more c.loop-place.yielded c.in-Some.place c.in-Some-place.value c.loop-place.values.items c.push.new.self.items c.in-Some-place.is c.loop-place.invariant c.in_ok-push.ensures.items

pub loop-place-preserved : goal.loop-place-preserved
loop-place-preserved g c = present_none c.loop-place.yielded c.in-Some.place c.loop-place.values.items c.in_default.not-Some c.loop-place.invariant
