use Rattle.std.proofs.Common.{refl}
use Rattle.schedule_drive.proofs.Lanes.{filled}
use Rattle.schedule_drive.proofs.lane.Lane.fill.Goals as goal

pub loop-self-preserved : goal.loop-self-preserved
loop-self-preserved c = λ count left is. filled c.loop-self.self _ count left (c.loop-self.invariant count left is) c.if-self.true c.in_ok-push.ensures.items refl refl
