use Rattle.world_model.proofs.TakenBack.{all_there, one_fewer}
use Rattle.world_model.proofs.made.MadeFrames.take_back.Goals as goal

pub loop-frame-init : goal.loop-frame-init
loop-frame-init c = λ t event from frames first is.
    all_there t event from c.args.self.now frames c.args.count c.count-frame-end.result first is c.count-frame-end.ensures

pub loop-frame-preserved : goal.loop-frame-preserved
loop-frame-preserved c = λ t event from frames first is.
    one_fewer t event from c.loop-frame.self c.take_newest.new.self c.loop-frame._frame c.count-frame-end.result c.loop-frame-test.true
    (c.loop-frame.invariant t event from frames first is) c.take_newest.ensures
