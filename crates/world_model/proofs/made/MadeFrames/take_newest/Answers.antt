use Rattle.std.proofs.Common.{arith}
use Rattle.world_model.proofs.TakenBack.{taken_off}
use Rattle.world_model.proofs.made.MadeFrames.take_newest.Goals as goal

pub returns-then-at-len : goal.returns-then-at-len
returns-then-at-len c = λ t event from frame.
    taken_off (λ frames. frames.items) c.self.inside.n c.at-at.result c.self.inside.order.items c.pop.new.self.items c.in-Some.place c.self.inside.lists.items
    c.index_mut.result.now c.drop_last.new.frames c.args.self.now t event from frame
    c.self.view_is c.in-Some.ensures.items c.at-at.ensures (omega arith) c.index_mut.ensures.value c.drop_last.ensures
