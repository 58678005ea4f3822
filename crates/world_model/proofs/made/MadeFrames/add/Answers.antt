use Rattle.std.proofs.Common.{sym, ◌∙◌}
use Rattle.world_model.proofs.TakenBack.{next_added, none_added}
use Rattle.world_model.proofs.made.MadeFrames.add.Goals as goal

pub loop-frame-preserved : goal.loop-frame-preserved
loop-frame-preserved c =
    next_added c.args.self.now c.loop-frame.self c.add_one.new.self c.args.event c.args.from c.loop-frame.yielded c.in-Some.frame
    c.add_one.result (sym c.is_err.ensures.value ∙ c.if-is_err.false) c.loop-frame.invariant c.add_one.ensures.ok

pub returns-then-is_err-clause-err : goal.returns-then-is_err-clause-err
returns-then-is_err-clause-err c =
    c.take_back.ensures c.args.self.now c.args.event c.args.from c.loop-frame.yielded (sym c.count-count.ensures)
    (none_added c.loop-frame.self c.add_one.new.self c.add_one.result (sym c.is_err.ensures.value ∙ c.if-is_err.true) c.add_one.ensures.err ∙ c.loop-frame.invariant)
