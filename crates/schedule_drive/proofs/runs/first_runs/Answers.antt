use Rattle.std.proofs.Common.{◌∙◌}
use Rattle.schedule_drive.proofs.Running.{first_next}
use Rattle.schedule_drive.proofs.runs.first_runs.Goals as goal

pub loop-y-preserved : goal.loop-y-preserved
loop-y-preserved c =
    first_next c.args.plan.now c.deref-y-items.result.now c.as_slice.result.now c.loop-y.out.items c.push.new.self.items c.add_frames.new.out.items c.loop-y.y-index _ c.loop-y-test.true
    (c.as_slice.ensures.value ∙ c.in_ok-all.ensures) c.loop-y.invariant c.in_ok-push.ensures.items c.in_ok-add_frames.ensures
