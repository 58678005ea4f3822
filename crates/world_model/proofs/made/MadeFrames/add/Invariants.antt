use Rattle.std.proofs.Common.{◌≡◌}
use Rattle.world_model.specs.FramesMade.{with_frames}
use Rattle.world_model.proofs.made.MadeFrames.add.Given as goal

abbrev pub invariant-loop-frame : goal.invariant-loop-frame
invariant-loop-frame l = l.self ≡ with_frames l.fn.self l.event l.from l.yielded
