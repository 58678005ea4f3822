use Rattle.std.proofs.Common.{◌≡◌, ℕ, ◌-◌, length, List}
use Rattle.replica.specs.Out.{OutFrame}
use Rattle.world_model.specs.FramesMade.{MadeTable, with_frames}
use Rattle.world_model.proofs.TakenBack.{HasMore}
use Rattle.world_model.proofs.made.MadeFrames.take_back.Given as goal

abbrev pub invariant-loop-frame : goal.invariant-loop-frame
invariant-loop-frame l = (t : MadeTable) (event from : ℕ) (frames : List OutFrame) → length t.order ≡ l.fn.count → l.fn.self ≡ with_frames t event from frames →
    HasMore t event from l.self (l._frame-end - l._frame)
