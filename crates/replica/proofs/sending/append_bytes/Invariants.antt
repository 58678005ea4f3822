use Rattle.std.proofs.Common.{◌≡◌, take}
use Rattle.replica.proofs.sending.append_bytes.Given as goal

-- the frames so far are those that were made so far
abbrev pub invariant-loop-frame : goal.invariant-loop-frame
invariant-loop-frame l = l.frames.items ≡ take l.frame-index l.made
