-- What a replica puts out: a frame, as its bytes, and which replica it is for.
use Rattle.std.specs.Prelude.{ℕ, List}
use Rattle.replica.specs.declared.frame.OutFrame.{OutFrame as out_frame}

abbrev pub OutFrame : Type 0
OutFrame = out_frame (List ℕ)
