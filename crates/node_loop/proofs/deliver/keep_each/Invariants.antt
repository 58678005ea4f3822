use Rattle.std.proofs.Common.{ℕ, take, map}
use Rattle.ritas_base.specs.declared.mode.FrameVersion.{FrameVersion}
use Rattle.node_loop.specs.Peers.{Peers, keep_all}
use Rattle.node_loop.specs.PeersStanding.{AreKept, made_as}
use Rattle.node_loop.proofs.deliver.keep_each.Given as goal

abbrev pub invariant-loop-frame : goal.invariant-loop-frame
invariant-loop-frame l =
    (v : FrameVersion) (n i k : ℕ) (p : Peers) → AreKept v n i l.initial.resume p.keeping
    → AreKept v n i l.resume (keep_all v (map (made_as k i) (take l.frame-index l.frames)) p).keeping
