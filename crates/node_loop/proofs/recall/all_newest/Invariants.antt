use Rattle.std.proofs.Common.{ℕ, take, map}
use Rattle.ritas_base.specs.declared.mode.FrameVersion.{FrameVersion}
use Rattle.node_loop.specs.Peers.{Peers}
use Rattle.node_loop.specs.PeersStanding.{AreKept, made_as}
use Rattle.node_loop.specs.Recovering.{all_newest}
use Rattle.node_loop.proofs.recall.all_newest.Given as goal

abbrev pub invariant-loop-frame : goal.invariant-loop-frame
invariant-loop-frame l =
    (v : FrameVersion) (n i k : ℕ) (p : Peers) → AreKept v n i l.initial.resume p.keeping
    → AreKept v n i l.resume (all_newest v (map (made_as k i) (take l.frame-index l.frames)) p).keeping
