use Rattle.std.proofs.Common.{length}
use Rattle.node_loop.specs.PeersStanding.{kept_by}
use Rattle.node_loop.proofs.Taking.{IsGivenTo}
use Rattle.node_loop.proofs.deliver.send_batch.Given as goal

abbrev pub invariant-loop-kept : goal.invariant-loop-kept
invariant-loop-kept g l =
    IsGivenTo g.L.Link.tells (kept_by l.at l.peer) l.initial.batch l.batch (g.L.Link.told l.initial.link) (g.L.Link.told l.link) (g.L.Link.faults l.initial.link) (g.L.Link.faults l.link)

abbrev pub decreases-loop-kept : goal.decreases-loop-kept
decreases-loop-kept g l = length l.batch
