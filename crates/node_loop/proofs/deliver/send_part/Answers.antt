use Rattle.std.proofs.Common.{List, subst}
use Rattle.outside.specs.LinkCalls.{each_act}
use Rattle.link_resume.specs.declared.kept.Kept.{Kept}
use Rattle.node_loop.specs.Outs.{LinkTook}
use Rattle.node_loop.specs.PeersStanding.{kept_by}
use Rattle.node_loop.proofs.deliver.send_part.Goals as goal

pub returns-in-All : goal.returns-in-All
returns-in-All g c = record { sends = rw c.in-All.is c.send_kept.ensures.sends }

pub returns-in-Batch : goal.returns-in-Batch
returns-in-Batch g c = record {
  sends =
      rw c.in-Batch.is (subst (λ (l : List Kept). LinkTook g.L.Link (each_act (kept_by c.args.at c.args.peer) l) c.args.link.now c.send_batch.new.link c.send_batch.result)
      c.batch-batch.ensures c.send_batch.ensures.sends);
}
