use Rattle.std.proofs.Common.{length, take, Ok}
use Rattle.link_resume.specs.Lists.{kept_for}
use Rattle.node_loop.specs.Outs.{LinkTook}
use Rattle.node_loop.specs.PeersStanding.{kept_by}
use Rattle.outside.specs.LinkCalls.{each_act}
use Rattle.node_loop.proofs.deliver.send_kept.Given as goal

abbrev pub invariant-loop-kept : goal.invariant-loop-kept
invariant-loop-kept g l =
    LinkTook g.L.Link (each_act (kept_by l.at l.peer) (take (length l.yielded) (kept_for l.resume.lists l.peer))) l.initial.link l.link (Ok tt)
