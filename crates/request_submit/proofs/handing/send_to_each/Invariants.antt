use Rattle.std.proofs.Common.{take, Ok}
use Rattle.ritas_base.specs.History.{replicas}
use Rattle.outside.specs.LinkCalls.{LinkDid, each_act}
use Rattle.request_submit.specs.Submitting.{message_sent_to}
use Rattle.request_submit.proofs.handing.send_to_each.Given as goal

abbrev pub invariant-loop-node : goal.invariant-loop-node
invariant-loop-node g l =
    LinkDid g.L.Link.tells (each_act (message_sent_to l.message) (take l.node (replicas l.count))) (g.L.Link.told l.initial.link) (g.L.Link.told l.link) (g.L.Link.faults l.initial.link) (g.L.Link.faults l.link) (Ok tt)
