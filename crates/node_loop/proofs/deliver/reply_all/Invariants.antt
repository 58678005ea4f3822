use Rattle.std.proofs.Common.{take, Ok}
use Rattle.outside.specs.Links.{Replies}
use Rattle.node_loop.specs.Outs.{LinkTook}
use Rattle.node_loop.specs.Standing.{reply_by}
use Rattle.outside.specs.LinkCalls.{each_act}
use Rattle.node_loop.proofs.deliver.reply_all.Given as goal

abbrev pub invariant-loop-given : goal.invariant-loop-given
invariant-loop-given g l =
    LinkTook g.L.Link (each_act (λ r. Replies (reply_by l.at r)) (take l.given-index l.replies)) l.initial.link l.link (Ok tt)
