use Rattle.std.proofs.Common.{take, Ok}
use Rattle.node_loop.specs.Outs.{LinkTook}
use Rattle.node_loop.specs.Standing.{frame_by}
use Rattle.outside.specs.LinkCalls.{each_act}
use Rattle.node_loop.proofs.deliver.send_all.Given as goal

abbrev pub invariant-loop-frame : goal.invariant-loop-frame
invariant-loop-frame g l =
    LinkTook g.L.Link (each_act (frame_by l.at) (take l.frame-index l.frames)) l.initial.link l.link (Ok tt)
