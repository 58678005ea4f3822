use Rattle.std.proofs.Common.{ℕ, List, Ok, take}
use Rattle.std.specs.List.{AllByRecursion}
use Rattle.ritas_base.specs.declared.event.Event.{Event}
use Rattle.world_model.specs.World.{Setting}
use Rattle.node_loop.specs.Outs.{LinkTook}
use Rattle.node_loop.specs.Meanings.{meaning_of}
use Rattle.node_loop.specs.Groups.{FitsPeers, acts_by, acts_each}
use Rattle.node_loop.specs.Peers.{Peers}
use Rattle.node_loop.specs.Standing.{HouseStands}
use Rattle.node_loop.specs.Waiting.{Waiting}
use Rattle.node_loop.proofs.deliver.send_each.Given as goal

abbrev pub invariant-loop-output : goal.invariant-loop-output
invariant-loop-output g l =
    (w : Setting) (es : List Event) (numbers : List ℕ) (ws : Waiting) (p : Peers)
    → HouseStands (meaning_of g.S.Service g.E.Broadcast g.C.Coin) w es numbers l.house ws p
    → AllByRecursion (λ o. FitsPeers w p.keeping o.at o.more) l.outputs
    → LinkTook g.L.Link (acts_each (acts_by p.keeping) (take l.output-index l.outputs)) l.initial.link l.link (Ok tt)
