use Rattle.std.proofs.Common.{ℕ, List}
use Rattle.ritas_base.specs.declared.event.Event.{Event}
use Rattle.world_model.specs.World.{Setting}
use Rattle.node_loop.specs.Meanings.{meaning_of}
use Rattle.node_loop.specs.Waiting.{Waiting}
use Rattle.node_loop.specs.Peers.{Peers}
use Rattle.node_loop.specs.Serving.{wishes_to_close}
use Rattle.node_loop.specs.Standing.{HouseStands}
use Rattle.node_loop.proofs.Busy.{Least}
use Rattle.node_loop.proofs.house.House.least_closing.Given as goal

abbrev pub invariant-loop-place : goal.invariant-loop-place
invariant-loop-place g l =
    (w : Setting) (es : List Event) (numbers : List ℕ) (ws : Waiting) (p : Peers)
    → HouseStands (meaning_of g.S.Service g.E.Broadcast g.C.Coin) w es numbers l.self ws p
    → Least (wishes_to_close w l.closing es ws) numbers l.place l.least
