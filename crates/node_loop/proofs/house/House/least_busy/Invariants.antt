use Rattle.std.proofs.Common.{ℕ, List}
use Rattle.ritas_base.specs.declared.event.Event.{Event}
use Rattle.world_model.specs.World.{Setting, states_of}
use Rattle.node_loop.specs.Meanings.{meaning_of}
use Rattle.node_loop.specs.Serving.{is_busy}
use Rattle.node_loop.specs.Served.{AreHere}
use Rattle.node_loop.proofs.Busy.{Least}
use Rattle.node_loop.proofs.house.House.least_busy.Given as goal

abbrev pub invariant-loop-replica : goal.invariant-loop-replica
invariant-loop-replica g l =
    (w : Setting) (es : List Event) (numbers : List ℕ)
    → AreHere (meaning_of g.S.Service g.E.Broadcast g.C.Coin) w es numbers l.self.replicas.items
    → Least (λ i. is_busy (states_of w es i).inbox) numbers l.replica-index l.least
