use Rattle.std.proofs.Common.{ℕ, List}
use Rattle.ritas_base.specs.declared.event.Event.{Event}
use Rattle.world_model.specs.World.{Setting}
use Rattle.node_loop.specs.Meanings.{meaning_of}
use Rattle.node_loop.specs.Served.{AreHere}
use Rattle.node_loop.proofs.Wishing.{AreFresh}
use Rattle.node_loop.proofs.house.House.new.Given as goal

abbrev pub invariant-loop-replica : goal.invariant-loop-replica
invariant-loop-replica g l =
    (w : Setting) (es : List Event) (numbers : List ℕ)
    → AreHere (meaning_of g.S.Service g.E.Broadcast g.C.Coin) w es numbers l.replica-items
    → AreFresh w.mode.version w.numbers.n l.replica-index l.keepers.items
