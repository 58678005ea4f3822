use Rattle.std.proofs.Common.{◌≡◌, ℕ, ◌<◌, true, List, slice_index_or}
use Rattle.ritas_base.specs.declared.event.Event.{Event}
use Rattle.world_model.specs.World.{Setting}
use Rattle.node_loop.specs.Chains.{has_ended_at}
use Rattle.node_loop.specs.Meanings.{meaning_of}
use Rattle.node_loop.specs.Served.{AreHere}
use Rattle.node_loop.proofs.house.House.is_over.Given as goal

abbrev pub invariant-loop-replica : goal.invariant-loop-replica
invariant-loop-replica g l =
    (w : Setting) (es : List Event) (numbers : List ℕ)
    → AreHere (meaning_of g.S.Service g.E.Broadcast g.C.Coin) w es numbers l.self.replicas.items
    → (k : ℕ) → k < l.replica-index → has_ended_at w es (slice_index_or numbers k 0) ≡ true
