use Rattle.std.proofs.Common.{◌≡◌, ℕ, ◌<◌, List, slice_index_or}
use Rattle.ritas_base.specs.declared.event.Event.{Event}
use Rattle.world_model.specs.World.{Setting}
use Rattle.node_loop.specs.Meanings.{meaning_of}
use Rattle.node_loop.specs.Served.{AreHere}
use Rattle.node_loop.proofs.house.House.place_of.Given as goal

abbrev pub invariant-loop-place : goal.invariant-loop-place
invariant-loop-place g l =
    (w : Setting) (es : List Event) (numbers : List ℕ)
    → AreHere (meaning_of g.S.Service g.E.Broadcast g.C.Coin) w es numbers l.self.replicas.items
    → (k : ℕ) → k < l.place → slice_index_or numbers k 0 ≡ l.at → ⊥
