use Rattle.std.proofs.Common.{◌≡◌, ℕ, ◌<◌, false, List}
use Rattle.ritas_base.specs.declared.event.Event.{Event}
use Rattle.world_model.specs.World.{Setting, states_of}
use Rattle.world_model.specs.EveryWorld.{IsWorld}
use Rattle.world_model.specs.Stands.{IsReplica}
use Rattle.node_loop.specs.Meanings.{meaning_of}
use Rattle.node_loop.specs.Peers.{Peers}
use Rattle.node_loop.specs.PeersStanding.{IsKeeper}
use Rattle.node_loop.proofs.Keepers.{is_due_at}
use Rattle.node_loop.proofs.peers.Keeper.due.Given as goal

abbrev pub invariant-loop-peer : goal.invariant-loop-peer
invariant-loop-peer g l =
    (w : Setting) (es : List Event) (i : ℕ) (p : Peers)
    → IsWorld g.S.Service.rules g.E.Broadcast.rules w
    → IsReplica (meaning_of g.S.Service g.E.Broadcast g.C.Coin) w (states_of w es) i l.replica
    → IsKeeper w.mode.version w.numbers.n i l.self p
    → (k : ℕ) → k < l.peer → is_due_at w es p i k ≡ false
