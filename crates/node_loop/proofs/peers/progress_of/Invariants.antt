use Rattle.std.proofs.Common.{◌≡◌, ℕ, ◌+◌, ◌*◌, ◌≤◌, List}
use Rattle.ritas_base.specs.declared.event.Event.{Event}
use Rattle.world_model.specs.World.{Setting, rules_at, states_of}
use Rattle.world_model.specs.EveryWorld.{IsWorld}
use Rattle.world_model.specs.Stands.{IsReplica}
use Rattle.node_loop.specs.Meanings.{meaning_of}
use Rattle.node_loop.proofs.Keepers.{come_by}
use Rattle.node_loop.proofs.peers.progress_of.Given as goal

abbrev pub invariant-loop-origin : goal.invariant-loop-origin
invariant-loop-origin g l = record {
  small : l.progress ≤ (l.origin + 1) * 4294967295;
  is : (w : Setting) (es : List Event) (i : ℕ)
      → IsWorld g.S.Service.rules g.E.Broadcast.rules w
      → IsReplica (meaning_of g.S.Service g.E.Broadcast g.C.Coin) w (states_of w es) i l.replica
      → l.progress ≡ come_by (rules_at w i) (states_of w es i) l.origin;
}
