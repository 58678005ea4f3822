use Rattle.std.proofs.Common.{ℕ, ap₂}
use Rattle.world_model.specs.World.{rules_at, states_of}
use Rattle.node_loop.specs.declared.peers.Mark.{Mark}
use Rattle.node_loop.proofs.peers.mark_of.Goals as goal

abbrev mark_with : ℕ → ℕ → Mark
mark_with progress held = record { progress = progress; held = held }

pub returns : goal.returns
returns g c = record {
  mark = λ w es i kind is.
      let core = c.core.ensures.live w.start (rules_at w i) (w.keys i) (states_of w es i) is.stands is.live in
      ap₂ mark_with (c.progress_of.ensures.progress w es i kind is) (c.held_of.ensures (rules_at w i) (states_of w es i) core);
}
