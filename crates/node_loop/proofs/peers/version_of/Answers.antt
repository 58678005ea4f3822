use Rattle.std.proofs.Common.{ap}
use Rattle.ritas_base.specs.declared.mode.Mode.{Mode}
use Rattle.world_model.specs.World.{rules_at, states_of}
use Rattle.node_loop.proofs.peers.version_of.Goals as goal

pub returns : goal.returns
returns g c = record {
  version = λ w es i is.
      let core = c.core.ensures.live w.start (rules_at w i) (w.keys i) (states_of w es i) is.stands is.live in
      ap (λ (m : Mode). m.version) (c.mode.ensures.rules (rules_at w i) (states_of w es i) core);
}
