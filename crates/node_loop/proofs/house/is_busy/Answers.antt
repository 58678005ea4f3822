use Rattle.world_model.specs.World.{rules_at}
use Rattle.node_loop.proofs.Busy.{busy_is}
use Rattle.node_loop.proofs.house.is_busy.Goals as goal

pub returns : goal.returns
returns g c = record {
  busy = λ w states i is.
      busy_is c.inbox_len.result (states i).inbox (c.inbox_len.ensures (rules_at w i) (states i) (c.core.ensures.live w.start (rules_at w i) (w.keys i) (states i) is.stands is.live));
}
