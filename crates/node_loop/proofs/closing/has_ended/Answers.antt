use Rattle.world_model.specs.World.{rules_at, states_of}
use Rattle.node_loop.proofs.Chaining.{ended_is}
use Rattle.node_loop.proofs.Heres.{log_at}
use Rattle.node_loop.proofs.closing.has_ended.Goals as goal

pub returns : goal.returns
returns g c = record {
  ended = λ w es i is.
      ended_is w es i c.log.result.now c.is_over.result c.is_over.ensures.exact
      (log_at _ w es i c.args.replica.now c.log.result.now.rows is (c.log.ensures.live w.start))
      (c.log.ensures.start w.start (rules_at w i) (w.keys i) (states_of w es i) is.stands);
}
