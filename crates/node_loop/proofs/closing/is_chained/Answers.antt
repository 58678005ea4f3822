use Rattle.std.proofs.Common.{ap, ◌∙◌}
use Rattle.command_log.specs.Rows.{Start}
use Rattle.world_model.specs.World.{rules_at, states_of}
use Rattle.node_loop.proofs.closing.is_chained.Goals as goal

pub returns : goal.returns
returns g c = record {
  chained = λ w es i is. c.is_chained.ensures ∙ ap (λ (s : Start). s.chained) (c.log.ensures.start w.start (rules_at w i) (w.keys i) (states_of w es i) is.stands);
}
