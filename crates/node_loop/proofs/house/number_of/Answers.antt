use Rattle.std.proofs.Common.{ap, ◌∙◌}
use Rattle.keyed_channel.specs.KeyRow.{KeyRow}
use Rattle.world_model.specs.World.{rules_at}
use Rattle.node_loop.proofs.house.number_of.Goals as goal

pub returns : goal.returns
returns g c = record {
  number = λ w states i is. c.me.ensures.value ∙ ap (λ (k : KeyRow). k.me) (c.keys.ensures w.start (rules_at w i) (w.keys i) (states i) is.stands);
}
