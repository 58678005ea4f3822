use Rattle.std.proofs.Common.{◌∙◌}
use Rattle.world_model.specs.MadeOrder.{all_made}
use Rattle.world_model.proofs.Ordered.{made_is}
use Rattle.world_model.proofs.world.World.made.Goals as goal

pub returns-clause-is : goal.returns-clause-is
returns-clause-is g c = λ w es stand. c.made.ensures ∙ made_is c.args.self.now.made (all_made w es) c.args.at stand.order

pub returns-clause-stopped : goal.returns-clause-stopped
returns-clause-stopped g c = λ w es e stand. c.made.ensures ∙ made_is c.args.self.now.made (all_made w es) c.args.at stand.order
