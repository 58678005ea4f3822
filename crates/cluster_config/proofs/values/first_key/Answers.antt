use Rattle.std.proofs.Common.{◌∙◌}
use Rattle.cluster_config.proofs.KeyRows.{taken, dropped}
use Rattle.cluster_config.proofs.values.first_key.Goals as goal

pub returns-clause-digits : goal.returns-clause-digits
returns-clause-digits c = c.split_at.ensures.front ∙ taken c.args.text.now c.min.result c.min.ensures

pub returns-clause-rest : goal.returns-clause-rest
returns-clause-rest c = c.split_at.ensures.back ∙ dropped c.args.text.now c.min.result c.min.ensures
