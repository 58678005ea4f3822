use Rattle.ordered_rounds.specs.Early.{has_early}
use Rattle.ordered_rounds.proofs.Ids.{without_id}
use Rattle.std.proofs.Common.{◌∙◌}
use Rattle.ordered_rounds.proofs.early.take_early.Goals as goal

pub returns-clause-rest : goal.returns-clause-rest
returns-clause-rest c = λ o k.
    c.remove.ensures.updates.0 (record { origin = o; num = k }) ∙ without_id c.args.origin c.args.num o k (has_early c.args.early.now o k)
