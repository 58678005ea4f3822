use Rattle.ordered_rounds.specs.Early.{has_early}
use Rattle.ordered_rounds.proofs.Ids.{with_id}
use Rattle.std.proofs.Common.{◌∙◌}
use Rattle.ordered_rounds.proofs.early.put_early.Goals as goal

pub returns : goal.returns
returns c = record {
  put = λ o k.
      c.in_ok-insert.ensures.updates.0 (record { origin = o; num = k })
      ∙ with_id c.args.origin c.args.num o k (has_early c.args.early.now o k);
}
