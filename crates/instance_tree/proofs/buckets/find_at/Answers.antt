use Rattle.std.proofs.Common.{sym, ◌∙◌}
use Rattle.std.proofs.lemmas.Bool.{ltb-false}
use Rattle.instance_tree.proofs.Joined.{nothing_past}
use Rattle.instance_tree.proofs.buckets.find_at.Goals as goal

pub returns-in_err-bucket : goal.returns-in_err-bucket
returns-in_err-bucket c =
    c.from_residual.ensures
    ∙ sym (nothing_past c.args.buckets.now c.args.place c.args.slot.now (ltb-false _ _ (sym c.in_err-bucket.ensures.lookup.0)))
