use Rattle.std.proofs.Common.{subst, sym, ap, ◌∙◌}
use Rattle.std.specs.FinMap.{insert, get}
use Rattle.instance_tree.specs.Keys.{AreApart}
use Rattle.instance_tree.proofs.Spots.{map_of, push_keeps_apart, push_inserts}
use Rattle.instance_tree.proofs.bucket.Bucket.insert.Goals as goal

pub invariant_of-self-2 : goal.invariant_of-self-2
invariant_of-self-2 c =
    let es = c.self.inside.spots.items in
    subst AreApart (sym c.in_ok-push.ensures.items)
    (push_keeps_apart es c.args.slot c.args.key (ap (λ m. get m c.args.slot) c.self.view_is ∙ c.requires) c.self.invariant)

pub returns-clause-ok : goal.returns-clause-ok
returns-clause-ok c =
    let es = c.self.inside.spots.items in
    ap map_of c.in_ok-push.ensures.items
    ∙ push_inserts es c.args.slot c.args.key (ap (λ m. get m c.args.slot) c.self.view_is ∙ c.requires)
    ∙ ap (λ m. insert m c.args.slot c.args.key) c.self.view_is
