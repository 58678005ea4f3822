use Rattle.std.proofs.Common.{◌∷◌}
use Rattle.instance_tree.specs.Places.{place_in_origin}
use Rattle.instance_tree.proofs.Joined.{all_empty, nothing_at, placed_nothing}
use Rattle.instance_tree.proofs.origin.Origin.new.Goals as goal

pub invariant_of-result : goal.invariant_of-result
invariant_of-result c =
    placed_nothing (place_in_origin c.args.span) (c.new.result ∷ c.new-2.result.items) (nothing_at c.new.result c.new-2.result.items c.new.ensures c.new-2.ensures.items)

pub returns : goal.returns
returns c = all_empty (c.new.result ∷ c.new-2.result.items) (nothing_at c.new.result c.new-2.result.items c.new.ensures c.new-2.ensures.items)
