use Rattle.std.proofs.Common.{rules, ◌∙◌, ap, subst, List, sum_by}
use Rattle.std.specs.List.Sorted.{IsPermutation}
use Rattle.std.proofs.lemmas.List.Sorted.{IsNonDecreasingBy-from_sort_by_key, IsPermutation-map, sum_by-IsPermutation}
use Rattle.ooc_buffers.specs.Spots.{Spotted, held_in}
use Rattle.ooc_buffers.proofs.Sorting.{sorted_is}
use Rattle.ooc_buffers.proofs.order.sort.Goals as goal

pub returns-clause-order : goal.returns-clause-order
returns-clause-order c = λ apart.
    let ws = c.sort_unstable_by_key.new.self in
    let moved : IsPermutation c.args.moved.now.items ws = subst (λ (l : List Spotted). IsPermutation l ws) c.make_contiguous.ensures.value c.sort_unstable_by_key.ensures.permutation in
    c.make_contiguous.ensures.writes_back ws (c.sort_unstable_by_key.ensures.len ∙ c.make_contiguous.ensures.len)
    ∙ sorted_is c.args.moved.now.items ws moved
    (IsNonDecreasingBy-from_sort_by_key (λ (e : Spotted). e.0.stamp) ws c.sort_unstable_by_key.ensures.sorted (λ a r q k. search rules)) apart

pub returns-clause-same : goal.returns-clause-same
returns-clause-same c = λ f.
    let ws = c.sort_unstable_by_key.new.self in
    let moved : IsPermutation c.args.moved.now.items ws = subst (λ (l : List Spotted). IsPermutation l ws) c.make_contiguous.ensures.value c.sort_unstable_by_key.ensures.permutation in
    ap (λ (l : List Spotted). sum_by f (held_in l)) (c.make_contiguous.ensures.writes_back ws (c.sort_unstable_by_key.ensures.len ∙ c.make_contiguous.ensures.len))
    ∙ sum_by-IsPermutation f (held_in c.args.moved.now.items) (held_in ws) (IsPermutation-map (λ (e : Spotted). e.1) c.args.moved.now.items ws moved)
