use Rattle.std.proofs.Common.{rules, ◌≡◌, ◌∙◌, ◌/◌, ◌<◌, sym, ap, ap₂, subst, refl, List, [], ◌++◌, reverse, replicate, append-nil}
use Rattle.std.specs.List.{AllByRecursion}
use Rattle.ritas_base.specs.declared.id.Id.{Id}
use Rattle.ordered_rounds.specs.Identifiers.{first_of_each}
use Rattle.ordered_rounds.specs.Pending.{CountsOrigins}
use Rattle.ordered_rounds.proofs.Pending.{keys_in_order, keys_all, none_counted}
use Rattle.ordered_rounds.proofs.proposal.proposal.Goals as goal

pub loop-id-init : goal.loop-id-init
loop-id-init c =
    let rest : c.into_iter-id-iterator.result ≡ c.args.pending.now.keys = search rules in
    let none : c.new-taken.result.items ≡ [] = c.new-taken.ensures.items in
    record {
      can = tt;
      finite = tt;
      counted = subst (λ (l : List Id). CountsOrigins (replicate 31 0) (reverse l)) (sym none) (none_counted (replicate 31 0) refl);
      origins = λ all. subst (λ (l : List Id). AllByRecursion (λ x. x.origin < 31) l) (sym rest) all;
      taken = λ all. ap₂ (λ (t : List Id) (l : List Id). t ++ first_of_each (64 / c.args.n) (reverse t) l) none rest;
    }

pub returns : goal.returns
returns c = λ ids holds all.
    let rest : c.loop-id.id-iterator ≡ [] = search rules in
    let keys = keys_in_order c.args.pending.now ids c.iter-id-items.ensures.ordered holds in
    sym (append-nil c.loop-id.taken.items)
    ∙ (ap (λ (l : List Id). c.loop-id.taken.items ++ first_of_each (64 / c.args.n) (reverse c.loop-id.taken.items) l) (sym rest)
    ∙ (c.loop-id.invariant.taken (keys_all (λ x. x.origin < 31) c.args.pending.now ids holds all) ∙ ap (λ (l : List Id). first_of_each (64 / c.args.n) [] l) keys))
