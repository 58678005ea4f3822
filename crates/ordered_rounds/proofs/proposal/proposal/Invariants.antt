use Rattle.std.proofs.Common.{◌≡◌, ◌<◌, [], ◌++◌, reverse}
use Rattle.std.specs.List.{AllByRecursion}
use Rattle.ordered_rounds.specs.Identifiers.{first_of_each}
use Rattle.ordered_rounds.specs.Pending.{CountsOrigins}
use Rattle.ordered_rounds.proofs.proposal.proposal.Given as goal

abbrev pub invariant-loop-id : goal.invariant-loop-id
invariant-loop-id l = record {
  can : (goal.iterator-loop-id).can_next l.id-iterator;
  finite : (goal.iterator-loop-id).is_finite l.id-iterator;
  counted : CountsOrigins l.counts (reverse l.taken.items);
  origins : AllByRecursion (λ x. x.origin < 31) l.pending.keys → AllByRecursion (λ x. x.origin < 31) l.id-iterator;
  taken : AllByRecursion (λ x. x.origin < 31) l.pending.keys → l.taken.items ++ first_of_each l.most (reverse l.taken.items) l.id-iterator ≡ first_of_each l.most [] l.pending.keys;
}
