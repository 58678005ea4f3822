use Rattle.ordered_rounds.proofs.Backed.{IsTaking}
use Rattle.ordered_rounds.proofs.backing.with_backers.Given as goal

abbrev pub invariant-loop-id : goal.invariant-loop-id
invariant-loop-id l = record {
  can : (goal.iterator-loop-id).can_next l.id-iterator;
  finite : (goal.iterator-loop-id).is_finite l.id-iterator;
  taking : IsTaking l.noted l.least l.ids.items l.id-iterator;
}
