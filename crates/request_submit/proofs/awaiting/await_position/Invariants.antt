use Rattle.std.proofs.Common.{ℕ, List}
use Rattle.outside.specs.Links.{LinkAct}
use Rattle.outside.specs.declared.link.FaultCounts.{FaultCounts}
use Rattle.client_port.specs.Votes.{Wanted}
use Rattle.request_submit.specs.Waiting.{Waits}
use Rattle.request_submit.proofs.awaiting.await_position.Given as goal

abbrev pub invariant-loop : goal.invariant-loop
invariant-loop g l = record {
  next : (goal.iterator-loop g).can_next l.iterator';
  finite : (goal.iterator-loop g).is_finite l.iterator';
  waits : (w : Wanted) (nodes : List (List ℕ)) (payload : List ℕ) (base : List LinkAct) (before : FaultCounts)
      → Waits w nodes payload g.L.Link.tells base (g.L.Link.told l.initial.link) before (g.L.Link.faults l.initial.link) l.initial.votes
      → Waits w nodes payload g.L.Link.tells base (g.L.Link.told l.link) before (g.L.Link.faults l.link) l.votes;
}
