use Rattle.std.proofs.Common.{ℕ, List}
use Rattle.ritas_base.specs.Numbers.{Numbers}
use Rattle.outside.specs.Links.{LinkAct}
use Rattle.outside.specs.declared.link.FaultCounts.{FaultCounts}
use Rattle.log_watch.specs.Waiting.{AwaitsRows}
use Rattle.log_watch.proofs.watching.await_rows.Given as goal

abbrev pub invariant-loop : goal.invariant-loop
invariant-loop g l = record {
  next : (goal.iterator-loop g).can_next l.iterator';
  finite : (goal.iterator-loop g).is_finite l.iterator';
  waits : (p : Numbers) (nodes : List (List ℕ)) (base : List LinkAct) (before : FaultCounts)
      → AwaitsRows p nodes l.until g.L.Link.tells base (g.L.Link.told l.initial.link) before (g.L.Link.faults l.initial.link) l.initial.observer
      → AwaitsRows p nodes l.until g.L.Link.tells base (g.L.Link.told l.link) before (g.L.Link.faults l.link) l.observer;
}
