use Rattle.std.proofs.Common.{◌≡◌, List, drop}
use Rattle.std.specs.List.{AllByRecursion}
use Rattle.ritas_base.specs.declared.id.Id.{Id}
use Rattle.ordered_rounds.specs.Identifiers.{IsSorted}
use Rattle.ordered_rounds.specs.Ledger.{LedgerStands, IsReady, at_bases}
use Rattle.ordered_rounds.proofs.LedgerSteps.{IsAppending}
use Rattle.ordered_rounds.proofs.ledger.Ledger.append_new.Given as goal

abbrev pub invariant-loop-id : goal.invariant-loop-id
invariant-loop-id l = record {
  shown : l.self.bases ≡ l.initial.self.bases;
  did : (delivered log : List Id) → AllByRecursion (IsReady delivered) l.wanted → IsSorted l.wanted → LedgerStands l.initial.self delivered log
      → IsAppending (at_bases l.self l.bases) delivered log l.wanted (drop l.id-index l.wanted);
}
