use Rattle.std.proofs.Common.{◌≡◌, List, drop}
use Rattle.ritas_base.specs.declared.id.Id.{Id}
use Rattle.layer_api.specs.Service.{has_id}
use Rattle.ordered_rounds.specs.Identifiers.{all_pass}
use Rattle.ordered_rounds.specs.Ledger.{LedgerStands}
use Rattle.ordered_rounds.proofs.ledger.Ledger.has_all.Given as goal

abbrev pub invariant-loop-id : goal.invariant-loop-id
invariant-loop-id l = (delivered log : List Id) → LedgerStands l.self delivered log → all_pass (has_id delivered) (drop l.id-index l.wanted) ≡ all_pass (has_id delivered) l.wanted
