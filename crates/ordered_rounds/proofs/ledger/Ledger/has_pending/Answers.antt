use Rattle.ordered_rounds.proofs.LedgerSteps.{pending_test}
use Rattle.ordered_rounds.proofs.ledger.Ledger.has_pending.Goals as goal

pub returns : goal.returns
returns c = λ delivered log stands. pending_test c.args.self.now delivered log c.is_empty.result c.is_empty.ensures stands
