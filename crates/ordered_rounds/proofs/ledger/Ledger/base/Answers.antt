use Rattle.std.proofs.Common.{◌≡◌, ◌∙◌, rules}
use Rattle.std.specs.Prelude.{slice_index}
use Rattle.ordered_rounds.proofs.LedgerSteps.{ledger_base}
use Rattle.ordered_rounds.proofs.ledger.Ledger.base.Goals as goal

pub returns-clause-least : goal.returns-clause-least
returns-clause-least c = λ delivered log stands within.
    let kept : c.unwrap_or.result ≡ slice_index c.args.self.now.bases c.args.origin = search rules in
    kept ∙ ledger_base c.args.self.now delivered log c.args.origin stands within
