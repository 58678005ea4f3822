use Rattle.ordered_rounds.proofs.LedgerSteps.{append_stands}
use Rattle.ordered_rounds.proofs.ledger.Ledger.append.Goals as goal

pub returns-clause-ok : goal.returns-clause-ok
returns-clause-ok c = λ delivered log has stands.
    append_stands _ _ c.args.id delivered log c.requires.origin c.requires.number has c.remove.ensures.updates.0 c.in_ok-note.ensures c.in_ok-push.ensures.items stands
