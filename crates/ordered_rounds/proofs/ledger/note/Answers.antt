use Rattle.ordered_rounds.specs.Laws.EarlyCommands.{notes_early}
use Rattle.ordered_rounds.proofs.ledger.note.Goals as goal

pub returns-in_ok-put_early : goal.returns-in_ok-put_early
returns-in_ok-put_early c = notes_early _ _ _ _ _ _ c.in_ok-put_early.ensures.put c.if-id-base-2.true c.requires.number
