use Rattle.ordered_rounds.specs.Laws.EarlyCommands.{notes_early}
use Rattle.atomic_bcast.proofs.cmd_root.CmdRoot.note.Goals as goal

pub returns-in_ok-put_early-clause-noted : goal.returns-in_ok-put_early-clause-noted
returns-in_ok-put_early-clause-noted c = notes_early _ _ _ _ _ _ c.in_ok-put_early.ensures.put c.if-num-base-2.true c.if-num-ge-NUMBER_LIMIT.false
