use Rattle.std.proofs.Common.{take}
use Rattle.std.specs.List.{All}
use Rattle.event_journal.specs.Journal.{IsRecord}
use Rattle.node_loop.proofs.archive.takes_all.Given as goal

abbrev pub invariant-loop-event : goal.invariant-loop-event
invariant-loop-event l = All (IsRecord l.journal.me) (take l.event-index l.events)
