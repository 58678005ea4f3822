use Rattle.std.proofs.Common.{◌≡◌, take}
use Rattle.std.specs.List.{flat_map}
use Rattle.event_journal.specs.Journal.{record_text}
use Rattle.event_journal.proofs.journal.fill.Given as goal

abbrev pub invariant-loop-ev : goal.invariant-loop-ev
invariant-loop-ev l = l.text.taken ≡ flat_map record_text (take l.ev-index l.events)
