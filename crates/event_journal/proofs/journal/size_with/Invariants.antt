use Rattle.std.proofs.Common.{◌≡◌, ◌+◌, ◌-◌, ◌^◌, length, min, take}
use Rattle.std.specs.List.{flat_map}
use Rattle.event_journal.specs.Journal.{record_text}
use Rattle.event_journal.proofs.journal.size_with.Given as goal

abbrev pub invariant-loop-ev : goal.invariant-loop-ev
invariant-loop-ev l = l.size ≡ min (l.front + length (flat_map record_text (take l.ev-index l.events))) (2 ^ 64 - 1)
