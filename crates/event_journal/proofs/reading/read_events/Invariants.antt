use Rattle.std.proofs.Common.{◌≡◌, ◌-◌, length, reverse}
use Rattle.std.specs.List.{AllByRecursion}
use Rattle.record_file.specs.Reading.{AtGate}
use Rattle.event_journal.specs.Journal.{IsRecord}
use Rattle.event_journal.specs.EventRecords.{event_texts, journal_form}
use Rattle.event_journal.proofs.reading.read_events.Given as goal

abbrev pub invariant-loop-text : goal.invariant-loop-text
invariant-loop-text l = record {
  form : l.form ≡ journal_form;
  own : AllByRecursion (IsRecord l.me) (reverse l.events.items);
  here : AtGate journal_form l.file l.at (event_texts (reverse l.events.items));
}

abbrev pub decreases-loop-text : goal.decreases-loop-text
decreases-loop-text l = length l.file - l.at
