use Rattle.std.proofs.Common.{◌≡◌, reverse, Some, None, sym}
use Rattle.record_file.specs.Reading.{record_at}
use Rattle.event_journal.specs.EventRecords.{IsReadAs, journal_form}
use Rattle.event_journal.proofs.reading.read_events.Goals as goal

pub returns-in-None-clause-broken : goal.returns-in-None-clause-broken
returns-in-None-clause-broken c = λ p is.
    let same : p ≡ c.loop-text.at = cc (sym is) in
    let inv = c.loop-text.invariant in
    let text = c.in-Some.text.now in
    let found : record_at journal_form c.args.file.now c.loop-text.at ≡ Some text = rw c.journal_form-form.ensures at c.in-Some.ensures.exact.0 in
    let none : IsReadAs c.args.me text None = rw c.in-None.is at c.in_ok-event.ensures in
    rw same (record { es = reverse c.loop-text.events.items; each = inv.own; here = inv.here; text = text; found = found; none = none })
