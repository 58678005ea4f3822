use Rattle.std.proofs.Common.{◌≡◌, Err, reverse, ap, subst, arith}
use Rattle.ritas_base.specs.Bytes.{IsBytes}
use Rattle.record_file.specs.Form.{Form}
use Rattle.record_file.specs.Records as file
use Rattle.record_file.specs.Reading as reading
use Rattle.record_file.specs.declared.fault.RecordFault.{RecordFault}
use Rattle.event_journal.specs.Appending.{JournalState}
use Rattle.event_journal.specs.EventRecords.{journal_form}
use Rattle.event_journal.specs.declared.fault.JournalFault.{JournalFault}
use Rattle.event_journal.specs.declared.fault.JournalFault.TheVariants as faults
use Rattle.event_journal.proofs.OpeningImages.{made_there, opens_as, opens_journal}
use Rattle.event_journal.proofs.Readings.{broken_event}
use Rattle.event_journal.proofs.opening.open_file.Goals as goal

pub first_fault-requires-clause-foreign : goal.first_fault-requires-clause-foreign
first_fault-requires-clause-foreign g c = λ p same.
    subst (λ (f : Form). reading.IsForeign f c.args.head.now c.args.file.now p) c.journal_form.ensures (c.in-Err.ensures.foreign p (ap (λ (x : RecordFault). Err x) same))

pub first_fault-requires-clause-others : goal.first_fault-requires-clause-others
first_fault-requires-clause-others g c = λ p.
    let others = c.in-Err.ensures.others p in (
      λ same. others.0 (ap (λ (x : RecordFault). Err x) same),
      λ same. others.1 (ap (λ (x : RecordFault). Err x) same),
    )

pub returns-in-Ok-read_events-clause-opened : goal.returns-in-Ok-read_events-clause-opened
returns-in-Ok-read_events-clause-opened g c = λ tells rests.
    let read = c.in-Ok-read_events in
    opens_journal c.journal_form.result c.journal_form.ensures c.args.me c.args.head.now c.args.file.now (reverse read.events.items) read.ensures.own read.ensures.all
    (g.D.Disk.told c.open_read.new.disk) c.in-Ok.opened c.at.result c.in-Ok.ensures.live.0 (ap (λ (j : JournalState). j.end) c.at.ensures) (c.in-Ok.ensures.opened tells rests)

pub returns-in-Ok-read_events-clause-gives : goal.returns-in-Ok-read_events-clause-gives
returns-in-Ok-read_events-clause-gives g c =
    let read = c.in-Ok-read_events in
    opens_as c.journal_form.result c.journal_form.ensures c.args.me c.args.head.now c.args.file.now (reverse read.events.items) read.ensures.own read.ensures.all c.in-Ok.ensures.gives

pub returns-in-Err-read_events-clause-foreign : goal.returns-in-Err-read_events-clause-foreign
returns-in-Err-read_events-clause-foreign g c = λ p is.
    let same : c.in-Err-read_events.fault ≡ faults.Foreign p = cc is in
    absurd ((c.in-Err-read_events.ensures.others p).0 (ap (λ (x : JournalFault). Err x) same))

pub returns-in-Err-read_events-clause-broken : goal.returns-in-Err-read_events-clause-broken
returns-in-Err-read_events-clause-broken g c = λ p is.
    let head = c.args.head.now in
    let image = c.args.file.now in
    let fits : IsBytes image = λ i. omega (arith, c.type_inv.file i) in
    let same : c.in-Err-read_events.fault ≡ faults.Broken p = cc is in
    let b = c.in-Err-read_events.ensures.broken p (ap (λ (x : JournalFault). Err x) same) in
    let gives = subst (λ (f : Form). file.OpensAs f head image (reading.records_read f image)) c.journal_form.ensures c.in-Ok.ensures.gives in
    let there = made_there c.args.me head image (reading.records_read journal_form image) p c.told-head gives b in
    broken_event c.args.me head image c.told-head p fits c.requires.short there.same there.more b

pub returns-in-Err-read_events-clause-full : goal.returns-in-Err-read_events-clause-full
returns-in-Err-read_events-clause-full g c = λ p is.
    let same : c.in-Err-read_events.fault ≡ faults.Full p = cc is in
    (c.in-Err-read_events.ensures.others p).1 (ap (λ (x : JournalFault). Err x) same)

pub returns-in-Err-read_events-clause-cause : goal.returns-in-Err-read_events-clause-cause
returns-in-Err-read_events-clause-cause g c = record {
  later = c.in-Ok.ensures.cause.later;
  cause = λ is. let same : c.in-Err-read_events.fault ≡ faults.Disk = cc is in absurd ((c.in-Err-read_events.ensures.others 0).2 (ap (λ (x : JournalFault). Err x) same));
}

pub returns-in-Err-read_events-clause-counts : goal.returns-in-Err-read_events-clause-counts
returns-in-Err-read_events-clause-counts g c = record {
  stands = tt;
  rises = λ is. let same : c.in-Err-read_events.fault ≡ faults.Disk = cc is in absurd ((c.in-Err-read_events.ensures.others 0).2 (ap (λ (x : JournalFault). Err x) same));
  others = λ not. c.in-Ok.ensures.counts.stands;
}

pub returns-in-Err-clause-foreign : goal.returns-in-Err-clause-foreign
returns-in-Err-clause-foreign g c = λ p is.
    let same : c.first_fault.result ≡ faults.Foreign p = cc is in
    c.first_fault.ensures.foreign p same
