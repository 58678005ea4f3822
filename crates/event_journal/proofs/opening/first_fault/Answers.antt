use Rattle.std.proofs.Common.{◌≡◌, Err, reverse, ap, sym, ◌∙◌, arith}
use Rattle.ritas_base.specs.Bytes.{IsBytes}
use Rattle.record_file.specs.declared.fault.RecordFault.TheVariants as record_faults
use Rattle.event_journal.specs.EventRecords.{journal_fault}
use Rattle.event_journal.specs.declared.fault.JournalFault.{JournalFault}
use Rattle.event_journal.specs.declared.fault.JournalFault.TheVariants as faults
use Rattle.event_journal.proofs.Faults.{was_fault}
use Rattle.event_journal.proofs.OpeningImages.{head_in}
use Rattle.event_journal.proofs.Readings.{broken_event, broken_record, foreign_event}
use Rattle.event_journal.proofs.opening.first_fault.Goals as goal

pub returns-in_default-clause-foreign : goal.returns-in_default-clause-foreign
returns-in_default-clause-foreign c = λ p same. foreign_event c.args.me c.args.head.now c.args.file.now p (c.requires.foreign p (was_fault c.args.fault c.from.result (faults.Foreign p) c.from.ensures same))

pub returns-in_default-clause-broken : goal.returns-in_default-clause-broken
returns-in_default-clause-broken c = λ p same. absurd (c.in_default.not-Broken p (was_fault c.args.fault c.from.result (faults.Broken p) c.from.ensures same))

pub returns-in_default-clause-full : goal.returns-in_default-clause-full
returns-in_default-clause-full c = λ p same. (c.requires.others p).0 (was_fault c.args.fault c.from.result (faults.Full p) c.from.ensures same)

pub returns-in_default-clause-memory : goal.returns-in_default-clause-memory
returns-in_default-clause-memory c = λ same. absurd ((c.requires.others 0).1 (was_fault c.args.fault c.from.result faults.Mem c.from.ensures same))

pub returns-in_default-clause-disk : goal.returns-in_default-clause-disk
returns-in_default-clause-disk c = (
  λ same. was_fault c.args.fault c.from.result faults.Disk c.from.ensures same,
  λ same. c.from.ensures ∙ ap journal_fault same,
)

pub returns-in-Ok-clause-broken : goal.returns-in-Ok-clause-broken
returns-in-Ok-clause-broken c = λ p is.
    let file = c.args.file.now in
    let fits : IsBytes file = λ i. omega (arith, c.type_inv.file i) in
    let same : c.in-Broken.at ≡ p = cc is in
    let found : c.args.fault ≡ record_faults.Broken p = c.in-Broken.is ∙ ap record_faults.Broken same in
    broken_record c.args.me c.args.head.now file c.told-head (reverse c.in-Ok._events.items) p fits c.in-Ok.ensures.own c.in-Ok.ensures.all (c.requires.broken p found)

pub returns-in-Err-clause-foreign : goal.returns-in-Err-clause-foreign
returns-in-Err-clause-foreign c = λ p same. absurd ((c.in-Err.ensures.others p).0 (ap (λ (x : JournalFault). Err x) same))

pub returns-in-Err-clause-broken : goal.returns-in-Err-clause-broken
returns-in-Err-clause-broken c = λ p same.
    let head = c.args.head.now in
    let file = c.args.file.now in
    let fits : IsBytes file = λ i. omega (arith, c.type_inv.file i) in
    let b = c.requires.broken c.in-Broken.at c.in-Broken.is in
    let there = head_in head file b.rs 1 b.rest c.told-head b.text in
    broken_event c.args.me head file c.told-head p fits c.requires.short there.same there.more (c.in-Err.ensures.broken p (ap (λ (x : JournalFault). Err x) same))

pub returns-in-Err-clause-full : goal.returns-in-Err-clause-full
returns-in-Err-clause-full c = λ p same. (c.in-Err.ensures.others p).1 (ap (λ (x : JournalFault). Err x) same)

pub returns-in-Err-clause-disk : goal.returns-in-Err-clause-disk
returns-in-Err-clause-disk c = (
  λ same. absurd ((c.in-Err.ensures.others 0).2 (ap (λ (x : JournalFault). Err x) same)),
  λ same. let clash : record_faults.Broken c.in-Broken.at ≡ record_faults.Disk = sym c.in-Broken.is ∙ same in absurd (cc clash),
)
