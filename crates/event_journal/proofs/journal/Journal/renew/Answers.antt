use Rattle.std.proofs.Common.{◌≡◌, [], Err, ap, sym, subst}
use Rattle.std.proofs.lemmas.Result.{IfOk-from_err}
use Rattle.outside.specs.Disks.{LeavesOnly, disk_state_of}
use Rattle.record_file.specs.Form.{Form}
use Rattle.record_file.specs.Appending as appended
use Rattle.record_file.specs.Making.{OpensOver}
use Rattle.record_file.specs.declared.fault.RecordFault.{RecordFault}
use Rattle.event_journal.specs.EventRecords.{event_texts}
use Rattle.event_journal.specs.declared.fault.JournalFault.{JournalFault}
use Rattle.event_journal.specs.declared.fault.JournalFault.TheVariants as faults
use Rattle.event_journal.proofs.EventTexts.{all_events, all_own, all_texts, renewed_since}
use Rattle.event_journal.proofs.Faults.{from_fault}
use Rattle.event_journal.proofs.journal.Journal.renew.Goals as goal

pub returns-in_err-renew-clause-renewed : goal.returns-in_err-renew-clause-renewed
returns-in_err-renew-clause-renewed g c = λ tells head es were.
    let told = g.D.Disk.told in
    let old = told c.args.disk.now in
    let new = told c.renew.new.disk in
    let is = c.self.invariant.0 in
    let me = c.args.self.now.me in
    let next = c.args.head.now in
    let texts = event_texts es in
    let open_there = subst (λ (f : Form). appended.AllOpen f head texts (disk_state_of old)) (sym is) (all_texts me head es (disk_state_of old) were) in
    let done = c.in_err-renew.ensures.renewed tells head texts open_there in
    let failed = c.from_residual.ensures.0 in
    record {
      images = IfOk-from_err c.from_residual.result _ failed;
      since = renewed_since me head next es old new (all_own me head es (disk_state_of old) were) (subst (λ (f : Form). LeavesOnly (OpensOver f head next texts) old new) is done.since);
    }

pub returns-in_err-renew-clause-others : goal.returns-in_err-renew-clause-others
returns-in_err-renew-clause-others g c = λ p.
    let was = λ (one : JournalFault) (same : c.from_residual.result ≡ Err one). from_fault c.from_residual.result c.in_err-renew.field-0.0 one c.from_residual.ensures.1 same in
    let others = c.in_err-renew.ensures.others p in (
      λ same. others.0 (ap (λ (x : RecordFault). Err x) (was (faults.Foreign p) same)),
      λ same. others.1 (ap (λ (x : RecordFault). Err x) (was (faults.Broken p) same)),
      λ same. others.2 (ap (λ (x : RecordFault). Err x) (was (faults.Full p) same)),
      λ same. others.3 (ap (λ (x : RecordFault). Err x) (was faults.Mem same)),
    )

pub returns-clause-renewed : goal.returns-clause-renewed
returns-clause-renewed g c = λ tells head es were.
    let told = g.D.Disk.told in
    let old = told c.args.disk.now in
    let new = told c.renew.new.disk in
    let is = c.self.invariant.0 in
    let me = c.args.self.now.me in
    let next = c.args.head.now in
    let texts = event_texts es in
    let open_there = subst (λ (f : Form). appended.AllOpen f head texts (disk_state_of old)) (sym is) (all_texts me head es (disk_state_of old) were) in
    let done = c.in_ok-renew.ensures.renewed tells head texts open_there in
    record {
      images = all_events me next [] (disk_state_of new) tt (subst (λ (f : Form). appended.AllOpen f next [] (disk_state_of new)) is done.images);
      since = renewed_since me head next es old new (all_own me head es (disk_state_of old) were) (subst (λ (f : Form). LeavesOnly (OpensOver f head next texts) old new) is done.since);
    }
