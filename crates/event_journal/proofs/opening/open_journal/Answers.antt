use Rattle.std.proofs.Common.{◌≡◌, ℕ, List, Err, ap, sym, ◌∙◌, subst}
use Rattle.std.proofs.lemmas.Result.{IfOk-weaker}
use Rattle.outside.specs.Disks.{at_rest}
use Rattle.record_file.specs.declared.fault.RecordFault.{RecordFault}
use Rattle.event_journal.specs.Reading.{IsForeign}
use Rattle.event_journal.specs.declared.fault.JournalFault.TheVariants as faults
use Rattle.event_journal.proofs.Faults.{was_fault}
use Rattle.event_journal.proofs.OpeningImages.{kept_read, kept_then, own_events}
use Rattle.event_journal.proofs.opening.open_journal.Goals as goal

pub returns-in-Ok-clause-own : goal.returns-in-Ok-clause-own
returns-in-Ok-clause-own g c = IfOk-weaker c.open_file.result _ _ (λ x own. own_events c.args.me x.1.items own) c.open_file.ensures.own

pub returns-in-Ok-clause-since : goal.returns-in-Ok-clause-since
returns-in-Ok-clause-since g c = λ tells.
    let told = g.D.Disk.told in
    let file_is = c.deref.ensures.value ∙ c.in-Ok.ensures.whole tells in
    let rests = c.in-Ok.ensures.rests tells ∙ ap at_rest (sym c.deref.ensures.value) in
    kept_then c.args.me c.args.head.now c.deref.result.now (told c.args.disk.now) (told c.read_records.new.disk) (told c.open_file.new.disk)
    file_is (c.in-Ok.ensures.since tells) (c.open_file.ensures.since tells rests)

pub returns-in-Ok-clause-foreign : goal.returns-in-Ok-clause-foreign
returns-in-Ok-clause-foreign g c = λ tells p is.
    let file_is = c.deref.ensures.value ∙ c.in-Ok.ensures.whole tells in
    subst (λ (x : List ℕ). IsForeign c.args.head.now x p) file_is (c.open_file.ensures.foreign p is)

pub returns-in-Err-clause-since : goal.returns-in-Err-clause-since
returns-in-Err-clause-since g c = λ tells.
    kept_read c.args.me c.args.head.now (g.D.Disk.told c.args.disk.now) (g.D.Disk.told c.read_records.new.disk) (c.in-Err.ensures.since tells)

pub returns-in-Err-clause-foreign : goal.returns-in-Err-clause-foreign
returns-in-Err-clause-foreign g c = λ tells p is.
    let same : c.from.result ≡ faults.Foreign p = cc is in
    absurd ((c.in-Err.ensures.others p).0 (ap (λ (x : RecordFault). Err x) (was_fault c.in-Err.fault c.from.result (faults.Foreign p) c.from.ensures same)))

pub returns-in-Err-clause-broken : goal.returns-in-Err-clause-broken
returns-in-Err-clause-broken g c = λ tells p is.
    let same : c.from.result ≡ faults.Broken p = cc is in
    absurd ((c.in-Err.ensures.others p).1 (ap (λ (x : RecordFault). Err x) (was_fault c.in-Err.fault c.from.result (faults.Broken p) c.from.ensures same)))
