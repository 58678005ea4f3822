use Rattle.std.proofs.Common.{◌≡◌, Err, ℕ, List, inl, ap, ◌∙◌, sym, subst}
use Rattle.outside.specs.Disks.{MayLeave, at_rest, disk_state_of}
use Rattle.outside.specs.DisksLaws.{leaves_weaker}
use Rattle.record_file.specs.Making.{OpensAsKept}
use Rattle.record_file.specs.Reading.{IsForeign}
use Rattle.record_file.specs.declared.fault.RecordFault.{RecordFault}
use Rattle.record_file.specs.declared.fault.RecordFault.TheVariants as faults
use Rattle.record_file.proofs.MadeImages.{kept_since}
use Rattle.record_file.proofs.opening.open_records.Goals as goal

pub returns-in-Ok-open_read-clause-since : goal.returns-in-Ok-open_read-clause-since
returns-in-Ok-open_read-clause-since g c = λ tells.
    let told = g.D.Disk.told in
    let file_is = c.deref.ensures.value ∙ c.in-Ok.ensures.whole tells in
    let rests = c.in-Ok.ensures.rests tells ∙ ap at_rest (sym c.deref.ensures.value) in
    kept_since c.args.form.now c.args.head.now c.deref.result.now (told c.args.disk.now) (told c.read_records.new.disk) (told c.open_read.new.disk)
    file_is (c.in-Ok.ensures.since tells) (c.open_read.ensures.since tells rests)

pub returns-in-Err-open_read-clause-since : goal.returns-in-Err-open_read-clause-since
returns-in-Err-open_read-clause-since g c = λ tells.
    let told = g.D.Disk.told in
    let file_is = c.deref.ensures.value ∙ c.in-Ok.ensures.whole tells in
    let rests = c.in-Ok.ensures.rests tells ∙ ap at_rest (sym c.deref.ensures.value) in
    kept_since c.args.form.now c.args.head.now c.deref.result.now (told c.args.disk.now) (told c.read_records.new.disk) (told c.open_read.new.disk)
    file_is (c.in-Ok.ensures.since tells) (c.open_read.ensures.since tells rests)

pub returns-in-Err-open_read-clause-foreign : goal.returns-in-Err-open_read-clause-foreign
returns-in-Err-open_read-clause-foreign g c = λ tells p is.
    let same : c.in-Err-open_read.fault ≡ faults.Foreign p = cc is in
    let file_is = c.deref.ensures.value ∙ c.in-Ok.ensures.whole tells in
    subst (λ (x : List ℕ). IsForeign c.args.form.now c.args.head.now x p) file_is (c.in-Err-open_read.ensures.foreign p (ap (λ (x : RecordFault). Err x) same))

pub returns-in-Err-open_read-clause-full : goal.returns-in-Err-open_read-clause-full
returns-in-Err-open_read-clause-full g c = λ x is.
    let same : c.in-Err-open_read.fault ≡ faults.Full x = cc is in
    absurd ((c.in-Err-open_read.ensures.others x).0 (ap (λ (y : RecordFault). Err y) same))

pub returns-in-Err-open_read-clause-memory : goal.returns-in-Err-open_read-clause-memory
returns-in-Err-open_read-clause-memory g c = λ tells is.
    let same : c.in-Err-open_read.fault ≡ faults.Mem = cc is in
    absurd ((c.in-Err-open_read.ensures.others 0).1 (ap (λ (y : RecordFault). Err y) same))

pub returns-in-Err-clause-since : goal.returns-in-Err-clause-since
returns-in-Err-clause-since g c = λ tells.
    let told = g.D.Disk.told in
    let s = disk_state_of (told c.args.disk.now) in
    leaves_weaker (MayLeave s) (OpensAsKept c.args.form.now c.args.head.now s) (told c.args.disk.now) (told c.read_records.new.disk) (λ image may. inl may) (c.in-Err.ensures.since tells)

pub returns-in-Err-clause-foreign : goal.returns-in-Err-clause-foreign
returns-in-Err-clause-foreign g c = λ tells p is.
    let same : c.in-Err.fault ≡ faults.Foreign p = cc is in
    absurd ((c.in-Err.ensures.others p).0 (ap (λ (x : RecordFault). Err x) same))

pub returns-in-Err-clause-broken : goal.returns-in-Err-clause-broken
returns-in-Err-clause-broken g c = λ tells p is.
    let same : c.in-Err.fault ≡ faults.Broken p = cc is in
    absurd ((c.in-Err.ensures.others p).1 (ap (λ (x : RecordFault). Err x) same))
