use Rattle.std.proofs.Common.{◌≡◌, Err, ◌++◌, [], length, inl, suc, ap, arith, rules, length-append, refl}
use Rattle.record_file.specs.Records.{IsUnmade}
use Rattle.record_file.specs.Appending.{FileState}
use Rattle.record_file.specs.Reading.{records_read}
use Rattle.record_file.specs.declared.fault.RecordFault.{RecordFault}
use Rattle.record_file.specs.declared.fault.RecordFault.TheVariants as faults
use Rattle.record_file.proofs.MadeImages.{like_since, opens_empty}
use Rattle.record_file.proofs.Walking.{none_unmade}
use Rattle.record_file.proofs.opening.open_read.Goals as goal

pub returns-in-Ok-clause-opened : goal.returns-in-Ok-clause-opened
returns-in-Ok-clause-opened g c = λ tells rests.
    let form = c.args.form.now in
    let head = c.args.head.now in
    let file = c.args.file.now in
    let unmade : IsUnmade form file = search rules in
    let made = c.in-Ok.ensures.made tells form c.first_gate-first.ensures.form c.requires.head unmade c.requires.short rests in
    let end : c.at.result.end ≡ suc (length (head ++ [])) = omega (arith, ap (λ (f : FileState). f.end) c.at.ensures, c.first_gate-first.ensures.value, c.requires.head, length-append head []) in
    opens_empty form head (g.D.Disk.told c.make.new.disk) c.at.result (records_read form file) (none_unmade form file unmade) end made.images

pub returns-in-Ok-clause-gives : goal.returns-in-Ok-clause-gives
returns-in-Ok-clause-gives g c =
    let form = c.args.form.now in
    let file = c.args.file.now in
    let unmade : IsUnmade form file = search rules in
    inl (unmade, c.requires.short, none_unmade form file unmade)

pub returns-in-Ok-clause-since : goal.returns-in-Ok-clause-since
returns-in-Ok-clause-since g c = λ tells rests.
    let form = c.args.form.now in
    let head = c.args.head.now in
    let file = c.args.file.now in
    let unmade : IsUnmade form file = search rules in
    let made = c.in-Ok.ensures.made tells form c.first_gate-first.ensures.form c.requires.head unmade c.requires.short rests in
    like_since form head file _ _ unmade c.requires.short made.since

pub returns-in-Err-clause-since : goal.returns-in-Err-clause-since
returns-in-Err-clause-since g c = λ tells rests.
    let form = c.args.form.now in
    let head = c.args.head.now in
    let file = c.args.file.now in
    let unmade : IsUnmade form file = search rules in
    let made = c.in-Err.ensures.made tells form c.first_gate-first.ensures.form c.requires.head unmade c.requires.short rests in
    like_since form head file _ _ unmade c.requires.short made.since

pub returns-in-Err-decode-clause-foreign : goal.returns-in-Err-decode-clause-foreign
returns-in-Err-decode-clause-foreign g c = λ p is.
    let same : c.in-Err-decode.fault ≡ faults.Foreign p = cc is in
    c.in-Err-decode.ensures.foreign p (ap (λ (x : RecordFault). Err x) same)

pub returns-in-Err-decode-clause-others : goal.returns-in-Err-decode-clause-others
returns-in-Err-decode-clause-others g c = λ p.
    let others = c.in-Err-decode.ensures.others p in (
      λ is. let same : c.in-Err-decode.fault ≡ faults.Full p = cc is in others.0 (ap (λ (x : RecordFault). Err x) same),
      λ is. let same : c.in-Err-decode.fault ≡ faults.Mem = cc is in others.2 (ap (λ (x : RecordFault). Err x) same),
    )

pub returns-in-Err-decode-clause-cause : goal.returns-in-Err-decode-clause-cause
returns-in-Err-decode-clause-cause g c = record {
  later = omega arith;
  cause = λ is. let same : c.in-Err-decode.fault ≡ faults.Disk = cc is in absurd ((c.in-Err-decode.ensures.others 0).1 (ap (λ (x : RecordFault). Err x) same));
}

pub returns-in-Err-decode-clause-counts : goal.returns-in-Err-decode-clause-counts
returns-in-Err-decode-clause-counts g c = record {
  stands = tt;
  rises = λ is. let same : c.in-Err-decode.fault ≡ faults.Disk = cc is in absurd ((c.in-Err-decode.ensures.others 0).1 (ap (λ (x : RecordFault). Err x) same));
  others = λ not. refl;
}
