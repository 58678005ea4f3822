use Rattle.std.proofs.Common.{◌≡◌, ◌≤◌, ◌+◌, [], ◌∷◌, ◌++◌, Err, length, min, reverse, ap, sym, ◌∙◌, arith, rules}
use Rattle.std.proofs.lemmas.Result.{IfOk-from_err}
use Rattle.std.specs.List.{flat_map}
use Rattle.outside.specs.Disks.{disk_state_of}
use Rattle.schedule_file.specs.FileBytes.{limit}
use Rattle.record_file.specs.declared.fault.RecordFault.{RecordFault}
use Rattle.event_journal.specs.declared.fault.JournalFault.TheVariants as faults
use Rattle.event_journal.specs.Journal.{record_text}
use Rattle.event_journal.specs.Appending.{JournalState}
use Rattle.event_journal.specs.EventRecords.{event_texts}
use Rattle.event_journal.proofs.EventTexts.{all_own}
use Rattle.event_journal.proofs.Faults.{from_fault}
use Rattle.event_journal.proofs.Groups.{fit_there, group_there, images_here, not_full, not_longer, open_there, since_here, stands_here, stands_there, text_there}
use Rattle.event_journal.proofs.journal.Journal.append_all.Goals as goal

pub append-requires-clause-group : goal.append-requires-clause-group
append-requires-clause-group g c =
    let events = c.args.events.now in
    let text_is : c.taken.result.now ≡ flat_map record_text events ++ 0 ∷ [] = search rules in
    group_there c.self.inside.file.form c.self.invariant.0 c.args.self.now.me events c.requires.own c.taken.result.now text_is

pub returns-in_err-append-clause-kept : goal.returns-in_err-append-clause-kept
returns-in_err-append-clause-kept g c = λ tells head es stands were.
    let told = g.D.Disk.told in
    let old = told c.args.disk.now in
    let form = c.self.inside.file.form in
    let is = c.self.invariant.0 in
    let me = c.args.self.now.me in
    let events = c.args.events.now in
    let own = c.requires.own in
    let text_is : c.taken.result.now ≡ flat_map record_text events ++ 0 ∷ [] = search rules in
    let end_is : c.self.inside.file.end ≡ c.args.self.now.end = ap (λ (j : JournalState). j.end) c.self.view_is in
    let kept = c.in_err-append.ensures.kept tells head (event_texts es) (event_texts (reverse events)) (stands_there form is me events own head es c.self.inside.file.end (end_is ∙ stands))
    (fit_there form is me events own) (text_there form is me events own c.taken.result.now text_is) (open_there form is me events own head es (disk_state_of old) were) in
    let failed = c.from_residual-in_err-append.ensures.0 in
    record {
      stands = IfOk-from_err c.from_residual-in_err-append.result _ failed;
      kept = record {
        images = IfOk-from_err c.from_residual-in_err-append.result _ failed;
        since = since_here form is me events own head es (all_own me head es (disk_state_of old) were) old (told c.append.new.disk) kept.kept.since;
      };
    }

pub returns-in_err-append-clause-full : goal.returns-in_err-append-clause-full
returns-in_err-append-clause-full g c = λ x.
    let events = c.args.events.now in
    let text_is : c.taken.result.now ≡ flat_map record_text events ++ 0 ∷ [] = search rules in
    let end_is : c.self.inside.file.end ≡ c.args.self.now.end = ap (λ (j : JournalState). j.end) c.self.view_is in
    let le : c.size_with-size.result ≤ limit = omega (arith, c.if-size.false) in
    let size_is : c.size_with-size.result ≡ min (c.self.inside.file.end + 1 + length (flat_map record_text events)) 18446744073709551615 = search rules in
    let never = not_full c.self.inside.file.form c.self.invariant.0 c.args.self.now.me events c.requires.own c.self.inside.file.end c.size_with-size.result x c.taken.result.now text_is size_is le in
    let longer = not_longer c.self.inside.file.form c.self.invariant.0 c.args.self.now.me events c.requires.own c.args.self.now.end c.size_with-size.result x (rw (sym end_is) size_is) le in (
      λ same. absurd (never ((c.in_err-append.ensures.full x).0 (ap (λ (y : RecordFault). Err y) (from_fault c.from_residual-in_err-append.result c.in_err-append.field-0.0 (faults.Full x) c.from_residual-in_err-append.ensures.1 same)))),
      λ h. absurd (longer h),
    )

pub returns-in_err-append-clause-same : goal.returns-in_err-append-clause-same
returns-in_err-append-clause-same g c = λ x same.
    let events = c.args.events.now in
    let text_is : c.taken.result.now ≡ flat_map record_text events ++ 0 ∷ [] = search rules in
    let le : c.size_with-size.result ≤ limit = omega (arith, c.if-size.false) in
    let size_is : c.size_with-size.result ≡ min (c.self.inside.file.end + 1 + length (flat_map record_text events)) 18446744073709551615 = search rules in
    let never = not_full c.self.inside.file.form c.self.invariant.0 c.args.self.now.me events c.requires.own c.self.inside.file.end c.size_with-size.result x c.taken.result.now text_is size_is le in
    absurd (never ((c.in_err-append.ensures.full x).0 (ap (λ (y : RecordFault). Err y) (from_fault c.from_residual-in_err-append.result c.in_err-append.field-0.0 (faults.Full x) c.from_residual-in_err-append.ensures.1 same))))

pub returns-clause-kept : goal.returns-clause-kept
returns-clause-kept g c = λ tells head es stands were.
    let told = g.D.Disk.told in
    let old = told c.args.disk.now in
    let new = told c.append.new.disk in
    let form = c.self.inside.file.form in
    let is = c.self.invariant.0 in
    let me = c.args.self.now.me in
    let events = c.args.events.now in
    let own = c.requires.own in
    let text_is : c.taken.result.now ≡ flat_map record_text events ++ 0 ∷ [] = search rules in
    let end_is : c.self.inside.file.end ≡ c.args.self.now.end = ap (λ (j : JournalState). j.end) c.self.view_is in
    let kept = c.in_ok-append.ensures.kept tells head (event_texts es) (event_texts (reverse events)) (stands_there form is me events own head es c.self.inside.file.end (end_is ∙ stands))
    (fit_there form is me events own) (text_there form is me events own c.taken.result.now text_is) (open_there form is me events own head es (disk_state_of old) were) in
    let each = all_own me head es (disk_state_of old) were in
    record {
      stands = stands_here form is me events own head es c.append.new.self.form c.append.new.self.end c.in_ok-append.ensures.form kept.stands;
      kept = record {
        images = images_here form is me events own head es each (disk_state_of new) kept.kept.images;
        since = since_here form is me events own head es each old new kept.kept.since;
      };
    }
