use Rattle.std.proofs.Common.{◌≡◌, ◌≤◌, ◌+◌, ◌-◌, length, take, drop, ap, ◌∙◌, arith}
use Rattle.std.proofs.lemmas.List.{take_rest}
use Rattle.record_file.specs.Records.{closed_front}
use Rattle.record_file.specs.Appending.{FileState}
use Rattle.record_file.proofs.Groups.{appends_none, ends_behind, no_records, some_records}
use Rattle.record_file.proofs.file.RecordFile.append.Goals as goal

pub returns-then-text-eq1-clause-kept : goal.returns-then-text-eq1-clause-kept
returns-then-text-eq1-clause-kept g c = λ tells head rs more place all is were.
    appends_none c.args.self.now.form head rs more (g.D.Disk.told c.args.disk.now) c.args.self.now (no_records c.args.self.now.form more c.args.text.now is c.if-text-eq1.true) place were

pub returns-clause-kept : goal.returns-clause-kept
returns-clause-kept g c = λ tells head rs more stands all is were.
    let text = c.args.text.now in
    let form = c.args.self.now.form in
    let end_is : c.self.inside.end ≡ c.args.self.now.end = ap (λ (f : FileState). f.end) c.self.view_is in
    let form_is : c.self.inside.form ≡ form = ap (λ (f : FileState). f.form) c.self.view_is in
    let limit_is : c.self.inside.form.limit ≡ form.limit = ap (λ (f : FileState). f.form.limit) c.self.view_is in
    let place : c.self.inside.end ≡ length (closed_front form head rs) = end_is ∙ stands in
    let some = some_records form more text is c.if-text-eq1.false in
    let cut : take (length text - 1) (drop 1 text) ≡ drop 1 text = take_rest text 1 in
    let low : c.self.inside.end + 1 + length (take (length text - 1) (drop 1 text)) ≤ form.limit =
    omega (arith, c.if-size-limit.false, c.limit.ensures.value, limit_is, ap length cut, ap length is) in
    let kept = c.in_ok-keep.ensures.kept tells form head rs more some all place (cut ∙ ap (drop 1) is) low were in
    record {
      stands = ends_behind form c.self.inside.form head rs more c.self.inside.end text form_is place is;
      kept = record { images = kept.images; since = kept.since };
    }
