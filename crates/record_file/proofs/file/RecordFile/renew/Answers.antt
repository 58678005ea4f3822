use Rattle.std.proofs.Common.{◌≡◌, ap, subst}
use Rattle.record_file.specs.Form.{IsForm}
use Rattle.record_file.specs.Appending.{FileState}
use Rattle.record_file.proofs.file.RecordFile.renew.Goals as goal

pub returns-clause-renewed : goal.returns-clause-renewed
returns-clause-renewed g c = λ tells old rs were.
    let form_is : c.self.inside.form ≡ c.args.self.now.form = ap (λ (f : FileState). f.form) c.self.view_is in
    let is_form = subst IsForm form_is c.first_gate.ensures.form in
    let done = c.in_ok-make_anew.ensures.renewed tells c.args.self.now.form old rs is_form c.requires.head were in
    record { images = done.images; since = done.since }
