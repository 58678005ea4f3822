use Rattle.std.proofs.lemmas.Result.{IfOk-from_err}
use Rattle.outside.specs.FaultsLaws.{counted_stops, counted_then}
use Rattle.record_file.proofs.RenewedImages.{first_done, first_since, renews}
use Rattle.record_file.proofs.making.make_anew.Goals as goal

pub returns-in_err-put-clause-renewed : goal.returns-in_err-put-clause-renewed
returns-in_err-put-clause-renewed g c = λ tells form old rs is_form long were.
    let told = g.D.Disk.told in
    record {
      images = IfOk-from_err c.from_residual.result _ c.from_residual.ensures.0;
      since = first_since form is_form old c.args.head.now rs (told c.args.disk.now) (told c.put.new.disk) were (c.in_err-put.ensures.since tells);
    }

pub returns-clause-renewed : goal.returns-clause-renewed
returns-clause-renewed g c = λ tells form old rs is_form long were.
    let told = g.D.Disk.told in
    let head = c.args.head.now in
    let start = told c.args.disk.now in
    let mid = told c.put.new.disk in
    let new = told c.write_head.new.disk in
    let clear = first_done form is_form old head rs start mid were (c.in_ok-put.ensures.whole tells) in
    let since = first_since form is_form old head rs start mid were (c.in_ok-put.ensures.since tells) in
    renews form is_form old head rs c.write_head.result start mid new since (c.write_head.ensures.made tells form is_form long clear)

pub returns-in_err-put-clause-counts : goal.returns-in_err-put-clause-counts
returns-in_err-put-clause-counts g c = counted_stops _ _ c.from_residual.result c.from_residual.ensures.0 c.in_err-put.ensures.counts

pub returns-clause-counts : goal.returns-clause-counts
returns-clause-counts g c = counted_then _ _ _ c.write_head.result c.in_ok-put.ensures.counts c.write_head.ensures.counts
