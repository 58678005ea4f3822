use Rattle.std.proofs.Common.{◌≡◌, ℕ, List, length, subst}
use Rattle.std.proofs.lemmas.Result.{IfOk-from_err}
use Rattle.outside.specs.Disks.{LeavesOnly, LeavesTorn, at_rest, disk_state_of, bytes_written}
use Rattle.outside.specs.FaultsLaws.{counted_stops, counted_then}
use Rattle.record_file.proofs.MadeImages.{head_since, makes}
use Rattle.record_file.proofs.making.write_head.Goals as goal

pub returns-in_err-put-clause-made : goal.returns-in_err-put-clause-made
returns-in_err-put-clause-made g c = λ tells form is_form long clear.
    let told = g.D.Disk.told in
    let old = told c.args.disk.now in
    let new = told c.put.new.disk in
    let head = c.args.head.now in
    let since = subst (λ (x : List ℕ). LeavesOnly (LeavesTorn (record { at = 1; count = length x }) (disk_state_of old)) old new) c.with_gate-text.ensures (c.in_err-put.ensures.since tells) in
    record {
      images = IfOk-from_err c.from_residual.result _ c.from_residual.ensures.0;
      since = head_since form is_form head long old new clear since;
    }

pub returns-clause-made : goal.returns-clause-made
returns-clause-made g c = λ tells form is_form long clear.
    let told = g.D.Disk.told in
    let old = told c.args.disk.now in
    let mid = told c.put.new.disk in
    let new = told c.put-2.new.disk in
    let head = c.args.head.now in
    let whole = subst (λ (x : List ℕ). disk_state_of mid ≡ at_rest (bytes_written 1 x (disk_state_of old).seen)) c.with_gate-text.ensures (c.in_ok-put.ensures.whole tells) in
    let since = subst (λ (x : List ℕ). LeavesOnly (LeavesTorn (record { at = 1; count = length x }) (disk_state_of old)) old mid) c.with_gate-text.ensures (c.in_ok-put.ensures.since tells) in
    makes form is_form head long c.put-2.result old mid new clear whole since (c.put-2.ensures.whole tells) (c.put-2.ensures.since tells)

pub returns-in_err-put-clause-counts : goal.returns-in_err-put-clause-counts
returns-in_err-put-clause-counts g c = counted_stops _ _ c.from_residual.result c.from_residual.ensures.0 c.in_err-put.ensures.counts

pub returns-clause-counts : goal.returns-clause-counts
returns-clause-counts g c = counted_then _ _ _ c.put-2.result c.in_ok-put.ensures.counts c.put-2.ensures.counts
