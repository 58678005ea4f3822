use Rattle.std.proofs.Common.{◌≡◌, ◌≤◌, ℕ, ◌+◌, List, [], ◌∷◌, ◌++◌, length, drop, subst, ap, ◌∙◌}
use Rattle.std.proofs.lemmas.Result.{IfOk-from_err}
use Rattle.outside.specs.Disks.{LeavesOnly, LeavesTorn, disk_state_of, at_rest, bytes_written}
use Rattle.outside.specs.FaultsLaws.{counted_stops, counted_then}
use Rattle.record_file.specs.Records.{records}
use Rattle.record_file.proofs.Images.{first_since, kept, records_tail}
use Rattle.record_file.proofs.file.keep.Goals as goal

pub returns-in_err-put-clause-kept : goal.returns-in_err-put-clause-kept
returns-in_err-put-clause-kept g c = λ tells form head rs more some all place text low were.
    let told = g.D.Disk.told in
    let s = disk_state_of (told c.args.disk.now) in
    let tail = drop 1 (records form more) in
    let tail_is = records_tail form more some in
    let text_is : c.args.text.now ≡ tail ++ 0 ∷ [] = text ∙ ap (λ (x : List ℕ). drop 1 (x ++ 0 ∷ [])) tail_is in
    let low' = subst (λ (x : List ℕ). c.args.gate + 1 + length x ≤ form.limit) text_is low in
    let since = subst (λ (x : List ℕ). LeavesOnly (LeavesTorn (record { at = c.args.gate + 1; count = length x }) s) (told c.args.disk.now) (told c.put.new.disk)) text_is (c.in_err-put.ensures.since tells) in
    record {
      images = IfOk-from_err c.from_residual.result _ c.from_residual.ensures.0;
      since = first_since form head rs more tail tail_is all c.args.gate place low' s (told c.args.disk.now) (told c.put.new.disk) were since;
    }

pub returns-clause-kept : goal.returns-clause-kept
returns-clause-kept g c = λ tells form head rs more some all place text low were.
    let told = g.D.Disk.told in
    let old = told c.args.disk.now in
    let mid = told c.put.new.disk in
    let new = told c.put-2.new.disk in
    let s = disk_state_of old in
    let tail = drop 1 (records form more) in
    let tail_is = records_tail form more some in
    let text_is : c.args.text.now ≡ tail ++ 0 ∷ [] = text ∙ ap (λ (x : List ℕ). drop 1 (x ++ 0 ∷ [])) tail_is in
    let low' = subst (λ (x : List ℕ). c.args.gate + 1 + length x ≤ form.limit) text_is low in
    let since = subst (λ (x : List ℕ). LeavesOnly (LeavesTorn (record { at = c.args.gate + 1; count = length x }) s) old mid) text_is (c.in_ok-put.ensures.since tells) in
    let whole = subst (λ (x : List ℕ). disk_state_of mid ≡ at_rest (bytes_written (c.args.gate + 1) x s.seen)) text_is (c.in_ok-put.ensures.whole tells) in
    kept form head rs more tail tail_is all c.args.gate place low' c.put-2.result old mid new were whole since (c.put-2.ensures.whole tells) (c.put-2.ensures.since tells)

pub returns-in_err-put-clause-counts : goal.returns-in_err-put-clause-counts
returns-in_err-put-clause-counts g c = counted_stops _ _ c.from_residual.result c.from_residual.ensures.0 c.in_err-put.ensures.counts

pub returns-clause-counts : goal.returns-clause-counts
returns-clause-counts g c = counted_then _ _ _ c.put-2.result c.in_ok-put.ensures.counts c.put-2.ensures.counts
