use Rattle.std.proofs.Common.{◌≡◌, ◌⊎◌, ◌≤◌, inl, inr, ℕ, List, [], ◌∷◌, length, get_or, OnOk, Result, Ok, Err, ap, rules}
use Rattle.outside.specs.Disks.{DiskState, at_rest, disk_state_of, bytes_written}
use Rattle.outside.specs.declared.source.Failed.{Failed}
use Rattle.record_file.specs.Form.{Form, IsForm}
use Rattle.record_file.specs.Making.{RestsClear}
use Rattle.record_file.proofs.MadeImages.{clear_since, cleared}
use Rattle.record_file.proofs.making.clear.Goals.{then-is_empty-via-then-is_empty, then-is_empty-via-else-is_empty+then-file-eq1}
use Rattle.record_file.proofs.making.clear.Goals as goal

done : (r : Result (Unit {0}) Failed) (form : Form) (file : List ℕ) (s t : DiskState) → IsForm form → length file ≤ form.limit → s ≡ at_rest file → OnOk r (t ≡ at_rest (bytes_written 0 (0 ∷ []) s.seen)) → OnOk r (RestsClear form t)
done (Ok x) form file s t is_form short rests whole = cleared form file s t is_form short (ap (λ (x : DiskState). x.seen) rests) whole
done (Err e) form file s t is_form short rests whole = tt

pub returns-then-is_empty-clause-cleared : goal.returns-then-is_empty-clause-cleared
returns-then-is_empty-clause-cleared g c = λ tells form head is_form unmade short rests.
    let told = g.D.Disk.told in
    let why : (length c.args.file.now ≡ 0) ⊎ (get_or c.args.file.now 0 0 ≡ 1) = elim c.then-is_empty.branch [
      | then-is_empty-via-then-is_empty w ↦ inl (search rules)
      | then-is_empty-via-else-is_empty+then-file-eq1 w ↦ inr w.if-file-eq1.true
    ] in
    record {
      rests = done c.put.result form c.args.file.now (disk_state_of (told c.args.disk.now)) (disk_state_of (told c.put.new.disk)) is_form short rests (c.put.ensures.whole tells);
      since = clear_since form head c.args.file.now (told c.args.disk.now) (told c.put.new.disk) is_form unmade why rests (c.put.ensures.since tells);
    }
