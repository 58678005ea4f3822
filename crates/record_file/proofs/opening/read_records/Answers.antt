use Rattle.std.proofs.Common.{List, inr, sym, ◌∙◌, subst}
use Rattle.outside.specs.Disks.{DiskState, LeavesOnly, MayLeave, at_rest, disk_state_of}
use Rattle.outside.specs.DisksLaws.{leaves_more, rest_image}
use Rattle.record_file.proofs.opening.read_records.Goals as goal

pub returns-clause-since : goal.returns-clause-since
returns-clause-since g c = λ tells.
    let old = g.D.Disk.told c.args.disk.now in
    let s = disk_state_of old in
    let is = c.read_file.ensures.same tells ∙ c.in-Ok.ensures.synced tells in
    subst (λ (x : List DiskState). LeavesOnly (MayLeave s) old x) (sym is) (leaves_more (MayLeave s) old (at_rest s.seen) (λ image may. inr (rest_image s.seen image may)))
