use Rattle.std.proofs.Common.{◌≡◌, subst, ap, ◌∙◌}
use Rattle.ritas_base.specs.Bytes.{IsBytes}
use Rattle.outside.specs.Disks.{disk_state_of}
use Rattle.outside.proofs.StopsLaws.{left_image}
use Rattle.outside.specs.MemoryDisk.{MemDiskState, disk_states_of}
use Rattle.outside.proofs.mem_disk.MemDisk.after_stop.Goals as goal

pub returns-in_err-file-in_default-clause-image : goal.returns-in_err-file-in_default-clause-image
returns-in_err-file-in_default-clause-image c =
    let same : c.deref.result.now ≡ (disk_state_of (disk_states_of c.args.self.now)).synced =
    c.deref.ensures.value ∙ c.self.invariant.1.file ∙ ap (λ (s : MemDiskState). (disk_state_of (disk_states_of s)).synced) c.self.view_is in
    left_image c.args.pick (disk_state_of (disk_states_of c.args.self.now)) (subst IsBytes same c.are_bytes.ensures)

pub returns-in-0-clause-image : goal.returns-in-0-clause-image
returns-in-0-clause-image c =
    let same : c.deref.result.now ≡ (disk_state_of (disk_states_of c.args.self.now)).synced =
    c.deref.ensures.value ∙ c.self.invariant.1.file ∙ ap (λ (s : MemDiskState). (disk_state_of (disk_states_of s)).synced) c.self.view_is in
    left_image c.args.pick (disk_state_of (disk_states_of c.args.self.now)) (subst IsBytes same c.are_bytes.ensures)

pub returns-in_ok-file-in_default-clause-image : goal.returns-in_ok-file-in_default-clause-image
returns-in_ok-file-in_default-clause-image c =
    let same : c.deref.result.now ≡ (disk_state_of (disk_states_of c.args.self.now)).synced =
    c.deref.ensures.value ∙ c.self.invariant.1.file ∙ ap (λ (s : MemDiskState). (disk_state_of (disk_states_of s)).synced) c.self.view_is in
    left_image c.args.pick (disk_state_of (disk_states_of c.args.self.now)) (subst IsBytes same c.are_bytes.ensures)
