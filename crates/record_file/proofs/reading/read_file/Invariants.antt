use Rattle.std.proofs.Common.{◌≡◌, ◌+◌, ◌-◌, length, take, true}
use Rattle.outside.specs.Disks.{disk_state_of}
use Rattle.record_file.proofs.reading.read_file.Given as goal

abbrev pub invariant-loop-piece : goal.invariant-loop-piece
invariant-loop-piece g l = record {
  same : g.D.Disk.tells ≡ true → g.D.Disk.told l.disk ≡ g.D.Disk.told l.initial.disk;
  stands : g.D.Disk.faults l.disk ≡ g.D.Disk.faults l.initial.disk;
  front : g.D.Disk.tells ≡ true → l.file.items ≡ take (length l.file.items) (disk_state_of (g.D.Disk.told l.initial.disk)).seen;
}

abbrev pub decreases-loop-piece : goal.decreases-loop-piece
decreases-loop-piece g l = l.limit + 1 - length l.file.items
