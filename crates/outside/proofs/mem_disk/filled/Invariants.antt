use Rattle.std.proofs.Common.{◌≡◌, ◌≤◌, take, length}
use Rattle.std.specs.Vec.{vec_capacity}
use Rattle.outside.specs.MemoryDisk.{ranges_of}
use Rattle.outside.specs.Stops.{fills}
use Rattle.outside.proofs.mem_disk.filled.Given as goal

abbrev pub invariant-loop-span : goal.invariant-loop-span
invariant-loop-span l = (l.file.items ≡ fills l.byte (ranges_of (take l.span-index l.spans)) l.synced) × (length l.file.items ≤ l.room) × (l.room ≤ vec_capacity l.file)
