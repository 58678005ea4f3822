-- What a disk in memory is left with by a stop: which of the images is picked.
use Rattle.std.specs.Prelude.{ℕ, ◌+◌, ◌-◌, ◌/◌, ◌%◌, List, [], ◌∷◌, length, take, replicate, if◌then◌else◌, ◌==◌}
use Rattle.outside.specs.Disks.{Range, DiskState, bytes_written}

-- these ranges of a file, the newest first, filled with a byte
abbrev pub fills : ℕ → List Range → List ℕ → List ℕ
fills byte [] file = file
fills byte (range ∷ ranges) file = bytes_written range.at (replicate range.count byte) (fills byte ranges file)

-- a file ends where it did, halfway to its new end, or at its new end
abbrev pub end_left : ℕ → ℕ → ℕ → ℕ
end_left way old new = if way == 0 then old else if way == 1 then old + (new - old) / 2 else new

-- the ranges that were written since a file was synced, filled with a byte, and the file cut
abbrev pub filled_by : ℕ → List ℕ → List Range → List ℕ
filled_by pick synced ranges =
    let file = fills (pick % 256) ranges synced in
    take (end_left (pick % 3) (length synced) (length file)) file

-- what a pick leaves: no write since the last sync, all of them, or one byte in place of all that they wrote
abbrev pub image_left_by : ℕ → DiskState → List ℕ
image_left_by pick s = if pick == 0 then s.synced else if pick == 1 then s.seen else filled_by pick s.synced s.ranges
