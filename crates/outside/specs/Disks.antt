-- What a disk holds, and what a stop may leave of it. Lists of its states, and of ranges of a file, have the newest
-- first.
use Rattle.std.specs.Prelude.{◌≡◌, ◌⊎◌, ℕ, ◌+◌, ◌-◌, ◌<◌, ◌≤◌, min, max, Bool, true, List, [], ◌∷◌, ◌++◌, length, take, drop, replicate, get_or, Result, OnOk}
use Rattle.std.specs.List.{AllByRecursion}
use Rattle.outside.specs.Faults.{Rose, counted}

-- so many bytes from an offset on
pub record Range : Type 0 where
  pub at : ℕ
  pub count : ℕ

abbrev pub range_end : Range → ℕ
range_end range = range.at + range.count

-- what a read gives, what the last sync left, and the ranges that were written since
pub record DiskState : Type 0 where
  pub seen : List ℕ
  pub synced : List ℕ
  pub ranges : List Range

-- ---- what a stop may leave

-- A file after a write that a stop cut off: its range and the part past the old end hold any bytes, the others stay, and
-- it ends at the old end, at the new one or between.
pub record IsTorn (range : Range) (old new : List ℕ) : Type 0 where
  pub before : take (min range.at (length old)) new ≡ take range.at old
  pub after : drop (range_end range) new ≡ drop (range_end range) old
  pub least : length old ≤ length new
  pub most : length new ≤ max (length old) (range_end range)
  pub bytes : (i : ℕ) → min range.at (length old) ≤ i → i < range_end range → get_or new i 0 < 256

-- a file that was synced, and of which these ranges were torn since
abbrev pub IsImage : List ℕ → List Range → List ℕ → Type 0
IsImage synced [] image = image ≡ synced
IsImage synced (range ∷ ranges) image = (older : List ℕ) × IsImage synced ranges older × IsTorn range older image

-- an image of a state: what a stop may leave there, which is also what a read gives
abbrev pub MayLeave : DiskState → List ℕ → Type 0
MayLeave s image = IsImage s.synced s.ranges image ⊎ (image ≡ s.seen)

-- ---- the states of a disk

-- all of the file is on the disk
abbrev pub at_rest : List ℕ → DiskState
at_rest file = record { seen = file; synced = file; ranges = [] }

-- the state after these
abbrev pub disk_state_of : List DiskState → DiskState
disk_state_of [] = at_rest []
disk_state_of (s ∷ states) = s

-- a file's front of so many bytes, with zeros behind its end
abbrev pub padded : ℕ → List ℕ → List ℕ
padded at file = take at file ++ replicate (at - length file) 0

-- a file with these bytes at an offset
abbrev pub bytes_written : ℕ → List ℕ → List ℕ → List ℕ
bytes_written at bytes file = padded at file ++ (bytes ++ drop (at + length bytes) file)

abbrev pub with_write : ℕ → List ℕ → DiskState → DiskState
with_write at bytes s = record {
  seen = bytes_written at bytes s.seen;
  synced = s.synced;
  ranges = record { at = at; count = length bytes } ∷ s.ranges;
}

abbrev pub after_write : ℕ → List ℕ → List DiskState → List DiskState
after_write at bytes states = with_write at bytes (disk_state_of states) ∷ states

abbrev pub after_sync : List DiskState → List DiskState
after_sync states = at_rest (disk_state_of states).seen ∷ states

-- a write that failed wrote anything in its range
pub record Tears (range : Range) (old new : List DiskState) : Type 0 where
  pub seen : List ℕ
  pub torn : IsTorn range (disk_state_of old).seen seen
  pub states : new ≡ record { seen = seen; synced = (disk_state_of old).synced; ranges = range ∷ (disk_state_of old).ranges } ∷ old

-- or did nothing
abbrev pub FailsToWrite : Range → List DiskState → List DiskState → Type 0
FailsToWrite range old new = (new ≡ old) ⊎ Tears range old new

-- ---- each moment of several calls

-- At each moment since a disk had the old states, every image has P; what it might leave before is no part of this.
pub record LeavesOnly (P : List ℕ → Type 0) (old new : List DiskState) : Type 0 where
  pub more : List DiskState
  pub states : new ≡ more ++ old
  pub each : AllByRecursion (λ s. (image : List ℕ) → MayLeave s image → P image) more

-- an image of a state after a write in this range that a stop may cut off
pub record LeavesTorn (range : Range) (s : DiskState) (image : List ℕ) : Type 0 where
  pub older : List ℕ
  pub was : MayLeave s older
  pub torn : IsTorn range older image

-- These bytes are written at an offset and synced: at Ok this is what a stop leaves, and before, the write may be torn. Where it fails, one call of
-- the disk did, and else none did.
pub record Puts {E : Type 0} (at : ℕ) (bytes : List ℕ) (tells : Bool) (old new : List DiskState) (before now : ℕ) (result : Result (Unit {0}) E) (failed : Type 0) : Type 0 where
  pub whole : tells ≡ true → OnOk result (disk_state_of new ≡ at_rest (bytes_written at bytes (disk_state_of old).seen))
  pub since : tells ≡ true → LeavesOnly (LeavesTorn (record { at = at; count = length bytes }) (disk_state_of old)) old new
  pub later : before ≤ now
  pub cause : failed → Rose before now
  pub counts : now ≡ counted before result
