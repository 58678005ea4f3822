-- A disk in memory: what it holds, what a call does, and what it keeps.
use Rattle.std.specs.Prelude.{◌≡◌, ◌↔◌, ◌⊎◌, ℕ, ◌+◌, ◌<◌, ◌≤◌, List, [], ◌∷◌, ◌++◌, length, map, reverse, take, drop, min, Result, Ok, Err, IsErr, IfOk, OnErr}
use Rattle.std.specs.List.{AllByRecursion}
use Rattle.outside.specs.Memory.{FailingCalls, IsFault, calls_after}
use Rattle.outside.specs.Disks.{Range, DiskState, at_rest, disk_state_of, after_write, after_sync}
use Rattle.outside.specs.declared.source.Failed.{Failed}
use Rattle.outside.specs.declared.mem_disk.DiskDid.{DiskDid}
use Rattle.outside.specs.declared.mem_disk.Span.{Span}
use Rattle.outside.specs.declared.mem_disk.DiskDid.TheVariants.{Wrote, Synced}

-- what a call did that changed something: it wrote bytes at an offset, or synced
pub data DiskAct : Type 0 where
  Writes : ℕ → List ℕ → DiskAct
  Syncs : DiskAct

-- The bytes at first, and what was done, the newest first; the room of the file, and of all writes; how many calls may be made; the calls.
pub record MemDiskState : Type 0 where
  pub first : List ℕ
  pub acts : List DiskAct
  pub room : ℕ
  pub most : ℕ
  pub calls : FailingCalls

-- the states after these acts, the newest first
abbrev pub states_after : List ℕ → List DiskAct → List DiskState
states_after first [] = at_rest first ∷ []
states_after first (Writes at bytes ∷ acts) = after_write at bytes (states_after first acts)
states_after first (Syncs ∷ acts) = after_sync (states_after first acts)

abbrev pub disk_states_of : MemDiskState → List DiskState
disk_states_of s = states_after s.first s.acts

-- how many bytes were written
abbrev pub wrote_in : List DiskAct → ℕ
wrote_in [] = 0
wrote_in (Writes at bytes ∷ acts) = wrote_in acts + length bytes
wrote_in (Syncs ∷ acts) = wrote_in acts

-- ---- what a call does

-- a call fails where its number is listed or where so many were made
abbrev pub IsRefused : MemDiskState → Type 0
IsRefused s = IsFault s.calls ⊎ (s.most ≤ s.calls.number)

-- a write with which the file or all writes would pass the room
abbrev pub IsWriteTooLong : MemDiskState → ℕ → ℕ → Type 0
IsWriteTooLong s at count = (s.room < at + count) ⊎ (s.room < wrote_in s.acts + count)

-- what a disk is after a call that did these acts
abbrev pub with_acts : List DiskAct → FailingCalls → MemDiskState → MemDiskState
with_acts acts calls s = record s { acts = acts ++ s.acts; calls = calls }

pub record DiskReads (at : ℕ) (old new : MemDiskState) (buf_old buf_new : List ℕ) (result : Result ℕ Failed) : Type 0 where
  pub fails : IsErr result ↔ IsRefused old
  pub now : new ≡ with_acts [] (calls_after old.calls result) old
  pub count : IfOk result (λ k. k ≡ min (length buf_old) (length (drop at (disk_state_of (disk_states_of old)).seen)))
  pub buf : IfOk result (λ k. buf_new ≡ take k (drop at (disk_state_of (disk_states_of old)).seen) ++ drop k buf_old)
  pub same : OnErr result (buf_new ≡ buf_old)

-- at Ok it did this, and else nothing
abbrev pub disk_acts_by : {A E : Type 0} → DiskAct → Result A E → List DiskAct
disk_acts_by act (Ok x) = act ∷ []
disk_acts_by act (Err e) = []

pub record DiskWrites (at : ℕ) (bytes : List ℕ) (old new : MemDiskState) (result : Result (Unit {0}) Failed) : Type 0 where
  pub fails : IsErr result ↔ (IsRefused old ⊎ IsWriteTooLong old at (length bytes))
  pub now : new ≡ with_acts (disk_acts_by (Writes at bytes) result) (calls_after old.calls result) old

pub record DiskSyncs (old new : MemDiskState) (result : Result (Unit {0}) Failed) : Type 0 where
  pub fails : IsErr result ↔ IsRefused old
  pub now : new ≡ with_acts (disk_acts_by Syncs result) (calls_after old.calls result) old

-- ---- what it keeps

-- what was done, the newest first: each write is of a part of the text
abbrev pub acts_after : List ℕ → List DiskDid → List DiskAct
acts_after text [] = []
acts_after text (Wrote at from count ∷ dids) = Writes at (take count (drop from text)) ∷ acts_after text dids
acts_after text (Synced ∷ dids) = Syncs ∷ acts_after text dids

unfoldable pub acts_of : List ℕ → List DiskDid → List DiskAct
acts_of text dids = acts_after text (reverse dids)

-- a write is of a part of so long a text
abbrev pub IsPartialWrite : ℕ → DiskDid → Type 0
IsPartialWrite len (Wrote at from count) = from + count ≤ len
IsPartialWrite len Synced = Unit {0}

-- what a read gives is held, and there is room
pub record FitsDisk (first bytes text : List ℕ) (dids : List DiskDid) (room number : ℕ) : Type 0 where
  pub seen : bytes ≡ (disk_state_of (states_after first (acts_of text dids))).seen
  pub parts : AllByRecursion (IsPartialWrite (length text)) (reverse dids)
  pub sum : length text ≡ wrote_in (acts_of text dids)
  pub short : length bytes ≤ room
  pub few : length text ≤ room
  pub counted : length dids ≤ number

abbrev pub range_of : Span → Range
range_of span = record { at = span.at; count = span.count }

-- the ranges that were written since the last sync, the newest first
unfoldable pub ranges_of : List Span → List Range
ranges_of spans = map range_of (reverse spans)

abbrev pub IsSpanWithin : ℕ → Span → Type 0
IsSpanWithin room span = span.at + span.count ≤ room

-- what the last sync left, and what was written since
pub record KeepsSynced (first text : List ℕ) (dids : List DiskDid) (synced : List ℕ) (spans : List Span) (room : ℕ) : Type 0 where
  pub file : synced ≡ (disk_state_of (states_after first (acts_of text dids))).synced
  pub ranges : ranges_of spans ≡ (disk_state_of (states_after first (acts_of text dids))).ranges
  pub within : AllByRecursion (IsSpanWithin room) spans
  pub short : length synced ≤ room
  pub few : length spans ≤ length dids
