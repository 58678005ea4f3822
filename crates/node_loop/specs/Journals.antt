-- What a journal keeps of the events that it is given. Lists of events have the newest first.
use Rattle.std.specs.Prelude.{◌≡◌, ◌≢◌, ℕ, ◌≤◌, ◌<◌, ◌-◌, ◌^◌, min, Bool, true, List, [], ◌∷◌, ◌++◌}
use Rattle.ritas_base.specs.declared.event.Event.{Event}
use Rattle.outside.specs.Disks.{DiskState, MayLeave, LeavesOnly, disk_state_of}
use Rattle.outside.specs.Faults.{count_after}
use Rattle.outside.specs.declared.disk.Disk.{Ghosts as DiskGhosts}
use Rattle.schedule_file.specs.FileBytes.{limit}
use Rattle.event_journal.specs.Journal.{Opens}
use Rattle.event_journal.specs.Appending.{AllOpen, JournalState, OpensWithout, JournalStandsFor, length_with}
use Rattle.node_loop.specs.declared.archive.ArchiveFault.{ArchiveFault}
use Rattle.node_loop.specs.declared.archive.ArchiveFault.TheVariants as archive
use Rattle.node_loop.specs.Archives.{Moment, moment}
use Rattle.node_loop.specs.Outs.{Outs}

-- an image opens as these past events and the first of the given ones
pub record OpensSome (me : ℕ) (head : List ℕ) (past given : List Event) (image : List ℕ) : Type 0 where
  pub later : List Event
  pub first : List Event
  pub parts : given ≡ later ++ first
  pub opens : Opens me head image (first ++ past)

-- the journal stands for the past and the given events, every image opens as these, and at each moment since before the given ones every
-- image opened as the past ones and the first of the given
pub record HasKept (head : List ℕ) (past given : List Event) (journal : JournalState) (before now : List DiskState) : Type 0 where
  pub stands : JournalStandsFor journal head (given ++ past)
  pub images : AllOpen journal.me head (given ++ past) (disk_state_of now)
  pub since : LeavesOnly (OpensSome journal.me head past given) before now

-- so it is, where the disk tells, and no call of the disk failed
pub record JournalStands (head : List ℕ) (past given : List Event) (journal : JournalState) (tells : Bool) (before now : List DiskState) (few many : ℕ) : Type 0 where
  pub kept : tells ≡ true → HasKept head past given journal before now
  pub none_failed : many ≡ few

-- with the newest group the file would be so long, up to 2^64 - 1, which is too long; all is as it was before it
abbrev pub IsFull : List ℕ → List Event → List Event → List Event → JournalState → Bool → List DiskState → List DiskState → ℕ → Type 0
IsFull head past group older journal tells before now x =
    (x ≡ min (length_with journal group) (2 ^ 64 - 1)) × (limit < x) × (tells ≡ true → HasKept head past older journal before now)

-- every image opens as the past and the older events, with all of the newest group or with none of it
abbrev pub OpensNewest : ℕ → List ℕ → List Event → List Event → List Event → DiskState → Type 0
OpensNewest me head past group older s = (image : List ℕ) → MayLeave s image → OpensWithout me head (older ++ past) group image

-- it failed over the newest group of the given events: one call of the disk failed where that was the cause, and else none; every image opens now as
-- the others, with all of the group or with none of it; and at each moment every image opened as the past events and the first of the given
pub record JournalFails (head : List ℕ) (past group older : List Event) (journal : JournalState) (tells : Bool) (before now : List DiskState) (few many : ℕ)
    (fault : ArchiveFault) : Type 0 where
  pub left : tells ≡ true → OpensNewest journal.me head past group older (disk_state_of now)
  pub since : tells ≡ true → LeavesOnly (OpensSome journal.me head past (group ++ older)) before now
  pub later : few ≤ many
  pub one_failed : fault ≡ archive.Disk → many ≡ count_after few
  pub none_failed : fault ≢ archive.Disk → many ≡ few
  pub full : (x : ℕ) → fault ≡ archive.Full x → IsFull head past group older journal tells before now x

-- ---- a journal by its name, which is its replica's number and the head of its file

abbrev pub me_named : List ℕ → ℕ
me_named [] = 0
me_named (me ∷ head) = me

abbrev pub head_named : List ℕ → List ℕ
head_named [] = []
head_named (me ∷ head) = head

abbrev pub NamedStands : List ℕ → List Event → List Event → JournalState → Bool → List DiskState → List DiskState → ℕ → ℕ → Type 0
NamedStands name past given journal tells before now few many =
    (journal.me ≡ me_named name) × JournalStands (head_named name) past given journal tells before now few many

abbrev pub NamedFails : List ℕ → List Event → List Event → List Event → JournalState → Bool → List DiskState → List DiskState → ℕ → ℕ → ArchiveFault → Type 0
NamedFails name past group older journal tells before now few many fault =
    (journal.me ≡ me_named name) × JournalFails (head_named name) past group older journal tells before now few many fault

-- ---- a journal and its disk, as serving finds and leaves them

-- where the disk tells, the journal was opened as past events
abbrev pub OpenedAs : {D : Type 0} → DiskGhosts D → List ℕ → List Event → JournalState → D → Type 0
OpenedAs storage head past journal disk =
    storage.tells ≡ true → JournalStandsFor journal head past × AllOpen journal.me head past (disk_state_of (storage.told disk))

-- the moment at which they are so, of replica `me` and of the disk before the first of the given events
abbrev pub journal_moment : {D : Type 0} → DiskGhosts D → List ℕ → List Event → ℕ → D → Outs → JournalState → D → Moment
journal_moment storage head past me before outs journal disk = moment outs
    (λ given. (journal.me ≡ me)
    × JournalStands head past given journal storage.tells (storage.told before) (storage.told disk) (storage.faults before) (storage.faults disk))
    (λ fault group older. (journal.me ≡ me)
    × JournalFails head past group older journal storage.tells (storage.told before) (storage.told disk) (storage.faults before) (storage.faults disk) fault)
