-- The faults of a journal's file, and what a stop leaves while it is opened. Lists of events have the newest first.
use Rattle.std.specs.Prelude.{◌≡◌, ◌≢◌, ◌⊎◌, ℕ, ◌<◌, ◌≤◌, List, ◌∷◌, ◌++◌, length, take, slice_index}
use Rattle.std.specs.List.{AllByRecursion}
use Rattle.outside.specs.Disks.{DiskState, MayLeave, disk_state_of}
use Rattle.ritas_base.specs.declared.event.Event.{Event}
use Rattle.schedule_file.specs.FileBytes.{limit}
use Rattle.schedule_file.specs.Spelling.{event_text, sized}
use Rattle.event_journal.specs.Journal.{IsRecord, IsUnmade, OpensAs, closed_front}
use Rattle.event_journal.specs.Appending.{AllOpen, JournalState, JournalStandsFor}

-- the file that a disk holds, as it is read
abbrev pub file_seen : List DiskState → List ℕ
file_seen told = (disk_state_of told).seen

-- no record and gate stand there
abbrev pub NoRecord : ℕ → List ℕ → Type 0
NoRecord me bytes = (e : Event) (gate : ℕ) (rest : List ℕ) → IsRecord me e → bytes ≡ sized (event_text e) ++ gate ∷ rest → ⊥

-- ---- the faults of a file

-- a made file's head differs from this one first at offset p
pub record IsForeign (head file : List ℕ) (p : ℕ) : Type 0 where
  pub made : ¬ IsUnmade file
  pub size : length file ≤ limit
  pub within : (1 ≤ p) × (p < 52)
  pub before : take p file ≡ take p (1 ∷ head)
  pub differs : slice_index file p ≢ slice_index (1 ∷ head) p

-- at offset p an open gate isn't followed by a record and a gate
pub record IsBroken (me : ℕ) (head file : List ℕ) (p : ℕ) : Type 0 where
  pub es : List Event
  pub rest : List ℕ
  pub text : file ≡ closed_front head es ++ 1 ∷ rest
  pub each : AllByRecursion (IsRecord me) es
  pub place : p ≡ length (closed_front head es)
  pub none : NoRecord me rest
  pub size : length file ≤ limit

-- ---- opening

-- the journal stands for these events, and every image that a stop may leave opens as them
abbrev pub OpensJournal : ℕ → List ℕ → List DiskState → JournalState → List Event → Type 0
OpensJournal me head told journal es =
    JournalStandsFor journal head es × AllOpen me head es (disk_state_of told)

-- the two files open as the same events
pub record OpensAlike (me : ℕ) (head file other : List ℕ) : Type 0 where
  pub events : List Event
  pub one : OpensAs me head file events
  pub two : OpensAs me head other events

-- an image is one of this state, or opens as one of them does
abbrev pub OpensAsKept : ℕ → List ℕ → DiskState → List ℕ → Type 0
OpensAsKept me head s image = MayLeave s image ⊎ ((older : List ℕ) × MayLeave s older × OpensAlike me head older image)
