-- What a journal stands for, and what comes of appending events to it, and of beginning it anew. Lists of events have the newest first.
use Rattle.std.specs.Prelude.{◌≡◌, ◌⊎◌, ℕ, ◌+◌, Bool, List, [], ◌++◌, length, Result, OnOk}
use Rattle.outside.specs.Disks.{DiskState, MayLeave, LeavesOnly, disk_state_of}
use Rattle.ritas_base.specs.declared.event.Event.{Event}
use Rattle.event_journal.specs.Journal.{Opens, OpensAs, closed_front, records}
use Rattle.event_journal.specs.declared.fault.JournalFault.{JournalFault}

-- what contracts see of a journal: the offset of its closed gate, its replica, and whether it's live
pub record JournalState : Type 0 where
  pub end : ℕ
  pub me : ℕ
  pub live : Bool

-- the journal stands for these events
abbrev pub JournalStandsFor : JournalState → List ℕ → List Event → Type 0
JournalStandsFor journal head es = journal.end ≡ length (closed_front head es)

-- every image that a stop may leave in a state is a made file that opens as these events
abbrev pub AllOpen : ℕ → List ℕ → List Event → DiskState → Type 0
AllOpen me head es s = (image : List ℕ) → MayLeave s image → Opens me head image es

-- it is made, and opens as these events, with all of the new ones or with none
abbrev pub OpensWithout : ℕ → List ℕ → List Event → List Event → List ℕ → Type 0
OpensWithout me head es more image = Opens me head image (more ++ es) ⊎ Opens me head image es

-- how long a file is once these events are appended behind its closed gate
abbrev pub length_with : JournalState → List Event → ℕ
length_with journal more = journal.end + 1 + length (records more)

-- What comes of writing behind the closed gate, and then the gate: at Ok every image opens with the new events; at each
-- moment, with all of them or with none.
pub record KeepsJournal (me : ℕ) (head : List ℕ) (es more : List Event) (old new : List DiskState) {E : Type 0} (result : Result (Unit {0}) E) : Type 0 where
  pub images : OnOk result (AllOpen me head (more ++ es) (disk_state_of new))
  pub since : LeavesOnly (OpensWithout me head es more) old new

-- And at Ok the journal stands for the new events too.
pub record AppendsEvents (me : ℕ) (head : List ℕ) (es more : List Event) (old new : List DiskState) (journal : JournalState) (result : Result (Unit {0}) JournalFault) : Type 0 where
  pub stands : OnOk result (JournalStandsFor journal head (more ++ es))
  pub kept : KeepsJournal me head es more old new result

-- ---- beginning anew

-- it opens as these events under the old head, or as none under the next one
abbrev pub OpensRenewed : ℕ → List ℕ → List ℕ → List Event → List ℕ → Type 0
OpensRenewed me head next es image = Opens me head image es ⊎ OpensAs me next image []

-- A file that opened as these events under one head is begun anew under another: at Ok every image opens as no events under the
-- new one; at each moment, as these under the old one, or as none under the new one.
pub record RenewsJournal (me : ℕ) (head next : List ℕ) (es : List Event) (old new : List DiskState) {E : Type 0} (result : Result (Unit {0}) E) : Type 0 where
  pub images : OnOk result (AllOpen me next [] (disk_state_of new))
  pub since : LeavesOnly (OpensRenewed me head next es) old new
