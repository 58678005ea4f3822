-- A journal as a file of records: each record is the text of an event. Lists have the newest first.
use Rattle.std.specs.Prelude.{◌≡◌, ℕ, List, map, Option, Some, None}
use Rattle.std.specs.List.{AllByRecursion}
use Rattle.ritas_base.specs.declared.event.Event.{Event}
use Rattle.schedule_file.specs.FileBytes.{limit}
use Rattle.schedule_file.specs.Spelling.{event_text}
use Rattle.record_file.specs.Form.{Form}
use Rattle.record_file.specs.Reading.{AtGate, record_at}
use Rattle.record_file.specs.declared.form.LengthWidth.TheVariants.{Two}
use Rattle.record_file.specs.declared.fault.RecordFault.{RecordFault}
use Rattle.record_file.specs.declared.fault.RecordFault.TheVariants as record_faults
use Rattle.event_journal.specs.Journal.{IsRecord}
use Rattle.event_journal.specs.declared.fault.JournalFault.{JournalFault}
use Rattle.event_journal.specs.declared.fault.JournalFault.TheVariants as faults

-- the form of a journal's file: a length has two bytes, and the head 51
abbrev pub journal_form : Form
journal_form = record { width = Two; head_length = 51; limit = limit }

-- the records of events
abbrev pub event_texts : List Event → List (List ℕ)
event_texts es = map event_text es

-- a journal's fault is that of its file
abbrev pub journal_fault : RecordFault → JournalFault
journal_fault (record_faults.Foreign p) = faults.Foreign p
journal_fault (record_faults.Broken p) = faults.Broken p
journal_fault (record_faults.Full x) = faults.Full x
journal_fault record_faults.Disk = faults.Disk
journal_fault record_faults.Mem = faults.Mem

-- a record is read as the event whose text it is, or it is the text of none of this replica
abbrev pub IsReadAs : ℕ → List ℕ → Option Event → Type 0
IsReadAs me text None = (e : Event) → IsRecord me e → text ≡ event_text e → ⊥
IsReadAs me text (Some e) = IsRecord me e × (text ≡ event_text e)

-- of a file the records of some events were read, and the one at this offset is the text of none
pub record HasNoEventAt (me : ℕ) (file : List ℕ) (p : ℕ) : Type 0 where
  pub es : List Event
  pub each : AllByRecursion (IsRecord me) es
  pub here : AtGate journal_form file p (event_texts es)
  pub text : List ℕ
  pub found : record_at journal_form file p ≡ Some text
  pub none : IsReadAs me text None
