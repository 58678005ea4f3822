-- A journal's fault says which its file's was.
use Rattle.std.proofs.Common.{◌≡◌, ap, ◌∙◌, sym, refl, Result, Ok, Err}
use Rattle.std.specs.Result.{IsErrAnd}
use Rattle.record_file.specs.declared.fault.RecordFault.{RecordFault}
use Rattle.record_file.specs.declared.fault.RecordFault.TheVariants as record_faults
use Rattle.event_journal.specs.declared.fault.JournalFault.{JournalFault}
use Rattle.event_journal.specs.declared.fault.JournalFault.TheVariants as faults
use Rattle.event_journal.specs.EventRecords.{journal_fault}

abbrev pub record_fault : JournalFault → RecordFault
record_fault (faults.Foreign p) = record_faults.Foreign p
record_fault (faults.Broken p) = record_faults.Broken p
record_fault (faults.Full x) = record_faults.Full x
record_fault faults.Disk = record_faults.Disk
record_fault faults.Mem = record_faults.Mem

back : (fault : RecordFault) → record_fault (journal_fault fault) ≡ fault
back (record_faults.Foreign p) = refl
back (record_faults.Broken p) = refl
back (record_faults.Full x) = refl
back record_faults.Disk = refl
back record_faults.Mem = refl

pub was_fault : (fault : RecordFault) (given one : JournalFault) → given ≡ journal_fault fault → given ≡ one → fault ≡ record_fault one
was_fault fault given one is same = sym (back fault) ∙ ap record_fault (sym is ∙ same)

-- the same of what a `?` answers
pub from_fault : {A : Type 0} (r : Result A JournalFault) (fault : RecordFault) (one : JournalFault) → IsErrAnd r (λ given. given ≡ journal_fault fault) → r ≡ Err one → fault ≡ record_fault one
from_fault (Ok x) fault one is same = absurd (cc same)
from_fault (Err given) fault one is same =
    let equal : given ≡ one = cc same in
    was_fault fault given one is equal
