-- What an open file of records stands for, and what comes of appending to it. Lists of records have the newest first.
use Rattle.std.specs.Prelude.{◌≡◌, ◌⊎◌, ℕ, ◌+◌, Bool, List, ◌++◌, length, Result, OnOk}
use Rattle.outside.specs.Disks.{DiskState, MayLeave, LeavesOnly, disk_state_of}
use Rattle.record_file.specs.Form.{Form}
use Rattle.record_file.specs.Records.{Opens, closed_front}
use Rattle.record_file.specs.declared.fault.RecordFault.{RecordFault}

-- what contracts see of an open file: its form, the offset of its closed gate, and whether it's live
pub record FileState : Type 0 where
  pub form : Form
  pub end : ℕ
  pub live : Bool

-- the file stands for these records
abbrev pub StandsFor : FileState → List ℕ → List (List ℕ) → Type 0
StandsFor file head rs = file.end ≡ length (closed_front file.form head rs)

-- every image that a stop may leave in a state is a made file that opens as these records
abbrev pub AllOpen : Form → List ℕ → List (List ℕ) → DiskState → Type 0
AllOpen form head rs s = (image : List ℕ) → MayLeave s image → Opens form head image rs

-- it is made, and opens as these records, with all of the new ones or with none
abbrev pub OpensWithout : Form → List ℕ → List (List ℕ) → List (List ℕ) → List ℕ → Type 0
OpensWithout form head rs more image = Opens form head image (more ++ rs) ⊎ Opens form head image rs

-- how long a file is once this text of records stands in place of its closed gate
abbrev pub length_with : FileState → List ℕ → ℕ
length_with file text = file.end + length text

-- What comes of writing behind the closed gate, and then the gate: at Ok every image opens with the new records; at each
-- moment, with all of them or with none.
pub record KeepsRecords (form : Form) (head : List ℕ) (rs more : List (List ℕ)) (old new : List DiskState) {E : Type 0} (result : Result (Unit {0}) E) : Type 0 where
  pub images : OnOk result (AllOpen form head (more ++ rs) (disk_state_of new))
  pub since : LeavesOnly (OpensWithout form head rs more) old new

-- And at Ok the file stands for the new records too.
pub record AppendsRecords (form : Form) (head : List ℕ) (rs more : List (List ℕ)) (old new : List DiskState) (file : FileState) (result : Result (Unit {0}) RecordFault) : Type 0 where
  pub stands : OnOk result (StandsFor file head (more ++ rs))
  pub kept : KeepsRecords form head rs more old new result
