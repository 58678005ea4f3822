-- Opening a file of records, making one that isn't made, and beginning one anew. Lists of records have the newest first.
use Rattle.std.specs.Prelude.{◌≡◌, ◌≢◌, ◌⊎◌, ℕ, ◌<◌, ◌≤◌, List, [], length, slice_index, Result, OnOk}
use Rattle.outside.specs.Disks.{DiskState, MayLeave, LeavesOnly, at_rest, disk_state_of}
use Rattle.record_file.specs.Form.{Form}
use Rattle.record_file.specs.Records.{IsUnmade, Opens, OpensAs}
use Rattle.record_file.specs.Appending.{AllOpen, FileState, StandsFor}

-- ---- opening

-- the file stands for these records, and every image that a stop may leave opens as them
abbrev pub OpensFile : Form → List ℕ → List DiskState → FileState → List (List ℕ) → Type 0
OpensFile form head told file rs = StandsFor file head rs × AllOpen form head rs (disk_state_of told)

-- every image opens as no records
abbrev pub OpensEmpty : Form → List ℕ → List ℕ → Type 0
OpensEmpty form head image = OpensAs form head image []

-- the image opens as no records, and so does the file, which isn't made
pub record OpensLike (form : Form) (head file image : List ℕ) : Type 0 where
  pub unmade : IsUnmade form file
  pub size : length file ≤ form.limit
  pub empty : OpensEmpty form head image

-- an image is one of this state, or opens as one of them does that isn't made
abbrev pub OpensAsKept : Form → List ℕ → DiskState → List ℕ → Type 0
OpensAsKept form head s image = MayLeave s image ⊎ ((older : List ℕ) × MayLeave s older × OpensLike form head older image)

-- ---- making

-- a file whose first byte is there and isn't 1
pub record IsClear (form : Form) (file : List ℕ) : Type 0 where
  pub some : 0 < length file
  pub other : slice_index file 0 ≢ 1
  pub size : length file ≤ form.limit

-- all of a clear file is on the disk
pub record RestsClear (form : Form) (s : DiskState) : Type 0 where
  pub file : List ℕ
  pub rests : s ≡ at_rest file
  pub clear : IsClear form file

-- the first byte is cleared, where it was missing or 1
pub record Clears (form : Form) (head : List ℕ) (old new : List DiskState) {E : Type 0} (result : Result (Unit {0}) E) : Type 0 where
  pub rests : OnOk result (RestsClear form (disk_state_of new))
  pub since : LeavesOnly (OpensEmpty form head) old new

-- the file is made
pub record Makes (form : Form) (head : List ℕ) (old new : List DiskState) {E : Type 0} (result : Result (Unit {0}) E) : Type 0 where
  pub images : OnOk result (AllOpen form head [] (disk_state_of new))
  pub since : LeavesOnly (OpensEmpty form head) old new

-- ---- beginning anew

-- it opens as these records under the old head, or isn't made, or opens as no records under the new head
abbrev pub OpensOver : Form → List ℕ → List ℕ → List (List ℕ) → List ℕ → Type 0
OpensOver form head next rs image = Opens form head image rs ⊎ OpensEmpty form next image

-- A file that opened as these records under one head is begun anew under another: at Ok every image opens as no records under the
-- new one; at each moment, as these under the old one, or as none.
pub record Renews (form : Form) (head next : List ℕ) (rs : List (List ℕ)) (old new : List DiskState) {E : Type 0} (result : Result (Unit {0}) E) : Type 0 where
  pub images : OnOk result (AllOpen form next [] (disk_state_of new))
  pub since : LeavesOnly (OpensOver form head next rs) old new
