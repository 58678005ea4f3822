-- Reading a file of records. Lists of records have the newest first.
use Rattle.std.specs.Prelude.{◌≡◌, ◌≢◌, ℕ, zero, suc, ◌+◌, ◌<◌, ◌≤◌, List, [], ◌∷◌, ◌++◌, length, take, drop, reverse, slice_index, nat_lt, ◌==◌, ◌&&◌, Option, Some, None, if◌then◌else◌}
use Rattle.std.specs.List.{AllByRecursion}
use Rattle.outside.specs.Disks.{DiskState, disk_state_of}
use Rattle.record_file.specs.Form.{Form, first_gate, length_in, width_of}
use Rattle.record_file.specs.Records.{IsRecord, IsUnmade, closed_front, sized}

-- the file that a disk holds, as it is read
abbrev pub file_seen : List DiskState → List ℕ
file_seen told = (disk_state_of told).seen

-- so many bytes, behind which a gate is left
abbrev pub whole_in : ℕ → List ℕ → Option (List ℕ)
whole_in len rest = if nat_lt len (length rest) then Some (take len rest) else None

-- the record behind an open gate, where a gate follows it
abbrev pub record_behind : Form → List ℕ → Option (List ℕ)
record_behind form bytes = whole_in (length_in form.width bytes) (drop (width_of form.width) bytes)

-- the record of a made file at an offset, where an open gate stands
abbrev pub record_at : Form → List ℕ → ℕ → Option (List ℕ)
record_at form file at = if (slice_index file 0 == 1) && (slice_index file at == 1) then record_behind form (drop (at + 1) file) else None

-- the offset of the gate behind a record, by the offset of its own
abbrev pub gate_behind : Form → ℕ → List ℕ → ℕ
gate_behind form at r = at + (width_of form.width + length r + 1)

-- ---- record by record

-- of a file these records were read, one behind the other from the first gate on, and the next gate is at this offset
abbrev pub AtGate : Form → List ℕ → ℕ → List (List ℕ) → Type 0
AtGate form file at [] = at ≡ first_gate form
AtGate form file at (r ∷ rs) = (before : ℕ) × AtGate form file before rs × (record_at form file before ≡ Some r) × (at ≡ gate_behind form before r)

-- a record, if there is one, and what follows it
abbrev pub with_rest : Option (List ℕ) → (List ℕ → List (List ℕ)) → List (List ℕ)
with_rest None rest = []
with_rest (Some r) rest = r ∷ rest r

-- the records from a gate on, the oldest first, at most so many
abbrev pub records_from : ℕ → Form → List ℕ → ℕ → List (List ℕ)
records_from zero form file at = []
records_from (suc most) form file at = with_rest (record_at form file at) (λ r. records_from most form file (gate_behind form at r))

-- all that is read of a file; none has more records than bytes
abbrev pub records_read : Form → List ℕ → List (List ℕ)
records_read form file = reverse (records_from (length file) form file (first_gate form))

-- a made file has these records in front, and a gate at this offset
pub record HasFront (form : Form) (head file : List ℕ) (at : ℕ) (rs : List (List ℕ)) : Type 0 where
  pub text : file ≡ closed_front form head rs ++ drop at file
  pub place : at ≡ length (closed_front form head rs)
  pub each : AllByRecursion (IsRecord form) rs
  pub within : at < length file

-- ---- the faults of a file

-- the bytes are those of a record behind its gate, and a gate follows
pub record BeginsRecord (form : Form) (bytes r : List ℕ) : Type 0 where
  pub fits : IsRecord form r
  pub text : bytes ≡ sized form r ++ drop (width_of form.width + length r) bytes
  pub gate : width_of form.width + length r < length bytes

-- no record and gate stand there
abbrev pub NoRecord : Form → List ℕ → Type 0
NoRecord form bytes = (r : List ℕ) (gate : ℕ) (rest : List ℕ) → IsRecord form r → bytes ≡ sized form r ++ gate ∷ rest → ⊥

-- a made file's head differs from this one first at offset p
pub record IsForeign (form : Form) (head file : List ℕ) (p : ℕ) : Type 0 where
  pub made : ¬ IsUnmade form file
  pub size : length file ≤ form.limit
  pub within : (1 ≤ p) × (p < first_gate form)
  pub before : take p file ≡ take p (1 ∷ head)
  pub differs : slice_index file p ≢ slice_index (1 ∷ head) p

-- at offset p an open gate isn't followed by a record and a gate
pub record IsBroken (form : Form) (head file : List ℕ) (p : ℕ) : Type 0 where
  pub rs : List (List ℕ)
  pub rest : List ℕ
  pub text : file ≡ closed_front form head rs ++ 1 ∷ rest
  pub each : AllByRecursion (IsRecord form) rs
  pub place : p ≡ length (closed_front form head rs)
  pub none : NoRecord form rest
  pub size : length file ≤ form.limit
