-- A file of records, and for which records it stands. Lists of records have the newest first.
--
-- Byte 0 is 1 where the file is made; the head follows, and the records. A record is an open gate, which is 1, a length, and so
-- many bytes. A closed gate stands behind the last record, and what follows it counts for nothing.
use Rattle.std.specs.Prelude.{◌≡◌, ◌≢◌, ◌⊎◌, ℕ, ◌+◌, ◌<◌, ◌≤◌, ◌^◌, List, [], ◌∷◌, ◌++◌, length, drop, reverse, slice_index}
use Rattle.std.specs.List.{flat_map, AllByRecursion}
use Rattle.record_file.specs.Form.{Form, width_of, length_text}

-- bytes that may stand in a file: their length fits its field
abbrev pub IsRecord : Form → List ℕ → Type 0
IsRecord form r = length r < 256 ^ width_of form.width

-- a length, and so many bytes
abbrev pub sized : Form → List ℕ → List ℕ
sized form r = length_text form.width (length r) ++ r

-- an open gate, and the length of a record
abbrev pub front_text : Form → ℕ → List ℕ
front_text form size = 1 ∷ length_text form.width size

abbrev pub record_text : Form → List ℕ → List ℕ
record_text form r = 1 ∷ sized form r

-- the texts of records, the oldest first
abbrev pub records : Form → List (List ℕ) → List ℕ
records form rs = flat_map (record_text form) (reverse rs)

-- records that are appended together, and the closed gate behind them
abbrev pub group_text : Form → List (List ℕ) → List ℕ
group_text form rs = records form rs ++ 0 ∷ []

-- a text is that of such records
pub record IsGroup (form : Form) (text : List ℕ) : Type 0 where
  pub rs : List (List ℕ)
  pub each : AllByRecursion (IsRecord form) rs
  pub text_is : text ≡ group_text form rs

-- what is written behind the closed gate: these records but for their first gate, and the next closed gate
abbrev pub behind_text : Form → List (List ℕ) → List ℕ
behind_text form rs = drop 1 (group_text form rs)

-- a made file up to the closed gate
abbrev pub closed_front : Form → List ℕ → List (List ℕ) → List ℕ
closed_front form head rs = 1 ∷ head ++ records form rs

-- a made file, which opens as these records
pub record Opens (form : Form) (head file : List ℕ) (rs : List (List ℕ)) : Type 0 where
  pub gate : ℕ
  pub rest : List ℕ
  pub text : file ≡ closed_front form head rs ++ gate ∷ rest
  pub shut : gate ≢ 1
  pub each : AllByRecursion (IsRecord form) rs
  pub size : length file ≤ form.limit

-- a file that isn't made
abbrev pub IsUnmade : Form → List ℕ → Type 0
IsUnmade form file = (length file < form.head_length + 2) ⊎ (slice_index file 0 ≢ 1)

-- a file opens as these records: one that isn't made as none
abbrev pub OpensAs : Form → List ℕ → List ℕ → List (List ℕ) → Type 0
OpensAs form head file rs = (IsUnmade form file × (length file ≤ form.limit) × (rs ≡ [])) ⊎ Opens form head file rs
