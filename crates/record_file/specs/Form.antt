-- The form of a file of records: how many bytes a length has, how long the head is, and how long the file may be.
use Rattle.std.specs.Prelude.{ℕ, ◌+◌, ◌<◌, ◌≤◌, ◌^◌, List}
use Rattle.std.specs.Int.{w16, w32, from_be_bytes, to_be_bytes}
use Rattle.record_file.specs.declared.form.LengthWidth.{LengthWidth}
use Rattle.record_file.specs.declared.form.LengthWidth.TheVariants.{Two, Four}

-- how many bytes a length has
abbrev pub width_of : LengthWidth → ℕ
width_of Two = 2
width_of Four = 4

-- a length in so many bytes, the most significant first
abbrev pub length_text : LengthWidth → ℕ → List ℕ
length_text Two n = to_be_bytes w16 n
length_text Four n = to_be_bytes w32 n

-- the length that the first bytes say
abbrev pub length_in : LengthWidth → List ℕ → ℕ
length_in Two bytes = from_be_bytes w16 bytes
length_in Four bytes = from_be_bytes w32 bytes

-- how many bytes a length has, how many the head has, and how many the file may have
pub record Form : Type 0 where
  pub width : LengthWidth
  pub head_length : ℕ
  pub limit : ℕ

-- a form that a file may have: there is room for the head and a gate, and each offset has four bytes
pub record IsForm (form : Form) : Type 0 where
  pub short : form.head_length < 256
  pub room : form.head_length + 2 ≤ form.limit
  pub low : form.limit ≤ 2 ^ 32

-- the offset of the first gate
abbrev pub first_gate : Form → ℕ
first_gate form = form.head_length + 1
