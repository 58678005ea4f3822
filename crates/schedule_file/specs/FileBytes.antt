-- Reading the bytes and numbers of a file.
use Rattle.std.specs.Prelude.{ℕ, zero, suc, ◌+◌, Bool, true, false, List, [], ◌∷◌, Result, Ok, Err, nat_lt, if◌then◌else◌}
use Rattle.std.specs.Int.{w16, w32, w64, from_be_bytes}
use Rattle.schedule_file.specs.declared.fault.FileFault.{FileFault}
use Rattle.schedule_file.specs.declared.fault.FileFault.TheVariants.{Truncated, Trailing, TooLong, Read, Mem}
use Rattle.schedule_file.specs.Reading.{Spot, ◌>>=◌, FailsBut, GivesBut}

-- a file has at most so many bytes
abbrev pub limit : ℕ
limit = 67108864

-- a fault of the source or of memory, and none of the file's bytes
abbrev pub is_outside : FileFault → Bool
is_outside Read = true
is_outside Mem = true
is_outside _ = false

abbrev pub Fails : {Y : Type 0} → FileFault → Result Y FileFault → Type 0
Fails = FailsBut is_outside

-- what a call answered is what reading the file gives, unless memory ran out or the source failed
abbrev pub GivesUnlessFailed : {X Y : Type 0} → (X → Y) → Result X FileFault → Spot → Result (Y × Spot) FileFault → Type 0
GivesUnlessFailed = GivesBut is_outside

-- the next byte; no byte behind the limit is looked at
abbrev pub byte_from : ℕ → List ℕ → Result (ℕ × Spot) FileFault
byte_from at [] = Err (Truncated at)
byte_from at (b ∷ rest) = if nat_lt at limit then Ok (b, record { at = at + 1; rest = rest }) else Err TooLong

unfoldable pub byte_at : Spot → Result (ℕ × Spot) FileFault
byte_at s = byte_from s.at s.rest

-- no byte follows
abbrev pub end_from : ℕ → List ℕ → Result (Unit {0} × Spot) FileFault
end_from at [] = Ok (tt, record { at = at; rest = [] })
end_from at (b ∷ rest) = if nat_lt at limit then Err (Trailing at) else Err TooLong

unfoldable pub end_at : Spot → Result (Unit {0} × Spot) FileFault
end_at s = end_from s.at s.rest

-- so many bytes
unfoldable pub bytes_at : ℕ → Spot → Result (List ℕ × Spot) FileFault
bytes_at zero s = Ok ([], s)
bytes_at (suc n) s = do
  b ← byte_at s
  more ← bytes_at n b.1
  Ok (b.0 ∷ more.0, more.1)

-- numbers, big-endian
unfoldable pub u16_at : Spot → Result (ℕ × Spot) FileFault
u16_at s = do
  b ← bytes_at 2 s
  Ok (from_be_bytes w16 b.0, b.1)

unfoldable pub u32_at : Spot → Result (ℕ × Spot) FileFault
u32_at s = do
  b ← bytes_at 4 s
  Ok (from_be_bytes w32 b.0, b.1)

unfoldable pub u64_at : Spot → Result (ℕ × Spot) FileFault
u64_at s = do
  b ← bytes_at 8 s
  Ok (from_be_bytes w64 b.0, b.1)

-- a length of two bytes, and so many bytes
unfoldable pub text_at : Spot → Result (List ℕ × Spot) FileFault
text_at s = do
  len ← u16_at s
  bytes_at len.0 len.1
