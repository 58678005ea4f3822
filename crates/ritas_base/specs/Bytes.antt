-- Bytes: when numbers are bytes, the byte of a version of frames, and the keys of a row.
use Rattle.std.specs.Prelude.{ℕ, ◌<◌, ◌-◌, List, ◌++◌, length, replicate, slice_index}
use Rattle.ritas_base.specs.declared.mode.FrameVersion.{FrameVersion}
use Rattle.ritas_base.specs.declared.mode.FrameVersion.TheVariants.{One, Two, Three}

-- each of these numbers is a byte
abbrev pub IsBytes : List ℕ → Type 0
IsBytes bytes = (i : ℕ) → slice_index bytes i < 256

-- the first byte of a version's frames, and the number that a file has for it
abbrev pub version_byte : FrameVersion → ℕ
version_byte One = 1
version_byte Two = 2
version_byte Three = 3

-- what stands where there is no key
abbrev pub zero_key : List ℕ
zero_key = replicate 32 0

-- these keys, and zeros up to the 31 places
abbrev pub filled_row : List (List ℕ) → List (List ℕ)
filled_row keys = keys ++ replicate (31 - length keys) zero_key
