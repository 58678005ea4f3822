-- What is known of the frames of one peer.
use Rattle.std.specs.Prelude.{◌≡◌, ℕ, ◌<◌, ◌^◌, Bool, true, List, Option, Some, None, max}
use Rattle.std.specs.declared.ops.Bound.{Bound}
use Rattle.std.specs.declared.ops.Bound.TheVariants.{Included, Excluded, Unbounded}
use Rattle.std.specs.List.{All}
use Rattle.std.specs.Map.{values_of}
use Rattle.link_resume.specs.declared.kept.Kept.{Kept}
use Rattle.link_resume.specs.Lists.{bytes_in, IsWithin}

-- the place of each is its number
abbrev pub StandByNumber : List (ℕ × Kept) → Type 0
StandByNumber entries = All (λ e. e.0 ≡ e.1.seq) entries

-- they have so many bytes, fewer than 2^64, and each stands at the place of its number where that is said
pub record IsPeerLane (bytes : ℕ) (by_number : Bool) (entries : List (ℕ × Kept)) : Type 0 where
  pub count : bytes ≡ bytes_in (values_of entries)
  pub most : bytes_in (values_of entries) < 2 ^ 64
  pub places : by_number ≡ true → StandByNumber entries

-- the frames of each peer are within the limit
abbrev pub AreWithin : Option ℕ → List (List Kept) → Type 0
AreWithin limit lists = All (λ kept. IsWithin limit (bytes_in kept)) lists

-- the places behind that of a number, if there is one, up to that of the last number, or of the other where this is greater
abbrev pub start_behind : Option ℕ → Bound ℕ
start_behind None = Unbounded
start_behind (Some seq) = Excluded seq

abbrev pub end_at : Option ℕ → ℕ → Bound ℕ
end_at None last = Included last
end_at (Some seq) last = Included (max seq last)
