-- Sets of origins, of which each may have any number that a byte has: eight sets of 32 numbers each.
use Rattle.std.specs.Prelude.{ℕ, ◌/◌, ◌%◌, Bool, slice_index_or, replicate}
use Rattle.ritas_base.specs.Members.{has_member}
use Rattle.command_log.specs.declared.origins.OriginSet.{OriginSet}
use Rattle.command_log.specs.Rows.{count_origins}

-- whether an origin is in the set
abbrev pub has_origin : OriginSet → ℕ → Bool
has_origin s k = has_member (slice_index_or s.sets (k / 32) 0) (k % 32)

-- how many are
abbrev pub origin_count : OriginSet → ℕ
origin_count s = count_origins (has_origin s)

-- none is
abbrev pub no_origins : OriginSet
no_origins = record { sets = replicate 8 0 }
