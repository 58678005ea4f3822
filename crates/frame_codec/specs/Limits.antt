-- The limits of the values that bodies carry, beside those of `ritas_base`. `src/limits.rt` has the constants, and `limits_are` ties each
-- to its definition.
use Rattle.std.specs.Prelude.{ℕ, ◌*◌, ◌/◌}

-- an identifier list has at most so many
abbrev pub most_ids : ℕ
most_ids = 64

-- of which each of n origins has an equal share
abbrev pub share_of : ℕ → ℕ
share_of n = most_ids / n

-- the bytes of the longest list: five for each
abbrev pub longest_ids : ℕ
longest_ids = 5 * most_ids

-- the bytes of the longest entry of a vector, where it is a value that is proposed
abbrev pub longest_entry : ℕ
longest_entry = 512
