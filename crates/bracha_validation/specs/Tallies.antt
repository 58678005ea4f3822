-- Votes and their counts.
use Rattle.std.specs.Prelude.{◌≡◌, ℕ, ◌+◌, List, ◌++◌, length, replicate}
use Rattle.bracha_validation.specs.declared.tally.Tally.{Tally}
use Rattle.ritas_base.specs.Numbers.{Numbers}
use Rattle.bracha_validation.specs.Votes.{votes, may_give}

abbrev pub vote_count : Tally → ℕ
vote_count t = t.zeros + t.ones + t.nones

-- votes of these counts, one value after the other
abbrev pub tally_votes : Tally → List ℕ
tally_votes t = replicate t.zeros 0 ++ replicate t.ones 1 ++ replicate t.nones 2

-- the votes have these counts, and no other value is among them
pub record IsTally (t : Tally) (vs : List ℕ) : Type 0 where
  pub zeros : votes 0 vs ≡ t.zeros
  pub ones : votes 1 vs ≡ t.ones
  pub nones : votes 2 vs ≡ t.nones
  pub all : length vs ≡ vote_count t

-- whether some set of n - f votes gives a value depends on the counts of the votes alone
abbrev pub DependsOnCounts : Type 0
DependsOnCounts =
    (p : Numbers) (step value : ℕ) (t : Tally) (vs : List ℕ) → IsTally t vs → may_give p step value vs ≡ may_give p step value (tally_votes t)
