-- Votes as rows: the set of those who voted, a row for each replica, and the set of those whose vote is in theirs.
-- Where votes aren't counted any more the rows are dropped, and who voted stays.
use Rattle.std.specs.Prelude.{◌≡◌, ℕ, ◌<◌, Bool, true, false, List, [], length, map, Option, Some, None, if◌then◌else◌, slice_index_or, ◌⊎◌}
use Rattle.ritas_base.specs.Members.{has_member}
use Rattle.ritas_base.specs.History.{replicas}

-- what is kept of the value that k gave
abbrev pub row_in : ℕ → List (List ℕ) → ℕ → List ℕ
row_in kept rows k = if has_member kept k then slice_index_or rows k [] else []

-- the value that k gave, the empty one where it isn't kept
abbrev pub vote_in : ℕ → ℕ → List (List ℕ) → ℕ → Option (List ℕ)
vote_in voters kept rows k = if has_member voters k then Some (row_in kept rows k) else None

-- the value that each replica gave
abbrev pub votes_of : ℕ → ℕ → ℕ → List (List ℕ) → List (Option (List ℕ))
votes_of n voters kept rows = map (vote_in voters kept rows) (replicas n)

-- there are rows for all replicas or for none, and a row for each vote that is kept
pub record HasVoteRows (n voters kept : ℕ) (rows : List (List ℕ)) : Type 0 where
  pub whole : (rows ≡ []) ⊎ (length rows ≡ n)
  pub there : (k : ℕ) → has_member kept k ≡ true → k < length rows
  pub voted : (k : ℕ) → has_member kept k ≡ true → has_member voters k ≡ true

-- ---- votes whose values are dropped

abbrev pub without_value : Option (List ℕ) → Option (List ℕ)
without_value None = None
without_value (Some d) = Some []

-- who voted is left alone
abbrev pub without_values : List (Option (List ℕ)) → List (Option (List ℕ))
without_values votes = map without_value votes

-- where they are dropped
abbrev pub dropped_if : Bool → List (Option (List ℕ)) → List (Option (List ℕ))
dropped_if true votes = without_values votes
dropped_if false votes = votes

-- what is kept of the value of a vote, where values are dropped or not
abbrev pub kept_value : Bool → List ℕ → List ℕ
kept_value true d = []
kept_value false d = d
