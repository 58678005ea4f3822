-- Ballots: each value once, with the set of those who gave it.
use Rattle.std.specs.Prelude.{◌≡◌, ℕ, ◌<◌, true, false, List, [], ◌∷◌, map, Option, Some, None, if◌then◌else◌}
use Rattle.ritas_base.specs.Members.{has_member}
use Rattle.ritas_base.specs.History.{replicas}
use Rattle.reliable_bcast.specs.declared.votes.Ballot.{Ballot}

-- the value that k gave
abbrev pub ballot_value : List Ballot → ℕ → Option (List ℕ)
ballot_value [] k = None
ballot_value (b ∷ bs) k = if has_member b.voters k then Some b.value else ballot_value bs k

-- the value that each replica gave
abbrev pub votes_in : ℕ → List Ballot → List (Option (List ℕ))
votes_in n bs = map (ballot_value bs) (replicas n)

abbrev pub AreVotersWithin : ℕ → ℕ → Type 0
AreVotersWithin n voters = (k : ℕ) → has_member voters k ≡ true → k < n

-- no ballot of these is for the same value, or has one of the same voters
abbrev pub IsApartFrom : Ballot → List Ballot → Type 0
IsApartFrom b [] = Unit {0}
IsApartFrom b (c ∷ bs) =
    (b.value ≡ c.value → ⊥) × ((k : ℕ) → has_member b.voters k ≡ true → has_member c.voters k ≡ false) × IsApartFrom b bs

abbrev pub IsBallotTally : ℕ → List Ballot → Type 0
IsBallotTally n [] = Unit {0}
IsBallotTally n (b ∷ bs) = AreVotersWithin n b.voters × IsApartFrom b bs × IsBallotTally n bs
