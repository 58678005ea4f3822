-- The proposals that are kept: whose are there, and those alone, in the order of the replicas.
use Rattle.std.specs.Prelude.{◌≡◌, ℕ, ◌<◌, ◌≤◌, ◌^◌, List, map, length, Option, Some, None, is_some, slice_set}
use Rattle.std.specs.List.{slice_get, All}
use Rattle.std.specs.Simd.Lanes.{mask_l}
use Rattle.vector_consensus.specs.Consensus.{present}

-- a mask of replicas, and a proposal of each
pub record KeptProposals : Type 0 where
  pub places : ℕ
  pub entries : List (List ℕ)

-- of what each replica proposed, if anything, this is kept
pub record AreKeptProposals (os : List (Option (List ℕ))) (t : KeptProposals) : Type 0 where
  pub most : length os ≤ 32
  pub places : t.places ≡ mask_l (map is_some os)
  pub entries : t.entries ≡ present os

-- it is what is kept of some proposals, and each is short enough for a vector
pub record AreSome (t : KeptProposals) : Type 0 where
  pub proposed : List (Option (List ℕ))
  pub all : length proposed ≡ 32
  pub kept : AreKeptProposals proposed t
  pub short : All (λ v. length v < 2 ^ 16) t.entries

-- a replica of which nothing is there proposes a value
abbrev pub KeepsProposal : ℕ → List ℕ → KeptProposals → KeptProposals → Type 0
KeepsProposal k v old new =
    (os : List (Option (List ℕ))) → AreKeptProposals os old → slice_get os k ≡ Some None → length v < 2 ^ 16 → AreKeptProposals (slice_set os k (Some v)) new
