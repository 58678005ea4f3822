-- What a replica's tagger answers.
use Rattle.std.specs.Prelude.{◌≡◌, ℕ, ◌<◌, ◌⊎◌, List, length}
use Rattle.ritas_base.specs.declared.slot.Slot.{Slot}

pub record Tags : Type 0 where
  -- the digest of a message
  pub digest : List ℕ → List ℕ
  -- the entry of (slot, echoer, verifier, digest)
  pub entry : Slot → ℕ → ℕ → List ℕ → List ℕ

-- digests have 32 bytes
abbrev pub HasDigests : Tags → Type 0
HasDigests tags = (m : List ℕ) → length (tags.digest m) ≡ 32

-- the two answer alike wherever the tagger of replica me may be asked
pub record AgreeAt (me : ℕ) (a b : Tags) : Type 0 where
  pub digest : (m : List ℕ) → a.digest m ≡ b.digest m
  pub entry : (s : Slot) (echoer verifier : ℕ) (d : List ℕ) → (echoer ≡ me) ⊎ (verifier ≡ me) → echoer < 31 → verifier < 31
      → a.entry s echoer verifier d ≡ b.entry s echoer verifier d
