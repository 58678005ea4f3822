-- The keys of one replica.
use Rattle.std.specs.Prelude.{◌≡◌, ℕ, Bool, ◌==◌, ◌&&◌, ◌-◌, ◌<◌, ◌≤◌, List, length, drop, replicate, slice_index_or}
use Rattle.std.specs.Str.{bytes_eq}
use Rattle.ritas_base.specs.declared.mode.FrameVersion.{FrameVersion}
use Rattle.ritas_base.specs.Bytes.{zero_key}

-- the replica's number, the number of replicas, and the key that it shares with each replica: 31 places, and those
-- from n on are zero
pub record KeyRow : Type 0 where
  pub session : ℕ
  pub n : ℕ
  pub me : ℕ
  pub row : List (List ℕ)
  -- the version of the frames that are sealed and opened with them
  pub version : FrameVersion

pub record IsKeyRow (k : KeyRow) : Type 0 where
  pub mine : k.me < k.n
  pub most : k.n ≤ 31
  pub places : length k.row ≡ 31
  pub rest : drop k.n k.row ≡ replicate (31 - k.n) zero_key

-- the key that is shared with replica j
abbrev pub key_with : KeyRow → ℕ → List ℕ
key_with k j = slice_index_or k.row j zero_key

-- whether two replicas have one session, and one key for each other
abbrev pub shares_key : KeyRow → KeyRow → Bool
shares_key a b = a.session == b.session && bytes_eq (key_with a b.me) (key_with b a.me)
