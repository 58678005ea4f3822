-- How the frames that a replica makes for one receiver, and how many there are, follow from those of each entry.
use Rattle.std.specs.Prelude.{◌≡◌, ◌≢◌, ℕ, ◌+◌, ◌<◌, ◌==◌, List, ◌∷◌, ◌++◌, length, filter, map, reverse}
use Rattle.keyed_channel.specs.KeyRow.{KeyRow}
use Rattle.ritas_core.specs.Rules.{Rules}
use Rattle.ritas_core.specs.Parts.{Entry}
use Rattle.replica.specs.Out.{OutFrame}
use Rattle.replica.specs.Frames.{count_for, new_frames, made_for}
use Rattle.replica.specs.Stands.{frames_made}

-- the frames that are for j, in their order
abbrev pub bytes_for : ℕ → List OutFrame → List (List ℕ)
bytes_for j frames = map (λ f. f.bytes) (filter (λ f. f.to == j) frames)

-- those made for another replica by an entry are those that go out for it, the newest first
abbrev pub MadeByEntry : Type 0
MadeByEntry = (r : Rules) (k : KeyRow) (h : List Entry) (e : Entry) (j : ℕ) → j < k.n → j ≢ k.me
    → made_for r k (e ∷ h) j ≡ reverse (bytes_for j (new_frames r k h e)) ++ made_for r k h j

-- there are as many for a receiver as were counted for it
abbrev pub MadeLength : Type 0
MadeLength = (r : Rules) (k : KeyRow) (h : List Entry) (j : ℕ) → length (made_for r k h j) ≡ count_for r h j

-- an entry makes as many as go out by it
abbrev pub MadeInAll : Type 0
MadeInAll = (r : Rules) (k : KeyRow) (h : List Entry) (e : Entry) → frames_made r k (e ∷ h) ≡ frames_made r k h + length (new_frames r k h e)
