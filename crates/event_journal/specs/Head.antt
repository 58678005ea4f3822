-- The head of a journal's file, which names the session and the replica.
use Rattle.std.specs.Prelude.{ℕ, List, [], ◌∷◌, ◌++◌, codes, take}
use Rattle.std.specs.List.{flat_map}
use Rattle.std.specs.Int.{w64, to_be_bytes}
use Rattle.sha2.specs.Sha256.{sha256}
use Rattle.ritas_base.specs.Numbers.{Numbers}
use Rattle.ritas_base.specs.declared.mode.Mode.{Mode}
use Rattle.ritas_base.specs.Bytes.{version_byte}
use Rattle.schedule_file.specs.Spelling.{vect_byte}

-- RITJ, 1 and the session
abbrev pub session_text : ℕ → List ℕ
session_text session = codes "RITJ" ++ (1 ∷ to_be_bytes w64 session)

-- how many replicas there are, how many of them may be faulty, the root service, the broadcast of VECTs, the version of frames, and
-- which replica it is
abbrev pub place_text : Numbers → Mode → ℕ → List ℕ
place_text p mode me = p.n ∷ p.f ∷ mode.root ∷ vect_byte mode.vect ∷ version_byte mode.version ∷ me ∷ []

-- the digest of the keys that the replica shares with each, and of the key of its coins
abbrev pub keys_digest : List (List ℕ) → List ℕ → List ℕ
keys_digest keys coin = sha256 (flat_map (λ key. key) keys ++ coin)

-- the head of a replica's journal, where the first n keys of a row are its own
abbrev pub head_of : ℕ → Numbers → Mode → ℕ → List (List ℕ) → List ℕ → List ℕ
head_of session p mode me row coin = session_text session ++ (place_text p mode me ++ keys_digest (take p.n row) coin)
