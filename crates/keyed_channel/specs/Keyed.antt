-- The keyed strings: what is tagged, and under which key. All numbers are big-endian.
use Rattle.std.specs.Prelude.{ℕ, Bool, ◌==◌, min, max, List, [], ◌∷◌, ◌++◌, map, slice_index, if◌then◌else◌}
use Rattle.std.specs.List.{range_with_len}
use Rattle.std.specs.Int.{w64, to_be_bytes, bit_at}
use Rattle.sha2.specs.Sha256.{sha256}
use Rattle.ritas_base.specs.Slots.{slot_bytes}
use Rattle.ritas_base.specs.declared.mode.FrameVersion.{FrameVersion}
use Rattle.ritas_base.specs.declared.mode.FrameVersion.TheVariants.{One}
use Rattle.ritas_base.specs.Tags.{Tags}
use Rattle.ritas_base.specs.declared.slot.Slot.{Slot}
use Rattle.keyed_channel.specs.Hmac.{hmac_of}
use Rattle.ritas_base.specs.Bytes.{filled_row}
use Rattle.keyed_channel.specs.KeyRow.{KeyRow, key_with}

-- ---- keys

-- what is tagged for the key that replicas i and j share
abbrev pub pair_string : ℕ → ℕ → ℕ → List ℕ
pair_string session i j = 0x4b ∷ to_be_bytes w64 session ++ min i j ∷ max i j ∷ []

-- the key that replicas i and j share
abbrev pub pair_key : List ℕ → ℕ → ℕ → ℕ → List ℕ
pair_key master session i j = hmac_of master (pair_string session i j)

-- what is tagged for the coin key of replica i
abbrev pub coin_key_string : ℕ → ℕ → List ℕ
coin_key_string session i = 0x53 ∷ to_be_bytes w64 session ++ i ∷ []

-- the coin key of replica i
abbrev pub coin_key_of : List ℕ → ℕ → ℕ → List ℕ
coin_key_of master session i = hmac_of master (coin_key_string session i)

-- the keys that replica i shares with each of the n replicas
abbrev pub dealt_keys : List ℕ → ℕ → ℕ → ℕ → List (List ℕ)
dealt_keys master session n i = map (pair_key master session i) (range_with_len 0 n)

-- the keys of replica i, dealt from a master key
abbrev pub dealt : List ℕ → ℕ → ℕ → ℕ → KeyRow
dealt master session n i =
    record { session = session; n = n; me = i; row = filled_row (dealt_keys master session n i); version = One }

-- the same for frames of this version
abbrev pub dealt_for : FrameVersion → List ℕ → ℕ → ℕ → ℕ → KeyRow
dealt_for version master session n i = record (dealt master session n i) { version = version }

-- ---- entries of the hash matrix

-- what is tagged for the entry of an echoer for a verifier over a digest, at a slot
abbrev pub entry_string : ℕ → Slot → ℕ → ℕ → List ℕ → List ℕ
entry_string session slot echoer verifier digest =
    0x45 ∷ to_be_bytes w64 session ++ slot_bytes slot ++ echoer ∷ verifier ∷ digest

-- the entry, under the key that the echoer and the verifier share
abbrev pub keyed_entry : List ℕ → ℕ → Slot → ℕ → ℕ → List ℕ → List ℕ
keyed_entry key session slot echoer verifier digest = hmac_of key (entry_string session slot echoer verifier digest)

-- the one of the two that isn't me
abbrev pub other_of_two : ℕ → ℕ → ℕ → ℕ
other_of_two me echoer verifier = if echoer == me then verifier else echoer

-- what a replica with these keys tags
abbrev pub tags_of : KeyRow → Tags
tags_of k = record {
  digest = sha256;
  entry = λ slot echoer verifier digest.
      keyed_entry (key_with k (other_of_two k.me echoer verifier)) k.session slot echoer verifier digest;
}

-- ---- coins

-- a coin key, and the session that it tosses for
pub record CoinSeed : Type 0 where
  pub session : ℕ
  pub key : List ℕ

-- what is tagged for the coin of a slot
abbrev pub coin_string : ℕ → Slot → List ℕ
coin_string session slot = 0x43 ∷ to_be_bytes w64 session ++ slot_bytes slot

-- the tag of a slot under the coin key
abbrev pub coin_of : CoinSeed → Slot → List ℕ
coin_of c slot = hmac_of c.key (coin_string c.session slot)

-- bit 0 of its first byte
abbrev pub coin_bit : CoinSeed → Slot → Bool
coin_bit c slot = bit_at (slice_index (coin_of c slot) 0) 0 == 1
