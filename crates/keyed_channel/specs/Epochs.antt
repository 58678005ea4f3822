-- The keys of the epochs of a session. Epoch 0 has the session's own, and those of each later epoch are made from them.
use Rattle.std.specs.Prelude.{ℕ, ◌==◌, List, ◌∷◌, ◌++◌, map, take, if◌then◌else◌}
use Rattle.std.specs.Int.{w64, to_be_bytes}
use Rattle.ritas_base.specs.Bytes.{filled_row}
use Rattle.keyed_channel.specs.Hmac.{hmac_of}
use Rattle.keyed_channel.specs.KeyRow.{KeyRow}
use Rattle.keyed_channel.specs.Keyed.{CoinSeed}

-- what is tagged for a key of an epoch, from 1 on
abbrev pub epoch_string : ℕ → ℕ → List ℕ
epoch_string session epoch = 0x58 ∷ to_be_bytes w64 session ++ to_be_bytes w64 epoch

-- the key of an epoch, for one of the session
abbrev pub epoch_key : ℕ → ℕ → List ℕ → List ℕ
epoch_key session epoch key = if epoch == 0 then key else hmac_of key (epoch_string session epoch)

-- a replica's keys of an epoch: those that it shares with each of the n replicas
abbrev pub epoch_keys : ℕ → KeyRow → KeyRow
epoch_keys epoch k = record k { row = filled_row (map (epoch_key k.session epoch) (take k.n k.row)) }

-- its coin of an epoch
abbrev pub epoch_seed : ℕ → CoinSeed → CoinSeed
epoch_seed epoch c = record c { key = epoch_key c.session epoch c.key }
