-- The text of the keys that are dealt to all replicas of a session.
use Rattle.std.specs.Prelude.{ℕ, List, [], ◌∷◌, ◌++◌, codes, decimal}
use Rattle.std.specs.List.{concat, flat_map}
use Rattle.hex.specs.Hex.{encode_lower}
use Rattle.ritas_base.specs.History.{replicas}
use Rattle.keyed_channel.specs.Keyed.{dealt_keys, coin_key_of}

-- the line of one replica's keys: its number, the keys that it shares with each of n replicas, and its coin's key, in hexadecimal digits
abbrev pub key_row : List ℕ → ℕ → ℕ → ℕ → List ℕ
key_row master session n i =
    codes "row " ++ (decimal i ++ (32 ∷ encode_lower (concat (dealt_keys master session n i)) ++ (32 ∷ encode_lower (coin_key_of master session i) ++ 10 ∷ [])))

-- those of all n, in their order
abbrev pub key_rows : List ℕ → ℕ → ℕ → List ℕ
key_rows master session n = flat_map (key_row master session n) (replicas n)
