-- HMAC over SHA-256 (RFC 2104), on lists of bytes.
use Rattle.std.specs.Prelude.{ℕ, ◌-◌, List, ◌++◌, length, map, replicate, bit_xor}
use Rattle.sha2.specs.Sha256.{sha256}

-- the key, filled up with zeros to a block of 64 bytes
abbrev pub block_key : List ℕ → List ℕ
block_key key = key ++ replicate (64 - length key) 0

-- each byte of the key's block xor the pad
abbrev pub pad : ℕ → List ℕ → List ℕ
pad byte key = map (λ x. bit_xor x byte) (block_key key)

-- H(K xor opad, H(K xor ipad, text))
unfoldable pub hmac_of : List ℕ → List ℕ → List ℕ
hmac_of key text = sha256 (pad 0x5c key ++ sha256 (pad 0x36 key ++ text))
