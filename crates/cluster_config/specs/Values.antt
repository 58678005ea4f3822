-- The values of lines: what each kind of value reads as.
use Rattle.std.specs.Prelude.{ℕ, zero, suc, ◌+◌, ◌-◌, ◌*◌, ◌^◌, ◌==◌, ◌&&◌, Bool, true, false, List, [], ◌∷◌, ◌++◌, length, take, drop, replicate, Option, Some, None, Result, Ok, Err, nat_le, nat_lt, codes, option_and_then, option_map, if◌then◌else◌}
use Rattle.std.specs.Char.{is_ascii_digit}
use Rattle.std.specs.Str.{bytes_eq}
use Rattle.hex.specs.Hex.{decode_of, decode_sized}
use Rattle.ritas_base.specs.Limits.{longest_payload}
use Rattle.ritas_base.specs.Numbers.{Numbers}
use Rattle.ritas_base.specs.declared.mode.FrameVersion.{FrameVersion}
use Rattle.ritas_base.specs.declared.mode.FrameVersion.TheVariants.{One, Two, Three}
use Rattle.ritas_base.specs.declared.mode.Vect.{Vect}
use Rattle.ritas_base.specs.declared.mode.Vect.TheVariants.{Echo, Reliable}
use Rattle.ritas_base.specs.declared.plan.Order.{Order}
use Rattle.ritas_base.specs.declared.plan.Order.TheVariants.{Sweep, Random}
use Rattle.ritas_base.specs.declared.plan.Attack.{Attack}
use Rattle.ritas_base.specs.declared.plan.Attack.TheVariants.{Absent, Silent, TwoFace, Flip, Garbage}
use Rattle.cluster_config.specs.declared.requests.Request.{Request}
use Rattle.cluster_config.specs.Cuts.{cut_at}

-- read, and go on with what was read
infixl 10 ◌>>=◌
abbrev pub ◌>>=◌ : {A B : Type 0} → Option A → (A → Option B) → Option B
o >>= f = option_and_then f o

-- the number that these digits write behind those of a number, where it is below 2^64
abbrev pub number_from : ℕ → List ℕ → Option ℕ
number_from number [] = Some number
number_from number (b ∷ bs) =
    if is_ascii_digit b then (if nat_lt (number * 10 + (b - 48)) (2 ^ 64) then number_from (number * 10 + (b - 48)) bs else None) else None

-- a number below 2^64 in decimal digits, without a leading zero
abbrev pub numeral : List ℕ → Option ℕ
numeral [] = None
numeral (b ∷ bs) = if b == 48 then (if length bs == 0 then Some 0 else None) else number_from 0 (b ∷ bs)

-- the greatest number of 64 bits
abbrev pub most : ℕ
most = 18446744073709551615

abbrev pub if_within : ℕ → ℕ → ℕ → Option ℕ
if_within low high number = if nat_le low number && nat_le number high then Some number else None

-- a number from low to high
abbrev pub number_in : ℕ → ℕ → List ℕ → Option ℕ
number_in low high text = option_and_then (if_within low high) (numeral text)

-- n replicas, of which so many may be faulty: n is at least three times that many, and one
abbrev pub numbers_of : ℕ → ℕ → Option Numbers
numbers_of n f = if nat_le (3 * f + 1) n then Some (record { n = n; f = f }) else None

abbrev pub numbers_in : ℕ → List ℕ → Option Numbers
numbers_in n text = option_and_then (numbers_of n) (numeral text)

abbrev pub if_ok : {A E : Type 0} → Result A E → Option A
if_ok (Ok x) = Some x
if_ok (Err e) = None

-- a key of 32 bytes, in hexadecimal digits of either case
abbrev pub key_in : List ℕ → Option (List ℕ)
key_in text = if_ok (decode_sized text 32)

-- so many keys, one behind the other
abbrev pub keys_in : ℕ → List ℕ → Option (List (List ℕ))
keys_in zero [] = Some []
keys_in zero (b ∷ bs) = None
keys_in (suc k) text = do
  key ← key_in (take 64 text)
  more ← keys_in k (drop 64 text)
  Some (key ∷ more)

-- the keys of n replicas, and zeros in the places behind them, up to 31
abbrev pub row_in : ℕ → List ℕ → Option (List (List ℕ))
row_in n text = option_map (λ keys. keys ++ replicate (31 - n) (replicate 32 0)) (keys_in n text)

-- a number up to some greatest one, which ends before the first such byte, and what stands behind that
abbrev pub number_before : ℕ → ℕ → List ℕ → Option (ℕ × List ℕ)
number_before byte high text = do
  parts ← cut_at byte text
  number ← number_in 0 high parts.0
  Some (number, parts.1)

-- four numbers of eight bits joined by dots, a colon and a port: as the text stands
abbrev pub address_in : List ℕ → Option (List ℕ)
address_in text = do
  first ← number_before 46 255 text
  second ← number_before 46 255 first.1
  third ← number_before 46 255 second.1
  fourth ← number_before 58 255 third.1
  port ← number_in 1 65535 fourth.1
  Some text

-- bytes in two hexadecimal digits each, from one byte to the most that a request asks; a hyphen is no byte
abbrev pub payload_in : List ℕ → Option (List ℕ)
payload_in text = if bytes_eq text (codes "-") then Some []
    else (if nat_le 2 (length text) && nat_le (length text) (2 * longest_payload) then if_ok (decode_of text) else None)

-- a replica below n, a client, a request and its bytes, with a space between them
abbrev pub request_of_line : ℕ → List ℕ → Option Request
request_of_line n text = do
  at ← number_before 32 (n - 1) text
  client ← number_before 32 4294967295 at.1
  request ← number_before 32 4294967295 client.1
  payload ← payload_in request.1
  Some (record { at = at.0; client = client.0; request = request.0; payload = payload })

-- a version of frames
abbrev pub version_in : List ℕ → Option FrameVersion
version_in text = if bytes_eq text (codes "1") then Some One
    else (if bytes_eq text (codes "2") then Some Two
    else (if bytes_eq text (codes "3") then Some Three else None))

abbrev pub vect_in : List ℕ → Option Vect
vect_in text = if bytes_eq text (codes "echo") then Some Echo else (if bytes_eq text (codes "reliable") then Some Reliable else None)

abbrev pub yes_or_no_in : List ℕ → Option Bool
yes_or_no_in text = if bytes_eq text (codes "yes") then Some true else (if bytes_eq text (codes "no") then Some false else None)

abbrev pub order_in : List ℕ → Option Order
order_in text = if bytes_eq text (codes "sweep") then Some Sweep else (if bytes_eq text (codes "random") then Some Random else None)

abbrev pub attack_in : List ℕ → Option Attack
attack_in text = if bytes_eq text (codes "none") then Some Absent
    else (if bytes_eq text (codes "silent") then Some Silent
    else (if bytes_eq text (codes "twoface") then Some TwoFace
    else (if bytes_eq text (codes "flip") then Some Flip
    else (if bytes_eq text (codes "garbage") then Some Garbage else None))))
