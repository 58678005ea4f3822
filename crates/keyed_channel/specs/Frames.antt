-- Sealed frames, and what opens.
use Rattle.std.specs.Prelude.{ℕ, Bool, not, ◌==◌, ◌&&◌, ◌-◌, nat_le, nat_lt, List, [], ◌∷◌, ◌++◌, length, take, drop, slice_index, slice_range, Option, Some, None, Result, Ok, Err}
use Rattle.std.specs.Int.{w64, to_be_bytes, from_be_bytes}
use Rattle.std.specs.Str.{bytes_eq}
use Rattle.ritas_base.specs.declared.mode.FrameVersion.{FrameVersion}
use Rattle.ritas_base.specs.Limits.{longest_frame}
use Rattle.keyed_channel.specs.Lengths.{head_length, tag_length, least_frame}
use Rattle.keyed_channel.specs.Hmac.{hmac_of}
use Rattle.keyed_channel.specs.KeyRow.{KeyRow, key_with}
use Rattle.keyed_channel.specs.declared.frame.OpenFault.{OpenFault}
use Rattle.keyed_channel.specs.declared.frame.OpenFault.TheVariants as faults
use Rattle.ritas_base.specs.Bytes.{version_byte}
use Rattle.ritas_base.specs.Places.{first_failed}

-- ---- sealing

-- the frame without its tag: version, sender, receiver, sequence number, body
abbrev pub frame_front : FrameVersion → ℕ → ℕ → ℕ → List ℕ → List ℕ
frame_front version from to seq body = version_byte version ∷ from ∷ to ∷ to_be_bytes w64 seq ++ body

-- a front with its tag under a key
abbrev pub with_tag : List ℕ → List ℕ → List ℕ
with_tag key front = front ++ hmac_of key front

-- the frame: its front, with the front's tag under the key of sender and receiver
abbrev pub sealed : KeyRow → ℕ → ℕ → List ℕ → List ℕ
sealed k to seq body = with_tag (key_with k to) (frame_front k.version k.me to seq body)

-- ---- the parts of a frame

abbrev pub version_of : List ℕ → ℕ
version_of bytes = slice_index bytes 0

abbrev pub sender_of : List ℕ → ℕ
sender_of bytes = slice_index bytes 1

abbrev pub receiver_of : List ℕ → ℕ
receiver_of bytes = slice_index bytes 2

abbrev pub seq_of : List ℕ → ℕ
seq_of bytes = from_be_bytes w64 (slice_range bytes 3 head_length)

abbrev pub frame_body : List ℕ → List ℕ
frame_body bytes = slice_range bytes head_length (length bytes - tag_length)

abbrev pub tagged_front : List ℕ → List ℕ
tagged_front bytes = take (length bytes - tag_length) bytes

abbrev pub tag_of : List ℕ → List ℕ
tag_of bytes = drop (length bytes - tag_length) bytes

-- ---- opening

-- what a frame says, and who sent it
pub record Opening : Type 0 where
  pub from : ℕ
  pub seq : ℕ
  pub body : List ℕ

abbrev pub opening_parts : List ℕ → Opening
opening_parts bytes = record { from = sender_of bytes; seq = seq_of bytes; body = frame_body bytes }

-- a replica that isn't me
abbrev pub is_peer : KeyRow → ℕ → Bool
is_peer k j = nat_lt j k.n && not (j == k.me)

-- the tests that need no key, each with the fault where it fails: of the length, and of the version, the sender and the receiver that it names
abbrev pub parts_tests : KeyRow → ℕ → ℕ → ℕ → ℕ → List (Bool × OpenFault)
parts_tests k long version from to =
    (nat_le least_frame long, faults.Short)
    ∷ (nat_le long longest_frame, faults.Long)
    ∷ (version == version_byte k.version, faults.Version)
    ∷ (to == k.me, faults.NotMine)
    ∷ (is_peer k from, faults.NoSuchReplica)
    ∷ []

abbrev pub plain_tests : KeyRow → List ℕ → List (Bool × OpenFault)
plain_tests k bytes = parts_tests k (length bytes) (version_of bytes) (sender_of bytes) (receiver_of bytes)

-- whether the tag is that of the front, under the key shared with the sender
abbrev pub is_tagged : KeyRow → List ℕ → Bool
is_tagged k bytes = bytes_eq (hmac_of (key_with k (sender_of bytes)) (tagged_front bytes)) (tag_of bytes)

abbrev pub plain_fault : KeyRow → List ℕ → Option OpenFault
plain_fault k bytes = first_failed (plain_tests k bytes)

abbrev pub open_fault : KeyRow → List ℕ → Option OpenFault
open_fault k bytes = first_failed (plain_tests k bytes ++ (is_tagged k bytes, faults.BadTag) ∷ [])

abbrev pub opening_but : Option OpenFault → Opening → Result Opening OpenFault
opening_but None parts = Ok parts
opening_but (Some fault) parts = Err fault

-- the first fault that holds, or the parts of the frame
unfoldable pub opening : KeyRow → List ℕ → Result Opening OpenFault
opening k bytes = opening_but (open_fault k bytes) (opening_parts bytes)
