-- Rows of the chain that one replica sends another: bytes as of a sealed frame, whose first byte is that of no version.
use Rattle.std.specs.Prelude.{ℕ, Bool, ◌==◌, ◌&&◌, nat_le, List, ◌∷◌, ◌++◌, length, Option, Some, None, if◌then◌else◌}
use Rattle.std.specs.Int.{w64, to_be_bytes}
use Rattle.keyed_channel.specs.Lengths.{least_frame}
use Rattle.keyed_channel.specs.KeyRow.{KeyRow, key_with}
use Rattle.keyed_channel.specs.Frames.{with_tag, version_of, sender_of, receiver_of, seq_of, frame_body, is_peer, is_tagged}

-- the bytes without their tag: 0x52, sender, receiver, the position of the first row, body
abbrev pub rows_front : ℕ → ℕ → ℕ → List ℕ → List ℕ
rows_front from to position body = 0x52 ∷ from ∷ to ∷ to_be_bytes w64 position ++ body

-- the front, with its tag under the key of sender and receiver
abbrev pub sealed_rows : KeyRow → ℕ → ℕ → List ℕ → List ℕ
sealed_rows k to position body = with_tag (key_with k to) (rows_front k.me to position body)

-- what begins as rows is none of a frame and no note
abbrev pub is_rows : List ℕ → Bool
is_rows bytes = version_of bytes == 0x52

-- what was sent, from which position on, and by whom
pub record SentRows : Type 0 where
  pub from : ℕ
  pub position : ℕ
  pub body : List ℕ

abbrev pub sent_parts : List ℕ → SentRows
sent_parts bytes = record { from = sender_of bytes; position = seq_of bytes; body = frame_body bytes }

-- the tests that need no key: its length, its first byte, that it is for me, and that it is of another replica
abbrev pub is_plain_rows : KeyRow → List ℕ → Bool
is_plain_rows k bytes = nat_le least_frame (length bytes) && (is_rows bytes && (receiver_of bytes == k.me && is_peer k (sender_of bytes)))

-- what was sent, if the bytes are rows, for me and from another replica, with a right tag
unfoldable pub rows_opening : KeyRow → List ℕ → Option SentRows
rows_opening k bytes = if is_plain_rows k bytes && is_tagged k bytes then Some (sent_parts bytes) else None
