-- Notes between two replicas: that a frame was taken, and that frames are to be sent again.
use Rattle.std.specs.Prelude.{ℕ, Bool, true, ◌==◌, ◌&&◌, List, ◌∷◌, ◌++◌, length, slice_index, slice_range, Option, Some, None, if◌then◌else◌}
use Rattle.std.specs.Int.{w64, to_be_bytes, from_be_bytes}
use Rattle.ritas_base.specs.declared.mode.FrameVersion.{FrameVersion}
use Rattle.ritas_base.specs.declared.mode.FrameVersion.TheVariants.{One, Two, Three}
use Rattle.keyed_channel.specs.Lengths.{note_front_length, note_length}
use Rattle.keyed_channel.specs.Hmac.{hmac_of}
use Rattle.keyed_channel.specs.KeyRow.{KeyRow, key_with}
use Rattle.keyed_channel.specs.Frames.{version_of, sender_of, receiver_of, is_peer, is_tagged}
use Rattle.keyed_channel.specs.declared.note.Note.{Note}
use Rattle.keyed_channel.specs.declared.note.Note.TheVariants.{Ack, Again}

-- the note without its tag: 0x4e, sender, receiver, form, number
abbrev pub note_front : ℕ → ℕ → ℕ → ℕ → List ℕ
note_front from to form number = 0x4e ∷ from ∷ to ∷ form ∷ to_be_bytes w64 number

-- the note: its front, and the front's tag under the key of sender and receiver
abbrev pub sealed_note : KeyRow → ℕ → ℕ → ℕ → List ℕ
sealed_note k to form number = note_front k.me to form number ++ hmac_of (key_with k to) (note_front k.me to form number)

-- form 1 says that the frame of a number was taken, and form 2 that frames are to be sent again, from a number on
abbrev pub ack_note : KeyRow → ℕ → ℕ → List ℕ
ack_note k to seq = sealed_note k to 1 seq

abbrev pub again_note : KeyRow → ℕ → ℕ → List ℕ
again_note k to seq = sealed_note k to 2 seq

-- this is a number from which on a replica may ask for frames: in versions 1 and 2 it is 0 alone
abbrev pub may_ask_from : FrameVersion → ℕ → Bool
may_ask_from One seq = seq == 0
may_ask_from Two seq = seq == 0
may_ask_from Three seq = true

-- what begins as a note is none of a frame
abbrev pub is_note : List ℕ → Bool
is_note bytes = version_of bytes == 0x4e

abbrev pub note_form : List ℕ → ℕ
note_form bytes = slice_index bytes 3

abbrev pub note_number : List ℕ → ℕ
note_number bytes = from_be_bytes w64 (slice_range bytes 4 note_front_length)

-- what a form and a number say in a session of a version
abbrev pub note_of : FrameVersion → ℕ → ℕ → ℕ → Option Note
note_of version from form number =
    if form == 1 then Some (Ack from number) else if form == 2 && may_ask_from version number then Some (Again from number) else None

-- the tests that need no key: its length, its first byte, that it is for me, and that it is of another replica
abbrev pub is_plain_note : KeyRow → List ℕ → Bool
is_plain_note k bytes = length bytes == note_length && (is_note bytes && (receiver_of bytes == k.me && is_peer k (sender_of bytes)))

-- what a note says, if it is one, for me and from another replica, with a right tag
unfoldable pub noted : KeyRow → List ℕ → Option Note
noted k bytes = if is_plain_note k bytes && is_tagged k bytes then note_of k.version (sender_of bytes) (note_form bytes) (note_number bytes) else None
