-- Worked rows.
use Rattle.std.specs.Prelude.{◌≡◌, ◌-◌, [], ◌∷◌, replicate, length, Some, None, Err, refl}
use Rattle.ritas_base.specs.declared.slot.Slot.{Slot}
use Rattle.keyed_channel.specs.Lengths.{least_frame}
use Rattle.ritas_base.specs.Bytes.{filled_row}
use Rattle.keyed_channel.specs.KeyRow.{KeyRow}
use Rattle.keyed_channel.specs.Keyed.{pair_string, coin_key_string, entry_string, coin_string, other_of_two}
use Rattle.ritas_base.specs.declared.mode.FrameVersion.TheVariants.{One, Two, Three}
use Rattle.keyed_channel.specs.Frames.{frame_front, opening}
use Rattle.keyed_channel.specs.Epochs.{epoch_string, epoch_key}
use Rattle.keyed_channel.specs.Notes.{note_front, note_of}
use Rattle.keyed_channel.specs.ChainNotes.{chain_note_of}
use Rattle.keyed_channel.specs.RowsSent.{rows_front, rows_opening}
use Rattle.keyed_channel.specs.declared.note.Note.TheVariants.{Ack, Again}
use Rattle.keyed_channel.specs.declared.chain_note.ChainNote.TheVariants.{Closed, Ask}
use Rattle.keyed_channel.specs.declared.frame.OpenFault.TheVariants.{Short, Version, NotMine, NoSuchReplica}

-- the front of frame 258 from 3 to 1, with two bytes
front_row_of_two : frame_front Two 3 1 258 (0xaa ∷ []) ≡ 2 ∷ 3 ∷ 1 ∷ 0 ∷ 0 ∷ 0 ∷ 0 ∷ 0 ∷ 0 ∷ 1 ∷ 2 ∷ 0xaa ∷ []
front_row_of_two = refl

front_row : frame_front One 3 1 258 (0xaa ∷ 0xbb ∷ []) ≡ 1 ∷ 3 ∷ 1 ∷ 0 ∷ 0 ∷ 0 ∷ 0 ∷ 0 ∷ 0 ∷ 1 ∷ 2 ∷ 0xaa ∷ 0xbb ∷ []
front_row = refl

-- the string of replicas 5 and 2 in session 7: the lesser number comes first
pair_row : pair_string 7 5 2 ≡ 0x4b ∷ 0 ∷ 0 ∷ 0 ∷ 0 ∷ 0 ∷ 0 ∷ 0 ∷ 7 ∷ 2 ∷ 5 ∷ []
pair_row = refl

coin_key_row : coin_key_string 7 5 ≡ 0x53 ∷ 0 ∷ 0 ∷ 0 ∷ 0 ∷ 0 ∷ 0 ∷ 0 ∷ 7 ∷ 5 ∷ []
coin_key_row = refl

-- step 2 of round 1 of the binary consensus of number 4, from origin 6
abbrev slot_row : Slot
slot_row = record { class = 5; a = 4; attempt = 0; bround = 1; step = 2; origin = 6 }

coin_row : coin_string 7 slot_row ≡ 0x43 ∷ 0 ∷ 0 ∷ 0 ∷ 0 ∷ 0 ∷ 0 ∷ 0 ∷ 7 ∷ 5 ∷ 0 ∷ 0 ∷ 0 ∷ 4 ∷ 0 ∷ 1 ∷ 2 ∷ 6 ∷ []
coin_row = refl

entry_row : entry_string 7 slot_row 3 1 (0xaa ∷ 0xbb ∷ [])
    ≡ 0x45 ∷ 0 ∷ 0 ∷ 0 ∷ 0 ∷ 0 ∷ 0 ∷ 0 ∷ 7 ∷ 5 ∷ 0 ∷ 0 ∷ 0 ∷ 4 ∷ 0 ∷ 1 ∷ 2 ∷ 6 ∷ 3 ∷ 1 ∷ 0xaa ∷ 0xbb ∷ []
entry_row = refl

-- with a digest of 32 bytes it has 52
entry_length_row : length (entry_string 7 slot_row 3 1 (replicate 32 0xaa)) ≡ 52
entry_length_row = refl

other_rows : (other_of_two 3 3 1 ≡ 1) × (other_of_two 1 3 1 ≡ 3) × (other_of_two 3 3 3 ≡ 3)
other_rows = (refl, refl, refl)

-- replica 1 of 4
abbrev keys_row : KeyRow
keys_row = record { session = 7; n = 4; me = 1; row = filled_row (replicate 4 (replicate 32 9)); version = One }

-- one byte less than the shortest frame is too few, and then the first byte, the receiver and the sender are tested
opening_rows : (opening keys_row (replicate (least_frame - 1) 1) ≡ Err Short)
    × (opening keys_row (2 ∷ 1 ∷ 0 ∷ replicate 40 0) ≡ Err Version)
    × (opening keys_row (1 ∷ 1 ∷ 0 ∷ replicate 40 0) ≡ Err NotMine)
    × (opening keys_row (1 ∷ 1 ∷ 1 ∷ replicate 40 0) ≡ Err NoSuchReplica)
    × (opening keys_row (1 ∷ 4 ∷ 1 ∷ replicate 40 0) ≡ Err NoSuchReplica)
unfolding opening
opening_rows = (refl, refl, refl, refl, refl)

-- the same in version 2, where a frame of version 1 doesn't open
abbrev keys_row_of_two : KeyRow
keys_row_of_two = record keys_row { version = Two }

opening_rows_of_two : (opening keys_row_of_two (1 ∷ 0 ∷ 1 ∷ replicate 40 0) ≡ Err Version)
    × (opening keys_row_of_two (2 ∷ 1 ∷ 0 ∷ replicate 40 0) ≡ Err NotMine)
    × (opening keys_row_of_two (2 ∷ 4 ∷ 1 ∷ replicate 40 0) ≡ Err NoSuchReplica)
unfolding opening
opening_rows_of_two = (refl, refl, refl)

-- the front of the note that frame 258 was taken, from 3 to 1
note_row : note_front 3 1 1 258 ≡ 0x4e ∷ 3 ∷ 1 ∷ 1 ∷ 0 ∷ 0 ∷ 0 ∷ 0 ∷ 0 ∷ 0 ∷ 1 ∷ 2 ∷ []
note_row = refl

-- form 1 says its number, form 2 has number 0 in versions 1 and 2 and any in version 3, and there is no other form
note_rows : (note_of One 3 1 258 ≡ Some (Ack 3 258)) × (note_of One 3 2 0 ≡ Some (Again 3 0)) × (note_of One 3 2 1 ≡ None)
    × (note_of Two 3 2 0 ≡ Some (Again 3 0)) × (note_of Two 3 2 1 ≡ None)
    × (note_of Three 3 1 258 ≡ Some (Ack 3 258)) × (note_of Three 3 2 0 ≡ Some (Again 3 0)) × (note_of Three 3 2 258 ≡ Some (Again 3 258))
    × (note_of One 3 0 0 ≡ None) × (note_of One 3 3 0 ≡ None) × (note_of Three 3 0 0 ≡ None) × (note_of Three 3 3 0 ≡ None)
note_rows = (refl, refl, refl, refl, refl, refl, refl, refl, refl, refl, refl, refl)

-- what begins as a note doesn't open as a frame, and without its tag it is no note
note_opening_row : opening keys_row (0x4e ∷ 0 ∷ 1 ∷ 1 ∷ replicate 40 0) ≡ Err Version
unfolding opening
note_opening_row = refl

-- the string of epoch 258 in session 7; in epoch 0 a key is what it was
epoch_rows : (epoch_string 7 258 ≡ 0x58 ∷ 0 ∷ 0 ∷ 0 ∷ 0 ∷ 0 ∷ 0 ∷ 0 ∷ 7 ∷ 0 ∷ 0 ∷ 0 ∷ 0 ∷ 0 ∷ 0 ∷ 1 ∷ 2 ∷ [])
    × (epoch_key 7 0 (0xaa ∷ []) ≡ 0xaa ∷ [])
epoch_rows = (refl, refl)

-- forms 3 and 4 say their numbers, and there is no other form
chain_note_rows : (chain_note_of 3 3 258 ≡ Some (Closed 3 258)) × (chain_note_of 3 4 258 ≡ Some (Ask 3 258))
    × (chain_note_of 3 0 0 ≡ None) × (chain_note_of 3 1 0 ≡ None) × (chain_note_of 3 2 0 ≡ None) × (chain_note_of 3 5 0 ≡ None)
chain_note_rows = (refl, refl, refl, refl, refl, refl)

-- the front of rows from 3 to 1, from position 258 on, with two bytes
rows_row : rows_front 3 1 258 (0xaa ∷ 0xbb ∷ []) ≡ 0x52 ∷ 3 ∷ 1 ∷ 0 ∷ 0 ∷ 0 ∷ 0 ∷ 0 ∷ 0 ∷ 1 ∷ 2 ∷ 0xaa ∷ 0xbb ∷ []
rows_row = refl

-- one byte too few, and then another first byte, receiver and sender: the replica itself, and one that there isn't
rows_opening_rows : (rows_opening keys_row (0x52 ∷ 0 ∷ 1 ∷ replicate 39 0) ≡ None)
    × (rows_opening keys_row (1 ∷ 0 ∷ 1 ∷ replicate 40 0) ≡ None)
    × (rows_opening keys_row (0x52 ∷ 0 ∷ 0 ∷ replicate 40 0) ≡ None)
    × (rows_opening keys_row (0x52 ∷ 1 ∷ 1 ∷ replicate 40 0) ≡ None)
    × (rows_opening keys_row (0x52 ∷ 4 ∷ 1 ∷ replicate 40 0) ≡ None)
unfolding rows_opening
rows_opening_rows = (refl, refl, refl, refl, refl)
