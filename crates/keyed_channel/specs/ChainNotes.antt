-- Notes of a chain: how many epochs a replica closed, and from which position on it asks for rows. They are as other notes, of
-- two forms more.
use Rattle.std.specs.Prelude.{ℕ, ◌==◌, ◌&&◌, List, Option, Some, None, if◌then◌else◌}
use Rattle.keyed_channel.specs.KeyRow.{KeyRow}
use Rattle.keyed_channel.specs.Frames.{sender_of, is_tagged}
use Rattle.keyed_channel.specs.Notes.{sealed_note, note_form, note_number, is_plain_note}
use Rattle.keyed_channel.specs.declared.chain_note.ChainNote.{ChainNote}
use Rattle.keyed_channel.specs.declared.chain_note.ChainNote.TheVariants.{Closed, Ask}

-- form 3 says that so many epochs were closed, and form 4 asks for the rows of the chain from a position on
abbrev pub closed_note : KeyRow → ℕ → ℕ → List ℕ
closed_note k to epochs = sealed_note k to 3 epochs

abbrev pub ask_note : KeyRow → ℕ → ℕ → List ℕ
ask_note k to position = sealed_note k to 4 position

-- what a form and a number say
abbrev pub chain_note_of : ℕ → ℕ → ℕ → Option ChainNote
chain_note_of from form number = if form == 3 then Some (Closed from number) else if form == 4 then Some (Ask from number) else None

-- what a note of a chain says, if it is one, for me and from another replica, with a right tag
unfoldable pub chain_noted : KeyRow → List ℕ → Option ChainNote
chain_noted k bytes = if is_plain_note k bytes && is_tagged k bytes then chain_note_of (sender_of bytes) (note_form bytes) (note_number bytes) else None
