-- What holds of the keys of epochs, and of what two replicas that share a key note and send of a chain.
use Rattle.std.specs.Prelude.{◌≡◌, ◌≢◌, ℕ, ◌^◌, ◌<◌, ◌⊎◌, List, true, Some, None, Err}
use Rattle.ritas_base.specs.Bytes.{IsBytes}
use Rattle.ritas_base.specs.declared.mode.FrameVersion.{FrameVersion}
use Rattle.keyed_channel.specs.KeyRow.{KeyRow, IsKeyRow, shares_key}
use Rattle.keyed_channel.specs.Keyed.{dealt_for}
use Rattle.keyed_channel.specs.Epochs.{epoch_keys}
use Rattle.keyed_channel.specs.Frames.{opening, receiver_of}
use Rattle.keyed_channel.specs.Notes.{noted}
use Rattle.keyed_channel.specs.ChainNotes.{closed_note, ask_note, chain_noted}
use Rattle.keyed_channel.specs.RowsSent.{SentRows, sealed_rows, is_rows, sent_parts, rows_opening}
use Rattle.keyed_channel.specs.declared.frame.OpenFault.TheVariants.{Short, Long, Version}
use Rattle.keyed_channel.specs.declared.note.Note.{Note}
use Rattle.keyed_channel.specs.declared.chain_note.ChainNote.{ChainNote}
use Rattle.keyed_channel.specs.declared.chain_note.ChainNote.TheVariants.{Closed, Ask}

-- ---- keys

-- two replicas whose keys were dealt from one master key share one
abbrev pub DealtShareKeys : Type 0
DealtShareKeys = (version : FrameVersion) (master : List ℕ) (session n i j : ℕ) → i < n → j < n
    → shares_key (dealt_for version master session n i) (dealt_for version master session n j) ≡ true

-- the keys of epoch 0 are the session's own
abbrev pub EpochZeroKeepsKeys : Type 0
EpochZeroKeepsKeys = (k : KeyRow) → IsKeyRow k → epoch_keys 0 k ≡ k

-- two replicas that share a key share one in each epoch
abbrev pub EpochsShareKeys : Type 0
EpochsShareKeys = (epoch : ℕ) (a b : KeyRow) → IsKeyRow a → IsKeyRow b → a.me < b.n → b.me < a.n → shares_key a b ≡ true
    → shares_key (epoch_keys epoch a) (epoch_keys epoch b) ≡ true

-- ---- notes of a chain

-- what one replica notes for another that shares its key says so there
abbrev pub ChainNotesOpen : Type 0
ChainNotesOpen = (a b : KeyRow) (number : ℕ) → shares_key a b ≡ true → a.me < b.n → a.me ≢ b.me → number < 2 ^ 64
    → (chain_noted b (closed_note a b.me number) ≡ Some (Closed a.me number)) × (chain_noted b (ask_note a b.me number) ≡ Some (Ask a.me number))

-- what is noted is what its sender notes, if it shares the key
abbrev pub ChainNotesSealed : Type 0
ChainNotesSealed = (a b : KeyRow) (bytes : List ℕ) (number : ℕ) → shares_key a b ≡ true → IsBytes bytes
    → (chain_noted b bytes ≡ Some (Closed a.me number) → bytes ≡ closed_note a b.me number)
    × (chain_noted b bytes ≡ Some (Ask a.me number) → bytes ≡ ask_note a b.me number)

-- whatever is noted is of another replica
abbrev pub ChainNotedFromPeer : Type 0
ChainNotedFromPeer = (k : KeyRow) (bytes : List ℕ)
    → ((from epochs : ℕ) → chain_noted k bytes ≡ Some (Closed from epochs) → (from < k.n) × (from ≢ k.me))
    × ((from position : ℕ) → chain_noted k bytes ≡ Some (Ask from position) → (from < k.n) × (from ≢ k.me))

-- what says something as a note of frames says nothing as one of a chain, whatever the keys, and the other way round
abbrev pub ChainNotesAreOthers : Type 0
ChainNotesAreOthers = (k l : KeyRow) (bytes : List ℕ)
    → ((said : Note) → noted k bytes ≡ Some said → chain_noted l bytes ≡ None)
    × ((said : ChainNote) → chain_noted l bytes ≡ Some said → noted k bytes ≡ None)

-- ---- rows that are sent

-- what one replica sends another that shares its key opens there
abbrev pub RowsOpen : Type 0
RowsOpen = (a b : KeyRow) (position : ℕ) (body : List ℕ) → shares_key a b ≡ true → a.me < b.n → a.me ≢ b.me → position < 2 ^ 64
    → rows_opening b (sealed_rows a b.me position body) ≡ Some (record { from = a.me; position = position; body = body })

-- what opens is what its sender seals, another replica, if it shares the key
abbrev pub RowsWereSealed : Type 0
RowsWereSealed = (a b : KeyRow) (bytes : List ℕ) (rows : SentRows) → shares_key a b ≡ true → IsBytes bytes
    → rows_opening b bytes ≡ Some rows → rows.from ≡ a.me
    → (a.me < b.n) × (a.me ≢ b.me) × (bytes ≡ sealed_rows a b.me rows.position rows.body)

-- whatever opens begins as rows, was addressed to this replica, as from another one, and says its parts
abbrev pub RowsFromPeer : Type 0
RowsFromPeer = (k : KeyRow) (bytes : List ℕ) (rows : SentRows) → rows_opening k bytes ≡ Some rows
    → (is_rows bytes ≡ true) × (receiver_of bytes ≡ k.me) × (rows.from < k.n) × (rows.from ≢ k.me) × (rows ≡ sent_parts bytes)

-- what begins as rows opens as no frame, too short or too long or of a wrong version, and says nothing as a note of either kind
abbrev pub RowsAreNoFrames : Type 0
RowsAreNoFrames = (k : KeyRow) (bytes : List ℕ) → is_rows bytes ≡ true
    → ((opening k bytes ≡ Err Short) ⊎ (opening k bytes ≡ Err Long) ⊎ (opening k bytes ≡ Err Version))
    × (noted k bytes ≡ None) × (chain_noted k bytes ≡ None)
