-- What holds of any row of keys and its frames, and of keys that were dealt from one master key.
use Rattle.std.specs.Prelude.{◌≡◌, ◌≢◌, ℕ, ◌+◌, ◌^◌, ◌<◌, ◌≤◌, ◌⊎◌, List, length, slice_index, true, Some, Ok, Err}
use Rattle.ritas_base.specs.declared.slot.Slot.{Slot}
use Rattle.ritas_base.specs.declared.mode.FrameVersion.{FrameVersion}
use Rattle.keyed_channel.specs.Lengths.{frame_overhead, least_frame, longest_body}
use Rattle.keyed_channel.specs.KeyRow.{KeyRow}
use Rattle.keyed_channel.specs.Keyed.{pair_key, dealt, dealt_for, keyed_entry, tags_of}
use Rattle.keyed_channel.specs.Frames.{sealed, receiver_of, opening_parts, opening, Opening}
use Rattle.keyed_channel.specs.declared.frame.OpenFault.TheVariants.{Short, Long, Version}
use Rattle.keyed_channel.specs.Notes.{sealed_note, ack_note, again_note, may_ask_from, is_note, noted}
use Rattle.keyed_channel.specs.declared.note.Note.TheVariants.{Ack, Again}

-- what i seals for j opens at j, where the frame is as long as one that opens
abbrev pub SealedOpens : Type 0
SealedOpens = (version : FrameVersion) (master : List ℕ) (session n i j seq : ℕ) (body : List ℕ) → i < n → j < n → i ≢ j → seq < 2 ^ 64
    → least_frame ≤ length body + frame_overhead → length body ≤ longest_body
    → opening (dealt_for version master session n j) (sealed (dealt_for version master session n i) j seq body) ≡ Ok (record { from = i; seq = seq; body = body })

-- what opens at j is what its sender seals, another replica
abbrev pub OpensSealed : Type 0
OpensSealed = (version : FrameVersion) (master : List ℕ) (session n j : ℕ) (bytes : List ℕ) (o : Opening) → j < n → ((k : ℕ) → slice_index bytes k < 256)
    → opening (dealt_for version master session n j) bytes ≡ Ok o
    → (o.from < n) × (o.from ≢ j) × (bytes ≡ sealed (dealt_for version master session n o.from) j o.seq o.body)

-- whatever two rows of keys these are: a frame that opens says what was sealed
abbrev pub OpensAsSealed : Type 0
OpensAsSealed = (a b : KeyRow) (to seq : ℕ) (body : List ℕ) (o : Opening) → seq < 2 ^ 64
    → opening b (sealed a to seq body) ≡ Ok o → o ≡ record { from = a.me; seq = seq; body = body }

-- whatever opens was addressed to this replica, as from another one
abbrev pub OpenedFromPeer : Type 0
OpenedFromPeer = (k : KeyRow) (bytes : List ℕ) (o : Opening) → opening k bytes ≡ Ok o
    → (o.from < k.n) × (o.from ≢ k.me) × (receiver_of bytes ≡ k.me)

-- whatever opens is as long as the shortest frame, and says its parts
abbrev pub OpenedParts : Type 0
OpenedParts = (k : KeyRow) (bytes : List ℕ) (o : Opening) → opening k bytes ≡ Ok o → (least_frame ≤ length bytes) × (o ≡ opening_parts bytes)

-- a frame has its overhead beside its body
abbrev pub SealedLength : Type 0
SealedLength = (k : KeyRow) (to seq : ℕ) (body : List ℕ) → length (sealed k to seq body) ≡ length body + frame_overhead

-- a longer body's frame is too long
abbrev pub SealedLong : Type 0
SealedLong = (k by : KeyRow) (to seq : ℕ) (body : List ℕ) → longest_body < length body → opening k (sealed by to seq body) ≡ Err Long

-- a replica may be asked for the entries that it has a part in
abbrev pub MayAskEntries : ℕ → ℕ → ℕ → Type 0
MayAskEntries me echoer verifier = (echoer ≡ me) ⊎ (verifier ≡ me)

-- an entry is tagged under the key of its echoer and its verifier
abbrev pub EntryByPair : Type 0
EntryByPair = (master : List ℕ) (session n me : ℕ) (s : Slot) (echoer verifier : ℕ) (d : List ℕ)
    → echoer < n → verifier < n → MayAskEntries me echoer verifier
    → (tags_of (dealt master session n me)).entry s echoer verifier d
    ≡ keyed_entry (pair_key master session echoer verifier) session s echoer verifier d

-- two replicas tag an entry alike, wherever both may be asked for it
abbrev pub EntriesAgree : Type 0
EntriesAgree = (master : List ℕ) (session n i j : ℕ) (s : Slot) (echoer verifier : ℕ) (d : List ℕ)
    → i < n → j < n → MayAskEntries i echoer verifier → MayAskEntries j echoer verifier
    → (tags_of (dealt master session n i)).entry s echoer verifier d ≡ (tags_of (dealt master session n j)).entry s echoer verifier d

-- ---- notes

-- what i notes for j says so at j
abbrev pub NotesOpen : Type 0
NotesOpen = (version : FrameVersion) (master : List ℕ) (session n i j seq : ℕ) → i < n → j < n → i ≢ j → seq < 2 ^ 64
    → (noted (dealt_for version master session n j) (ack_note (dealt_for version master session n i) j seq) ≡ Some (Ack i seq))
    × (may_ask_from version seq ≡ true
    → noted (dealt_for version master session n j) (again_note (dealt_for version master session n i) j seq) ≡ Some (Again i seq))

-- what is noted at j is what its sender notes, another replica
abbrev pub NotesSealed : Type 0
NotesSealed = (version : FrameVersion) (master : List ℕ) (session n j : ℕ) (bytes : List ℕ) → j < n → ((k : ℕ) → slice_index bytes k < 256)
    → ((i seq : ℕ) → noted (dealt_for version master session n j) bytes ≡ Some (Ack i seq)
    → (i < n) × (i ≢ j) × (bytes ≡ ack_note (dealt_for version master session n i) j seq))
    × ((i seq : ℕ) → noted (dealt_for version master session n j) bytes ≡ Some (Again i seq)
    → (i < n) × (i ≢ j) × (may_ask_from version seq ≡ true) × (bytes ≡ again_note (dealt_for version master session n i) j seq))

-- whatever is noted is of another replica
abbrev pub NotedFromPeer : Type 0
NotedFromPeer = (k : KeyRow) (bytes : List ℕ)
    → ((from seq : ℕ) → noted k bytes ≡ Some (Ack from seq) → (from < k.n) × (from ≢ k.me))
    × ((from seq : ℕ) → noted k bytes ≡ Some (Again from seq) → (from < k.n) × (from ≢ k.me))

-- what begins as a note doesn't open as a frame: it is too short or too long for one, or its version is wrong
abbrev pub NotesAreNoFrames : Type 0
NotesAreNoFrames = (k : KeyRow) (bytes : List ℕ) → is_note bytes ≡ true
    → (opening k bytes ≡ Err Short) ⊎ (opening k bytes ≡ Err Long) ⊎ (opening k bytes ≡ Err Version)

-- a note has a wrong version
abbrev pub NoteHasVersion : Type 0
NoteHasVersion = (k by : KeyRow) (to form number : ℕ) → opening k (sealed_note by to form number) ≡ Err Version
