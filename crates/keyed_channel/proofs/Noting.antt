-- What a note says, by the tests that need no key and then by the tag.
use Rattle.std.specs.Prelude.{◌≡◌, ◌≢◌, ℕ, ◌^◌, ◌<◌, Bool, true, false, not, ◌&&◌, ◌==◌, nat_le, List, length, Option, Some, None, Err, refl, ◌⊎◌, if◌then◌else◌}
use Rattle.std.proofs.Common.{◌∙◌, ap, ap₂, inl, inr, arith}
use Rattle.std.proofs.lemmas.List.{length-append}
use Rattle.std.proofs.lemmas.Nat.{from_be_bytes-to_be_bytes_8}
use Rattle.std.proofs.lemmas.Bool.{eqb-true, le-leb, lt-ltb, eq-eqb, ne_eqb}
use Rattle.ritas_base.specs.declared.mode.FrameVersion.{FrameVersion}
use Rattle.ritas_base.specs.declared.mode.FrameVersion.TheVariants.{One, Two, Three}
use Rattle.ritas_base.specs.Limits.{longest_frame}
use Rattle.keyed_channel.specs.Lengths.{least_frame, note_length}
use Rattle.keyed_channel.specs.Hmac.{hmac_of}
use Rattle.keyed_channel.specs.KeyRow.{KeyRow, key_with, shares_key}
use Rattle.keyed_channel.specs.Keyed.{dealt_for}
use Rattle.ritas_base.specs.Bytes.{version_byte}
use Rattle.keyed_channel.specs.Frames.{version_of, sender_of, receiver_of, is_peer, is_tagged, opening}
use Rattle.keyed_channel.specs.Notes.{note_front, sealed_note, note_form, note_number, note_of, is_note, is_plain_note, noted}
use Rattle.keyed_channel.specs.Laws.{NotesOpen, NotesAreNoFrames, NoteHasVersion}
use Rattle.keyed_channel.specs.declared.note.Note.{Note}
use Rattle.keyed_channel.specs.declared.note.Note.TheVariants.{Again}
use Rattle.keyed_channel.specs.declared.frame.OpenFault.TheVariants.{Short, Long, Version}
use Rattle.keyed_channel.proofs.Opens.{five, opening_plain}
use Rattle.keyed_channel.proofs.Dealt.{dealt_share_keys_hold}
use Rattle.keyed_channel.proofs.Sealing.{length-hmac_of}
use Rattle.keyed_channel.proofs.Shared.{one_key, tagged_by}

-- what says nothing, whether it is right or not
pub none_either : {X : Type 0} (b : Bool) (said : Option X) → said ≡ None → (if b then said else None) ≡ None
none_either true said silent = silent
none_either false said silent = refl

by_tests : (a b : Bool) (said : Option Note) (plain tagged : Bool) → a ≡ plain → b ≡ tagged
    → (if a && b then said else None) ≡ (if plain && tagged then said else None)
by_tests a b said plain tagged p t = ap₂ (λ (x y : Bool). if x && y then said else None) p t

pub note_plain : (k : KeyRow) (bytes : List ℕ) → is_plain_note k bytes ≡ false → noted k bytes ≡ None
unfolding noted
note_plain k bytes p = by_tests _ _ (note_of k.version (sender_of bytes) (note_form bytes) (note_number bytes)) false (is_tagged k bytes) p refl

pub note_untagged : (k : KeyRow) (bytes : List ℕ) → is_plain_note k bytes ≡ true → is_tagged k bytes ≡ false → noted k bytes ≡ None
unfolding noted
note_untagged k bytes p t = by_tests _ _ (note_of k.version (sender_of bytes) (note_form bytes) (note_number bytes)) true false p t

pub note_tagged : (k : KeyRow) (bytes : List ℕ) → is_plain_note k bytes ≡ true → is_tagged k bytes ≡ true
    → noted k bytes ≡ note_of k.version (sender_of bytes) (note_form bytes) (note_number bytes)
unfolding noted
note_tagged k bytes p t = by_tests _ _ (note_of k.version (sender_of bytes) (note_form bytes) (note_number bytes)) true true p t

-- the same of both tests at once
pub note_wrong : (k : KeyRow) (bytes : List ℕ) → (is_plain_note k bytes && is_tagged k bytes) ≡ false → noted k bytes ≡ None
unfolding noted
note_wrong k bytes w = ap (λ (x : Bool). if x then note_of k.version (sender_of bytes) (note_form bytes) (note_number bytes) else None) w

pub note_right : (k : KeyRow) (bytes : List ℕ) → (is_plain_note k bytes && is_tagged k bytes) ≡ true
    → noted k bytes ≡ note_of k.version (sender_of bytes) (note_form bytes) (note_number bytes)
unfolding noted
note_right k bytes r = ap (λ (x : Bool). if x then note_of k.version (sender_of bytes) (note_form bytes) (note_number bytes) else None) r

-- where its parts say nothing
pub note_silent : (k : KeyRow) (bytes : List ℕ) → note_of k.version (sender_of bytes) (note_form bytes) (note_number bytes) ≡ None → noted k bytes ≡ None
unfolding noted
note_silent k bytes silent =
    none_either (is_plain_note k bytes && is_tagged k bytes) (note_of k.version (sender_of bytes) (note_form bytes) (note_number bytes)) silent

-- ---- no note is a frame

short_or_long : (a b c d e : Bool) → c ≡ false → (five a b c d e ≡ Some Short) ⊎ (five a b c d e ≡ Some Long) ⊎ (five a b c d e ≡ Some Version)
short_or_long false b c d e v = inl refl
short_or_long true false c d e v = inr (inl refl)
short_or_long true true true d e v = absurd (cc)
short_or_long true true false d e v = inr (inr refl)

no_version : (v : FrameVersion) → (0x4e == version_byte v) ≡ false
no_version One = refl
no_version Two = refl
no_version Three = refl

version_wrong : (v : FrameVersion) (bytes : List ℕ) → is_note bytes ≡ true → (version_of bytes == version_byte v) ≡ false
version_wrong v bytes note = ap (λ (b : ℕ). b == version_byte v) (eqb-true (version_of bytes) 0x4e note) ∙ no_version v

-- what has a wrong version is no frame
pub no_frame : (k : KeyRow) (bytes : List ℕ) → (version_of bytes == version_byte k.version) ≡ false
    → (opening k bytes ≡ Err Short) ⊎ (opening k bytes ≡ Err Long) ⊎ (opening k bytes ≡ Err Version)
no_frame k bytes wrong =
    elim (short_or_long (nat_le least_frame (length bytes)) (nat_le (length bytes) longest_frame) (version_of bytes == version_byte k.version) (receiver_of bytes == k.me) (is_peer k (sender_of bytes)) wrong) [
      | inl short ↦ inl (opening_plain k bytes Short short)
      | inr other ↦ elim other [
        | inl long ↦ inr (inl (opening_plain k bytes Long long))
        | inr version ↦ inr (inr (opening_plain k bytes Version version))
      ]
    ]

pub no_frames : NotesAreNoFrames
no_frames k bytes note = no_frame k bytes (version_wrong k.version bytes note)

wrong_only : (a b c d e : Bool) → a ≡ true → b ≡ true → c ≡ false → five a b c d e ≡ Some Version
wrong_only a b c d e pa pb pc = rw (pa, pb, pc)

pub length-sealed_note : (by : KeyRow) (to form number : ℕ) → length (sealed_note by to form number) ≡ note_length
length-sealed_note by to form number = omega (arith, length-append (note_front by.me to form number) (hmac_of (key_with by to) (note_front by.me to form number)), length-hmac_of (key_with by to) (note_front by.me to form number))

pub has_version : NoteHasVersion
has_version k by to form number =
    let bytes = sealed_note by to form number in
    let size = length-sealed_note by to form number in
    let enough : nat_le least_frame (length bytes) ≡ true = le-leb least_frame (length bytes) (omega (arith, size)) in
    let most : nat_le (length bytes) longest_frame ≡ true = le-leb (length bytes) longest_frame (omega (arith, size)) in
    opening_plain k bytes Version (wrong_only _ _ (version_of bytes == version_byte k.version) (receiver_of bytes == k.me) (is_peer k (sender_of bytes)) enough most (no_version k.version))

-- ---- what is noted

-- what one notes for another that shares its key is right there
pub note_there : (a b : KeyRow) (form number : ℕ) → shares_key a b ≡ true → a.me < b.n → a.me ≢ b.me
    → (is_plain_note b (sealed_note a b.me form number) && is_tagged b (sealed_note a b.me form number)) ≡ true
note_there a b form number shared within ne =
    let bytes = sealed_note a b.me form number in
    let long = eq-eqb (length bytes) 44 (length-sealed_note a b.me form number) in
    let peer : is_peer b a.me ≡ true = ap₂ (λ (x y : Bool). x && not y) (lt-ltb a.me b.n within) (ne_eqb a.me b.me ne) in
    let plain : is_plain_note b bytes ≡ true = ap₂ (λ (x y : Bool). x && y) long (ap₂ (λ (x y : Bool). x && y) (eq-eqb b.me b.me refl) peer) in
    let tagged : is_tagged b bytes ≡ true = tagged_by (key_with a b.me) (key_with b a.me) (note_front a.me b.me form number) (one_key a b shared) in
    ap₂ (λ (x y : Bool). x && y) plain tagged

said : (version : FrameVersion) (master : List ℕ) (session n i j form number : ℕ) → i < n → j < n → i ≢ j → number < 2 ^ 64
    → noted (dealt_for version master session n j) (sealed_note (dealt_for version master session n i) j form number) ≡ note_of version i form number
said version master session n i j form number i_in j_in ne small =
    let a = dealt_for version master session n i in
    let b = dealt_for version master session n j in
    note_right b (sealed_note a j form number) (note_there a b form number (dealt_share_keys_hold version master session n i j i_in j_in) i_in ne)
    ∙ ap (λ (q : ℕ). note_of version i form q) (from_be_bytes-to_be_bytes_8 number small)

pub notes_say : NotesOpen
notes_say version master session n i j seq i_in j_in ne small = (
  said version master session n i j 1 seq i_in j_in ne small,
  λ asks. said version master session n i j 2 seq i_in j_in ne small ∙ ap (λ (b : Bool). if b then Some (Again i seq) else None) asks,
)
