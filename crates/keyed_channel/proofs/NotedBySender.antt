-- What is noted was noted by its sender.
use Rattle.std.specs.Prelude.{◌≡◌, ◌≢◌, ℕ, ◌-◌, ◌<◌, ◌≤◌, Bool, true, false, not, ◌==◌, ◌&&◌, nat_lt, List, [], ◌∷◌, ◌++◌, length, take, slice_index, slice_range, Option, Some, None, refl, if◌then◌else◌}
use Rattle.std.proofs.Common.{sym, ◌∙◌, ap, ap₂, subst, arith}
use Rattle.std.proofs.lemmas.List.{take-append-drop}
use Rattle.std.proofs.lemmas.Bool.{and_parts, ltb-true, eqb-true, eqb-false, not-true}
use Rattle.std.proofs.lemmas.Slice.Eq.{bytes_eq-Decides}
use Rattle.ritas_base.specs.Bytes.{IsBytes}
use Rattle.ritas_base.specs.declared.mode.FrameVersion.{FrameVersion}
use Rattle.keyed_channel.specs.Lengths.{tag_length, note_front_length, note_length}
use Rattle.keyed_channel.specs.Hmac.{hmac_of}
use Rattle.keyed_channel.specs.KeyRow.{KeyRow, key_with, shares_key}
use Rattle.keyed_channel.specs.Keyed.{dealt_for}
use Rattle.keyed_channel.specs.Frames.{tagged_front, tag_of, sender_of, receiver_of, is_peer, is_tagged}
use Rattle.keyed_channel.specs.Notes.{note_front, sealed_note, again_note, may_ask_from, note_form, note_number, note_of, is_note, is_plain_note, noted}
use Rattle.keyed_channel.specs.Laws.{NotedFromPeer, NotesSealed}
use Rattle.keyed_channel.specs.declared.note.Note.{Note}
use Rattle.keyed_channel.specs.declared.note.Note.TheVariants.{Ack, Again}
use Rattle.keyed_channel.proofs.Dealt.{dealt_share_keys_hold}
use Rattle.keyed_channel.proofs.FromSender.{word_is}
use Rattle.keyed_channel.proofs.Shared.{one_key}

-- ---- the front of a note, by its parts

four : (xs : List ℕ) → 12 ≤ length xs
    → take 12 xs ≡ slice_index xs 0 ∷ slice_index xs 1 ∷ slice_index xs 2 ∷ slice_index xs 3 ∷ slice_range xs 4 12
four [] h = absurd (omega (arith, h))
four (a ∷ []) h = absurd (omega (arith, h))
four (a ∷ b ∷ []) h = absurd (omega (arith, h))
four (a ∷ b ∷ c ∷ []) h = absurd (omega (arith, h))
four (a ∷ b ∷ c ∷ d ∷ xs) h = refl

front_is : (xs : List ℕ) (j : ℕ) → length xs ≡ note_length → ((k : ℕ) → slice_index xs k < 256) → is_note xs ≡ true → receiver_of xs ≡ j
    → tagged_front xs ≡ note_front (sender_of xs) j (note_form xs) (note_number xs)
front_is xs j long small note mine =
    let size : length xs - tag_length ≡ note_front_length = omega (arith, long) in
    ap (λ m. take m xs) size ∙ four xs (omega (arith, long))
    ∙ ap₂ (λ (v r : ℕ). v ∷ sender_of xs ∷ r ∷ note_form xs ∷ slice_range xs 4 12) (eqb-true _ _ note) mine
    ∙ ap (λ l. 0x4e ∷ sender_of xs ∷ j ∷ note_form xs ∷ l) (word_is xs 4 (omega (arith, long)) small)

-- ---- the note, by its sender

-- its sender is another replica
pub plain_peer : (k : KeyRow) (bytes : List ℕ) → is_plain_note k bytes ≡ true → (sender_of bytes < k.n) × (sender_of bytes ≢ k.me)
plain_peer k bytes plain =
    let i = sender_of bytes in
    let long = and_parts (length bytes == note_length) (is_note bytes && (receiver_of bytes == k.me && is_peer k i)) plain in
    let note = and_parts (is_note bytes) (receiver_of bytes == k.me && is_peer k i) long.1 in
    let mine = and_parts (receiver_of bytes == k.me) (is_peer k i) note.1 in
    let peer = and_parts (nat_lt i k.n) (not (i == k.me)) mine.1 in
    (ltb-true i k.n peer.0, eqb-false i k.me (not-true (i == k.me) peer.1))

-- where that one shares the key
pub by_sender : (a b : KeyRow) (bytes : List ℕ) → shares_key a b ≡ true → IsBytes bytes → is_plain_note b bytes ≡ true → is_tagged b bytes ≡ true → sender_of bytes ≡ a.me
    → bytes ≡ sealed_note a b.me (note_form bytes) (note_number bytes)
by_sender a b bytes shared small plain tagged by =
    let i = sender_of bytes in
    let long = and_parts (length bytes == note_length) (is_note bytes && (receiver_of bytes == b.me && is_peer b i)) plain in
    let note = and_parts (is_note bytes) (receiver_of bytes == b.me && is_peer b i) long.1 in
    let mine = and_parts (receiver_of bytes == b.me) (is_peer b i) note.1 in
    let front : tagged_front bytes ≡ note_front a.me b.me (note_form bytes) (note_number bytes) =
    front_is bytes b.me (eqb-true _ _ long.0) small note.0 (eqb-true _ _ mine.0)
    ∙ ap (λ (x : ℕ). note_front x b.me (note_form bytes) (note_number bytes)) by in
    let key : key_with b i ≡ key_with a b.me = ap (λ (x : ℕ). key_with b x) by ∙ sym (one_key a b shared) in
    let tag = sym ((bytes_eq-Decides (hmac_of (key_with b i) (tagged_front bytes)) (tag_of bytes)).0 tagged) ∙ ap₂ hmac_of key front in
    sym (take-append-drop (length bytes - tag_length) bytes) ∙ ap₂ (λ (x y : List ℕ). x ++ y) front tag

abbrev IsFromSender : FrameVersion → List ℕ → ℕ → ℕ → ℕ → List ℕ → ℕ → ℕ → ℕ → Type 0
IsFromSender version master session n j bytes i form number =
    (i < n) × (i ≢ j) × (bytes ≡ sealed_note (dealt_for version master session n i) j form number)

from_sender : (version : FrameVersion) (master : List ℕ) (session n j : ℕ) (bytes : List ℕ) → j < n → ((k : ℕ) → slice_index bytes k < 256)
    → is_plain_note (dealt_for version master session n j) bytes ≡ true → is_tagged (dealt_for version master session n j) bytes ≡ true
    → IsFromSender version master session n j bytes (sender_of bytes) (note_form bytes) (note_number bytes)
from_sender version master session n j bytes j_in small plain tagged =
    let i = sender_of bytes in
    let a = dealt_for version master session n i in
    let b = dealt_for version master session n j in
    let peer = plain_peer b bytes plain in
    let shared = dealt_share_keys_hold version master session n i j peer.0 j_in in
    (peer.0, peer.1, by_sender a b bytes shared small plain tagged refl)

-- and by what its parts are
from_parts : (version : FrameVersion) (master : List ℕ) (session n j : ℕ) (bytes : List ℕ) (i form number : ℕ)
    → sender_of bytes ≡ i → note_form bytes ≡ form → note_number bytes ≡ number
    → IsFromSender version master session n j bytes (sender_of bytes) (note_form bytes) (note_number bytes)
    → IsFromSender version master session n j bytes i form number
from_parts version master session n j bytes i form number is_i is_form is_number by =
    let by_number : IsFromSender version master session n j bytes (sender_of bytes) (note_form bytes) number =
    subst (λ (x : ℕ). IsFromSender version master session n j bytes (sender_of bytes) (note_form bytes) x) is_number by in
    let by_form : IsFromSender version master session n j bytes (sender_of bytes) form number =
    subst (λ (x : ℕ). IsFromSender version master session n j bytes (sender_of bytes) x number) is_form by_number in
    subst (λ (x : ℕ). IsFromSender version master session n j bytes x form number) is_i by_form

-- ---- what is said, by its parts

said_by : (a b : Bool) (said : Option Note) (x : Note) → (if a && b then said else None) ≡ Some x → (a ≡ true) × (b ≡ true) × (said ≡ Some x)
said_by true true said x h = (refl, refl, h)
said_by true false said x h = cc
said_by false b said x h = cc

pub noted_by : (k : KeyRow) (bytes : List ℕ) (x : Note) → noted k bytes ≡ Some x
    → (is_plain_note k bytes ≡ true) × (is_tagged k bytes ≡ true) × (note_of k.version (sender_of bytes) (note_form bytes) (note_number bytes) ≡ Some x)
unfolding noted
noted_by k bytes x h = said_by _ _ _ x h

ack_by : (a b : Bool) (from number i seq : ℕ) → (if a then Some (Ack from number) else if b then Some (Again from number) else None) ≡ Some (Ack i seq)
    → (a ≡ true) × (from ≡ i) × (number ≡ seq)
ack_by true b from number i seq h = (refl, cc, cc)
ack_by false true from number i seq h = cc
ack_by false false from number i seq h = cc

again_by : (a b : Bool) (from number i seq : ℕ) → (if a then Some (Ack from number) else if b then Some (Again from number) else None) ≡ Some (Again i seq)
    → (b ≡ true) × (from ≡ i) × (number ≡ seq)
again_by true b from number i seq h = cc
again_by false true from number i seq h = (refl, cc, cc)
again_by false false from number i seq h = cc

-- ---- the law

acked : (version : FrameVersion) (master : List ℕ) (session n j : ℕ) (bytes : List ℕ) → j < n → ((k : ℕ) → slice_index bytes k < 256)
    → (i seq : ℕ) → noted (dealt_for version master session n j) bytes ≡ Some (Ack i seq)
    → IsFromSender version master session n j bytes i 1 seq
acked version master session n j bytes j_in small i seq h =
    let parts = noted_by (dealt_for version master session n j) bytes (Ack i seq) h in
    let ack = ack_by (note_form bytes == 1) (note_form bytes == 2 && may_ask_from version (note_number bytes)) (sender_of bytes) (note_number bytes) i seq parts.2 in
    let form : note_form bytes ≡ 1 = eqb-true _ _ ack.0 in
    from_parts version master session n j bytes i 1 seq ack.1 form ack.2 (from_sender version master session n j bytes j_in small parts.0 parts.1)

wished : (version : FrameVersion) (master : List ℕ) (session n j : ℕ) (bytes : List ℕ) → j < n → ((k : ℕ) → slice_index bytes k < 256)
    → (i seq : ℕ) → noted (dealt_for version master session n j) bytes ≡ Some (Again i seq)
    → (may_ask_from version seq ≡ true) × IsFromSender version master session n j bytes i 2 seq
wished version master session n j bytes j_in small i seq h =
    let parts = noted_by (dealt_for version master session n j) bytes (Again i seq) h in
    let again =
    again_by (note_form bytes == 1) (note_form bytes == 2 && may_ask_from version (note_number bytes)) (sender_of bytes) (note_number bytes) i seq parts.2 in
    let both = and_parts (note_form bytes == 2) (may_ask_from version (note_number bytes)) again.0 in
    let form : note_form bytes ≡ 2 = eqb-true _ _ both.0 in (
      subst (λ (x : ℕ). may_ask_from version x ≡ true) again.2 both.1,
      from_parts version master session n j bytes i 2 seq again.1 form again.2 (from_sender version master session n j bytes j_in small parts.0 parts.1),
    )

-- with what it may ask for between its ends
wished_by : (version : FrameVersion) (master : List ℕ) (session n j : ℕ) (bytes : List ℕ) → j < n → ((k : ℕ) → slice_index bytes k < 256)
    → (i seq : ℕ) → noted (dealt_for version master session n j) bytes ≡ Some (Again i seq)
    → (i < n) × (i ≢ j) × (may_ask_from version seq ≡ true) × (bytes ≡ again_note (dealt_for version master session n i) j seq)
wished_by version master session n j bytes j_in small i seq h =
    let by = wished version master session n j bytes j_in small i seq h in
    (by.1.0, by.1.1, by.0, by.1.2)

pub notes_sealed_holds : NotesSealed
notes_sealed_holds version master session n j bytes j_in small =
    (acked version master session n j bytes j_in small, wished_by version master session n j bytes j_in small)

-- ---- what is noted, whatever the keys

ack_from_peer : (k : KeyRow) (bytes : List ℕ) (from seq : ℕ) → noted k bytes ≡ Some (Ack from seq) → (from < k.n) × (from ≢ k.me)
ack_from_peer k bytes from seq h =
    let parts = noted_by k bytes (Ack from seq) h in
    let ack =
    ack_by (note_form bytes == 1) (note_form bytes == 2 && may_ask_from k.version (note_number bytes)) (sender_of bytes) (note_number bytes) from seq parts.2 in
    subst (λ (x : ℕ). (x < k.n) × (x ≢ k.me)) ack.1 (plain_peer k bytes parts.0)

again_from_peer : (k : KeyRow) (bytes : List ℕ) (from seq : ℕ) → noted k bytes ≡ Some (Again from seq) → (from < k.n) × (from ≢ k.me)
again_from_peer k bytes from seq h =
    let parts = noted_by k bytes (Again from seq) h in
    let again =
    again_by (note_form bytes == 1) (note_form bytes == 2 && may_ask_from k.version (note_number bytes)) (sender_of bytes) (note_number bytes) from seq parts.2 in
    subst (λ (x : ℕ). (x < k.n) × (x ≢ k.me)) again.1 (plain_peer k bytes parts.0)

pub noted_from_peer_holds : NotedFromPeer
noted_from_peer_holds k bytes = (ack_from_peer k bytes, again_from_peer k bytes)
