-- Rows that are sent open, and what opens was sent.
use Rattle.std.specs.Prelude.{◌≡◌, ◌≢◌, ℕ, ◌+◌, ◌-◌, ◌<◌, ◌≤◌, Bool, true, false, not, ◌==◌, ◌&&◌, nat_le, nat_lt, List, ◌++◌, length, Some, None, refl, if◌then◌else◌}
use Rattle.std.proofs.Common.{sym, ◌∙◌, ap, ap₂, subst, arith}
use Rattle.std.proofs.lemmas.List.{length-append, take-append-drop}
use Rattle.std.proofs.lemmas.Bool.{and_parts, eqb-true, eqb-false, eq-eqb, le-leb, leb-true, lt-ltb, ltb-true, ne_eqb, not-true}
use Rattle.std.proofs.lemmas.Slice.Eq.{bytes_eq-Decides}
use Rattle.ritas_base.specs.Bytes.{IsBytes, version_byte}
use Rattle.ritas_base.specs.declared.mode.FrameVersion.{FrameVersion}
use Rattle.ritas_base.specs.declared.mode.FrameVersion.TheVariants.{One, Two, Three}
use Rattle.keyed_channel.specs.Lengths.{tag_length, frame_overhead, head_length, least_frame, note_length}
use Rattle.keyed_channel.specs.Hmac.{hmac_of}
use Rattle.keyed_channel.specs.KeyRow.{KeyRow, key_with, shares_key}
use Rattle.keyed_channel.specs.Frames.{Opening, version_of, tagged_front, tag_of, sender_of, receiver_of, seq_of, frame_body, is_peer, is_tagged}
use Rattle.keyed_channel.specs.Notes.{is_note, is_plain_note}
use Rattle.keyed_channel.specs.RowsSent.{SentRows, rows_front, sealed_rows, sent_parts, is_rows, is_plain_rows, rows_opening}
use Rattle.keyed_channel.specs.EpochLaws.{RowsAreNoFrames, RowsFromPeer, RowsOpen, RowsWereSealed}
use Rattle.keyed_channel.proofs.ChainNoting.{chain_note_wrong}
use Rattle.keyed_channel.proofs.FromSender.{front_is}
use Rattle.keyed_channel.proofs.Noting.{no_frame, note_wrong}
use Rattle.keyed_channel.proofs.Sealing.{length-hmac_of, parts_of}
use Rattle.keyed_channel.proofs.Shared.{one_key, right_by, tagged_by}

pub rows_wrong : (k : KeyRow) (bytes : List ℕ) → (is_plain_rows k bytes && is_tagged k bytes) ≡ false → rows_opening k bytes ≡ None
unfolding rows_opening
rows_wrong k bytes w = ap (λ (x : Bool). if x then Some (sent_parts bytes) else None) w

pub rows_right : (k : KeyRow) (bytes : List ℕ) → (is_plain_rows k bytes && is_tagged k bytes) ≡ true → rows_opening k bytes ≡ Some (sent_parts bytes)
unfolding rows_opening
rows_right k bytes r = ap (λ (x : Bool). if x then Some (sent_parts bytes) else None) r

-- the same test for test
pub rows_not_plain : (k : KeyRow) (bytes : List ℕ) → is_plain_rows k bytes ≡ false → rows_opening k bytes ≡ None
rows_not_plain k bytes plain = rows_wrong k bytes (ap (λ (b : Bool). b && is_tagged k bytes) plain)

and_fails : (b : Bool) → (b && false) ≡ false
and_fails true = refl
and_fails false = refl

pub rows_untagged : (k : KeyRow) (bytes : List ℕ) → is_tagged k bytes ≡ false → rows_opening k bytes ≡ None
rows_untagged k bytes tag = rows_wrong k bytes (ap (λ (b : Bool). is_plain_rows k bytes && b) tag ∙ and_fails (is_plain_rows k bytes))

-- by the parts that were read
pub rows_tagged : (k : KeyRow) (bytes : List ℕ) (from position : ℕ) (body : List ℕ) → is_plain_rows k bytes ≡ true → is_tagged k bytes ≡ true
    → from ≡ sender_of bytes → position ≡ seq_of bytes → body ≡ frame_body bytes
    → rows_opening k bytes ≡ Some (record { from = from; position = position; body = body })
rows_tagged k bytes from position body plain tagged is_from is_position is_body =
    let by : ℕ → SentRows = λ i. record { from = i; position = seq_of bytes; body = frame_body bytes } in
    let said : ℕ → List ℕ → SentRows = λ q b. record { from = from; position = q; body = b } in
    rows_right k bytes (ap₂ (λ (x y : Bool). x && y) plain tagged)
    ∙ ap (λ (i : ℕ). Some (by i)) (sym is_from)
    ∙ ap₂ (λ (q : ℕ) (b : List ℕ). Some (said q b)) (sym is_position) (sym is_body)

-- what the tests say of what opens
record IsOpenedRows (k : KeyRow) (bytes : List ℕ) (rows : SentRows) : Type 0 where
  long : least_frame ≤ length bytes
  first : is_rows bytes ≡ true
  receiver : receiver_of bytes ≡ k.me
  sender : sender_of bytes < k.n
  other : sender_of bytes ≢ k.me
  tagged : is_tagged k bytes ≡ true
  parts : sent_parts bytes ≡ rows

same_rows : (x y : SentRows) → Some x ≡ Some y → x ≡ y
same_rows x y h = cc

opened_rows : (k : KeyRow) (bytes : List ℕ) (rows : SentRows) → rows_opening k bytes ≡ Some rows → IsOpenedRows k bytes rows
unfolding rows_opening
opened_rows k bytes rows h =
    let i = sender_of bytes in
    let tests = right_by (is_plain_rows k bytes) (is_tagged k bytes) (Some (sent_parts bytes)) rows h in
    let long = and_parts (nat_le least_frame (length bytes)) (is_rows bytes && (receiver_of bytes == k.me && is_peer k i)) tests.0 in
    let first = and_parts (is_rows bytes) (receiver_of bytes == k.me && is_peer k i) long.1 in
    let mine = and_parts (receiver_of bytes == k.me) (is_peer k i) first.1 in
    let peer = and_parts (nat_lt i k.n) (not (i == k.me)) mine.1 in
    record {
      long = leb-true least_frame (length bytes) long.0;
      first = first.0;
      receiver = eqb-true _ _ mine.0;
      sender = ltb-true i k.n peer.0;
      other = eqb-false i k.me (not-true (i == k.me) peer.1);
      tagged = tests.1;
      parts = same_rows (sent_parts bytes) rows tests.2;
    }

-- ---- what is sealed opens

length-rows : (a : KeyRow) (to position : ℕ) (body : List ℕ) → length (sealed_rows a to position body) ≡ length body + frame_overhead
length-rows a to position body =
    let front = rows_front a.me to position body in
    let size : length front ≡ length body + head_length = omega arith in
    omega (arith, length-append front (hmac_of (key_with a to) front), size, length-hmac_of (key_with a to) front)

plain_there : (a b : KeyRow) (position : ℕ) (body : List ℕ) → a.me < b.n → a.me ≢ b.me → is_plain_rows b (sealed_rows a b.me position body) ≡ true
plain_there a b position body within ne =
    let bytes = sealed_rows a b.me position body in
    let size = length-rows a b.me position body in
    let long : nat_le least_frame (length bytes) ≡ true = le-leb least_frame (length bytes) (omega (arith, size)) in
    let peer : is_peer b a.me ≡ true = ap₂ (λ (x y : Bool). x && not y) (lt-ltb a.me b.n within) (ne_eqb a.me b.me ne) in
    ap₂ (λ (x y : Bool). x && y) long (ap₂ (λ (x y : Bool). x && y) (eq-eqb b.me b.me refl) peer)

pub rows_open_holds : RowsOpen
rows_open_holds a b position body shared within ne small =
    let bytes = sealed_rows a b.me position body in
    let front = rows_front a.me b.me position body in
    let tagged : is_tagged b bytes ≡ true = tagged_by (key_with a b.me) (key_with b a.me) front (one_key a b shared) in
    let sent_of : Opening → SentRows = λ o. record { from = o.from; position = o.seq; body = o.body } in
    rows_right b bytes (ap₂ (λ (x y : Bool). x && y) (plain_there a b position body within ne) tagged)
    ∙ ap (λ (o : Opening). Some (sent_of o)) (parts_of 0x52 a.me b.me position body (hmac_of (key_with a b.me) front) small (length-hmac_of (key_with a b.me) front))

-- ---- what opens was sealed

abbrev IsSealed : KeyRow → KeyRow → List ℕ → SentRows → Type 0
IsSealed a b bytes rows = rows.from ≡ a.me → (a.me < b.n) × (a.me ≢ b.me) × (bytes ≡ sealed_rows a b.me rows.position rows.body)

were_sealed : (a b : KeyRow) (bytes : List ℕ) (rows : SentRows) → shares_key a b ≡ true → IsBytes bytes → IsOpenedRows b bytes rows → IsSealed a b bytes (sent_parts bytes)
were_sealed a b bytes rows shared small is by =
    let i = sender_of bytes in
    let said = sent_parts bytes in
    let front : tagged_front bytes ≡ rows_front a.me b.me said.position said.body =
    front_is 0x52 bytes b.me is.long small (eqb-true _ _ is.first) is.receiver ∙ ap (λ (x : ℕ). rows_front x b.me said.position said.body) by in
    let key : key_with b i ≡ key_with a b.me = ap (λ (x : ℕ). key_with b x) by ∙ sym (one_key a b shared) in
    let tag = sym ((bytes_eq-Decides (hmac_of (key_with b i) (tagged_front bytes)) (tag_of bytes)).0 is.tagged) ∙ ap₂ hmac_of key front in
    let P : ℕ → Type 0 = λ x. (x < b.n) × (x ≢ b.me) in
    let peer : P a.me = subst P by (is.sender, is.other) in
    (peer.0, peer.1, sym (take-append-drop (length bytes - tag_length) bytes) ∙ ap₂ (λ (x y : List ℕ). x ++ y) front tag)

pub rows_were_sealed_holds : RowsWereSealed
rows_were_sealed_holds a b bytes rows shared small opens =
    let is = opened_rows b bytes rows opens in
    let P : SentRows → Type 0 = λ x. IsSealed a b bytes x in
    subst P is.parts (were_sealed a b bytes rows shared small is)

-- ---- what opens, whatever the keys

pub rows_from_peer_holds : RowsFromPeer
rows_from_peer_holds k bytes rows opens =
    let is = opened_rows k bytes rows opens in
    let P : SentRows → Type 0 = λ x. (is_rows bytes ≡ true) × (receiver_of bytes ≡ k.me) × (x.from < k.n) × (x.from ≢ k.me) × (x ≡ sent_parts bytes) in
    subst P is.parts (is.first, is.receiver, is.sender, is.other, refl)

-- ---- no rows are a frame or a note

no_version : (v : FrameVersion) → (0x52 == version_byte v) ≡ false
no_version One = refl
no_version Two = refl
no_version Three = refl

second_fails : (x y z : Bool) → y ≡ false → (x && (y && z)) ≡ false
second_fails true y z e = ap (λ (b : Bool). b && z) e
second_fails false y z e = refl

pub rows_are_no_frames_holds : RowsAreNoFrames
rows_are_no_frames_holds k bytes rows =
    let first : version_of bytes ≡ 0x52 = eqb-true (version_of bytes) 0x52 rows in
    let wrong : (version_of bytes == version_byte k.version) ≡ false = ap (λ (b : ℕ). b == version_byte k.version) first ∙ no_version k.version in
    let no_note : is_note bytes ≡ false = ap (λ (b : ℕ). b == 0x4e) first in
    let plain : is_plain_note k bytes ≡ false =
    second_fails (length bytes == note_length) (is_note bytes) (receiver_of bytes == k.me && is_peer k (sender_of bytes)) no_note in
    let failed : (is_plain_note k bytes && is_tagged k bytes) ≡ false = ap (λ (b : Bool). b && is_tagged k bytes) plain in
    (no_frame k bytes wrong, note_wrong k bytes failed, chain_note_wrong k bytes failed)
