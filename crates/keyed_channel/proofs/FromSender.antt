-- What opens was sealed by its sender.
use Rattle.std.specs.Prelude.{◌≡◌, ◌≢◌, ℕ, ◌+◌, ◌-◌, ◌<◌, ◌≤◌, true, List, [], ◌∷◌, ◌++◌, length, take, drop, slice_index, slice_range, refl}
use Rattle.std.specs.Int.{w64, to_be_bytes, from_be_bytes}
use Rattle.std.proofs.Common.{sym, ◌∙◌, ap, ap₂, subst, inl, inr, arith}
use Rattle.std.proofs.Math.ListN.{get_or, get_or-eq_default}
use Rattle.std.proofs.Math.Seq.{take-add}
use Rattle.std.proofs.lemmas.List.{take-append-drop, length-take, length-drop, get_or-take, get_or-drop}
use Rattle.std.proofs.lemmas.Nat.{be_bytes_8}
use Rattle.std.proofs.lemmas.Bool.Decides.{leb_tells}
use Rattle.std.proofs.lemmas.Slice.Eq.{bytes_eq-Decides}
use Rattle.keyed_channel.specs.Lengths.{tag_length, frame_overhead}
use Rattle.keyed_channel.specs.Hmac.{hmac_of}
use Rattle.keyed_channel.specs.KeyRow.{key_with}
use Rattle.keyed_channel.specs.Keyed.{dealt_for}
use Rattle.ritas_base.specs.declared.mode.FrameVersion.{FrameVersion}
use Rattle.ritas_base.specs.Bytes.{version_byte}
use Rattle.keyed_channel.specs.Frames.{sealed, tagged_front, tag_of, version_of, sender_of, receiver_of, seq_of, frame_body, opening_parts, is_tagged, Opening}
use Rattle.keyed_channel.specs.FramesLaws.{IsPlain, opened_is}
use Rattle.keyed_channel.specs.Laws.{OpenedFromPeer, OpenedParts, OpensSealed}
use Rattle.keyed_channel.proofs.Dealt.{key_with-dealt, pair_key_swapped}

-- ---- the front of a frame, by its parts

three : (xs : List ℕ) → 3 ≤ length xs → take 3 xs ≡ slice_index xs 0 ∷ slice_index xs 1 ∷ slice_index xs 2 ∷ []
three [] h = absurd (omega (arith, h))
three (a ∷ []) h = absurd (omega (arith, h))
three (a ∷ b ∷ []) h = absurd (omega (arith, h))
three (a ∷ b ∷ c ∷ xs) h = refl

-- the first m, of which there are 11 at least
split_front : (xs : List ℕ) (m : ℕ) → 11 ≤ m → m ≤ length xs
    → take m xs ≡ slice_index xs 0 ∷ slice_index xs 1 ∷ slice_index xs 2 ∷ (slice_range xs 3 11 ++ slice_range xs 11 m)
split_front [] m low high = absurd (omega (arith, low, high))
split_front (a ∷ []) m low high = absurd (omega (arith, low, high))
split_front (a ∷ b ∷ []) m low high = absurd (omega (arith, low, high))
split_front (a ∷ b ∷ c ∷ xs) m low high =
    let parts : m ≡ 3 + (8 + (m - 11)) = omega (arith, low) in
    ap (λ k. take k (a ∷ b ∷ c ∷ xs)) parts ∙ take-add 3 (8 + (m - 11)) (a ∷ b ∷ c ∷ xs)
    ∙ ap (λ l. a ∷ b ∷ c ∷ l) (take-add 8 (m - 11) xs)

-- eight bytes of a list of bytes
word_small : (xs : List ℕ) (from : ℕ) → ((k : ℕ) → slice_index xs k < 256) → (i : ℕ) → get_or (take 8 (drop from xs)) i 0 < 256
word_small xs from small i =
    elim (leb_tells 8 i) [
      | inl out ↦
          let size : length (take 8 (drop from xs)) ≤ i = omega (arith, length-take 8 (drop from xs), out.1) in
          omega (arith, get_or-eq_default (take 8 (drop from xs)) 0 size)
      | inr within ↦ omega (arith, get_or-take 8 (drop from xs) i 0 within.1, get_or-drop from xs i 0, small (from + i))
    ]

pub word_is : (xs : List ℕ) (from : ℕ) → from + 8 ≤ length xs → ((k : ℕ) → slice_index xs k < 256)
    → take 8 (drop from xs) ≡ to_be_bytes w64 (from_be_bytes w64 (take 8 (drop from xs)))
word_is xs from long small =
    let word = take 8 (drop from xs) in
    let size : length word ≡ 8 = omega (arith, length-take 8 (drop from xs), length-drop from xs) in
    sym (be_bytes_8 word (from_be_bytes w64 word) size (word_small xs from small) refl)

pub front_is : (first : ℕ) (xs : List ℕ) (j : ℕ) → frame_overhead ≤ length xs → ((k : ℕ) → slice_index xs k < 256) → version_of xs ≡ first → receiver_of xs ≡ j
    → tagged_front xs ≡ first ∷ sender_of xs ∷ j ∷ (to_be_bytes w64 (seq_of xs) ++ frame_body xs)
front_is first xs j long small one mine =
    split_front xs (length xs - tag_length) (omega arith) (omega arith)
    ∙ ap₂ (λ (v r : ℕ). v ∷ sender_of xs ∷ r ∷ (slice_range xs 3 11 ++ frame_body xs)) one mine
    ∙ ap (λ l. first ∷ sender_of xs ∷ j ∷ (l ++ frame_body xs)) (word_is xs 3 (omega arith) small)

-- ---- the law

abbrev IsFromSender : FrameVersion → List ℕ → ℕ → ℕ → ℕ → List ℕ → Opening → Type 0
IsFromSender version master session n j bytes o =
    (o.from < n) × (o.from ≢ j) × (bytes ≡ sealed (dealt_for version master session n o.from) j o.seq o.body)

from_sender : (version : FrameVersion) (master : List ℕ) (session n j : ℕ) (bytes : List ℕ) → j < n → ((k : ℕ) → slice_index bytes k < 256)
    → IsPlain (dealt_for version master session n j) bytes → is_tagged (dealt_for version master session n j) bytes ≡ true
    → IsFromSender version master session n j bytes (opening_parts bytes)
from_sender version master session n j bytes j_in small plain tagged =
    let i = sender_of bytes in
    let k = dealt_for version master session n j in
    let by = dealt_for version master session n i in
    let i_in : i < n = plain.sender in
    let front = front_is (version_byte version) bytes j plain.long small plain.version plain.receiver in
    let key : key_with k i ≡ key_with by j =
    key_with-dealt master session n j i i_in ∙ pair_key_swapped master session j i ∙ sym (key_with-dealt master session n i j j_in) in
    let tag = sym ((bytes_eq-Decides (hmac_of (key_with k i) (tagged_front bytes)) (tag_of bytes)).0 tagged) ∙ ap₂ hmac_of key front in
    (i_in, plain.other, sym (take-append-drop (length bytes - tag_length) bytes) ∙ ap₂ (λ (x y : List ℕ). x ++ y) front tag)

pub opens_sealed_holds : OpensSealed
opens_sealed_holds version master session n j bytes o j_in small opens =
    let t = opened_is (dealt_for version master session n j) bytes o opens in
    let P : Opening → Type 0 = λ x. IsFromSender version master session n j bytes x in
    subst P t.parts (from_sender version master session n j bytes j_in small t.plain t.tagged)

-- ---- what opens, whatever the keys

pub opened_from_peer_holds : OpenedFromPeer
opened_from_peer_holds k bytes o opens =
    let t = opened_is k bytes o opens in
    let P : Opening → Type 0 = λ x. (x.from < k.n) × (x.from ≢ k.me) × (receiver_of bytes ≡ k.me) in
    subst P t.parts (t.plain.sender, t.plain.other, t.plain.receiver)

pub opened_parts_hold : OpenedParts
opened_parts_hold k bytes o opens =
    let t = opened_is k bytes o opens in
    (t.plain.long, sym t.parts)
