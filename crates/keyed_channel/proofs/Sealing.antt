-- What is sealed opens, and what opens was sealed.
use Rattle.std.specs.Prelude.{◌≡◌, ℕ, ◌+◌, ◌-◌, ◌^◌, ◌<◌, Bool, true, false, not, ◌==◌, ◌&&◌, nat_le, List, ◌∷◌, ◌++◌, length, take, drop, None, Ok, refl}
use Rattle.std.specs.Int.{w64, to_be_bytes}
use Rattle.std.proofs.Common.{sym, ◌∙◌, ap, ap₂, arith}
use Rattle.std.proofs.Math.Seq.{take-append_seam, drop-append_seam}
use Rattle.std.proofs.lemmas.List.{length-append}
use Rattle.std.proofs.lemmas.Nat.{from_be_bytes-to_be_bytes_8}
use Rattle.std.proofs.lemmas.Bool.{le-leb, lt-ltb, eq-eqb, ne_eqb, lt-leb}
use Rattle.std.proofs.lemmas.Slice.Eq.{bytes_eq-Decides}
use Rattle.sha2.proofs.Facts256.{length-sha256}
use Rattle.sha2.specs.Sha256.{sha256}
use Rattle.ritas_base.specs.Limits.{longest_frame}
use Rattle.keyed_channel.specs.Lengths.{head_length, tag_length, least_frame}
use Rattle.keyed_channel.specs.Hmac.{hmac_of, pad}
use Rattle.keyed_channel.specs.KeyRow.{key_with}
use Rattle.keyed_channel.specs.Keyed.{dealt_for}
use Rattle.ritas_base.specs.declared.mode.FrameVersion.{FrameVersion}
use Rattle.ritas_base.specs.Bytes.{version_byte}
use Rattle.keyed_channel.specs.Frames.{frame_front, sealed, tagged_front, tag_of, version_of, sender_of, receiver_of, seq_of, frame_body, opening_parts, is_peer, is_tagged, plain_fault, Opening}
use Rattle.keyed_channel.specs.Laws.{OpensAsSealed, SealedLength, SealedLong, SealedOpens}
use Rattle.keyed_channel.specs.declared.frame.OpenFault.TheVariants.{Long}
use Rattle.keyed_channel.proofs.Opens.{five_pass, too_long, opening_plain, opening_ok, opening_tagged}
use Rattle.keyed_channel.proofs.Dealt.{key_with-dealt, pair_key_swapped}

pub length-hmac_of : (key text : List ℕ) → length (hmac_of key text) ≡ tag_length
unfolding hmac_of
length-hmac_of key text = length-sha256 (pad 0x5c key ++ sha256 (pad 0x36 key ++ text))

pub length-front : (version : FrameVersion) (from to seq : ℕ) (body : List ℕ) → length (frame_front version from to seq body) ≡ length body + head_length
length-front version from to seq body = omega arith

pub sealed_length_holds : SealedLength
sealed_length_holds k to seq body =
    let front = frame_front k.version k.me to seq body in
    let tag = hmac_of (key_with k to) front in
    omega (arith, length-append front tag, length-front k.version k.me to seq body, length-hmac_of (key_with k to) front)

-- a front with a tag behind it comes apart again
pub front_is : (front tag : List ℕ) → length tag ≡ tag_length → tagged_front (front ++ tag) ≡ front
front_is front tag long =
    let at : length (front ++ tag) - tag_length ≡ length front = omega (arith, length-append front tag) in
    ap (λ k. take k (front ++ tag)) at ∙ take-append_seam front tag

pub tag_is : (front tag : List ℕ) → length tag ≡ tag_length → tag_of (front ++ tag) ≡ tag
tag_is front tag long =
    let at : length (front ++ tag) - tag_length ≡ length front = omega (arith, length-append front tag) in
    ap (λ k. drop k (front ++ tag)) at ∙ drop-append_seam front tag

-- whatever the first byte is
pub parts_of : (first from to number : ℕ) (body tag : List ℕ) → number < 2 ^ 64 → length tag ≡ tag_length
    → opening_parts (first ∷ from ∷ to ∷ (to_be_bytes w64 number ++ body) ++ tag) ≡ record { from = from; seq = number; body = body }
parts_of first from to number body tag small long =
    let bytes = first ∷ from ∷ to ∷ (to_be_bytes w64 number ++ body) ++ tag in
    let said : seq_of bytes ≡ number = from_be_bytes-to_be_bytes_8 number small in
    let at : length bytes - tag_length - head_length ≡ length body = omega (arith, length-append body tag) in
    let rest : frame_body bytes ≡ body = ap (λ k. take k (body ++ tag)) at ∙ take-append_seam body tag in
    let opening_of : ℕ → List ℕ → Opening = λ q b. record { from = from; seq = q; body = b } in
    ap₂ opening_of said rest

pub parts_are : (version : FrameVersion) (from to seq : ℕ) (body tag : List ℕ) → seq < 2 ^ 64 → length tag ≡ tag_length
    → opening_parts (frame_front version from to seq body ++ tag) ≡ record { from = from; seq = seq; body = body }
parts_are version from to seq body tag small long = parts_of (version_byte version) from to seq body tag small long

-- what opens are the parts
pub opens_as_sealed_holds : OpensAsSealed
opens_as_sealed_holds a b to seq body o small opens =
    let front = frame_front a.version a.me to seq body in
    let t = opening_ok b (sealed a to seq body) o opens in
    sym t.2 ∙ parts_are a.version a.me to seq body (hmac_of (key_with a to) front) small (length-hmac_of (key_with a to) front)

-- ---- what doesn't open, and what does

pub sealed_long_holds : SealedLong
sealed_long_holds k by to seq body long =
    let bytes = sealed by to seq body in
    let size = sealed_length_holds by to seq body in
    let enough : nat_le least_frame (length bytes) ≡ true = le-leb least_frame (length bytes) (omega arith) in
    let over : nat_le (length bytes) longest_frame ≡ false = lt-leb (length bytes) longest_frame (omega arith) in
    opening_plain k bytes Long (too_long _ _ (version_of bytes == version_byte k.version) (receiver_of bytes == k.me) (is_peer k (sender_of bytes)) enough over)

-- the tag is right at the other end
tagged_there : (version : FrameVersion) (master : List ℕ) (session n i j seq : ℕ) (body : List ℕ) → i < n → j < n
    → is_tagged (dealt_for version master session n j) (sealed (dealt_for version master session n i) j seq body) ≡ true
tagged_there version master session n i j seq body i_in j_in =
    let mine = key_with (dealt_for version master session n i) j in
    let theirs = key_with (dealt_for version master session n j) i in
    let front = frame_front version i j seq body in
    let tag = hmac_of mine front in
    let long = length-hmac_of mine front in
    let same : theirs ≡ mine =
    key_with-dealt master session n j i i_in ∙ pair_key_swapped master session j i ∙ sym (key_with-dealt master session n i j j_in) in
    let wanted = ap₂ hmac_of same (front_is front tag long) ∙ sym (tag_is front tag long) in
    (bytes_eq-Decides (hmac_of theirs (tagged_front (front ++ tag))) (tag_of (front ++ tag))).1 wanted

pub sealed_opens_holds : SealedOpens
sealed_opens_holds version master session n i j seq body i_in j_in ne small enough_body short =
    let k = dealt_for version master session n j in
    let by = dealt_for version master session n i in
    let bytes = sealed by j seq body in
    let size = sealed_length_holds by j seq body in
    let enough : nat_le least_frame (length bytes) ≡ true = le-leb least_frame (length bytes) (omega arith) in
    let most : nat_le (length bytes) longest_frame ≡ true = le-leb (length bytes) longest_frame (omega arith) in
    let peer : is_peer k i ≡ true = ap₂ (λ (x y : Bool). x && not y) (lt-ltb i n i_in) (ne_eqb i j ne) in
    let plain : plain_fault k bytes ≡ None =
    five_pass _ _ _ _ _ enough most (eq-eqb (version_byte version) (version_byte version) refl) (eq-eqb j j refl) peer in
    opening_tagged k bytes plain (tagged_there version master session n i j seq body i_in j_in)
    ∙ ap Ok (parts_are version i j seq body _ small (length-hmac_of (key_with by j) (frame_front version i j seq body)))
