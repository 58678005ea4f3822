-- A front with its tag, and what is read of it without the tag.
use Rattle.std.specs.Prelude.{◌≡◌, ◌≢◌, ℕ, ◌+◌, Bool, true, false, ◌&&◌, List, ◌++◌, length, take, drop, refl}
use Rattle.std.specs.Str.{bytes_eq}
use Rattle.std.proofs.Common.{sym, ◌∙◌, ap, ap₂, arith}
use Rattle.std.proofs.lemmas.Bool.{and_parts}
use Rattle.std.proofs.lemmas.List.{length-append, take-append-drop}
use Rattle.std.proofs.lemmas.Slice.Eq.{bytes_eq-Decides}
use Rattle.ritas_base.specs.declared.mode.FrameVersion.{FrameVersion}
use Rattle.ritas_base.specs.Bytes.{version_byte}
use Rattle.ritas_base.specs.Places.{first_failed}
use Rattle.keyed_channel.specs.Lengths.{frame_overhead}
use Rattle.keyed_channel.specs.Hmac.{hmac_of}
use Rattle.keyed_channel.specs.KeyRow.{KeyRow}
use Rattle.keyed_channel.specs.Frames.{frame_front, with_tag, tagged_front, tag_of, parts_tests, plain_fault}
use Rattle.keyed_channel.proofs.Sealing.{length-hmac_of, length-front, front_is, tag_is}

-- its front
pub front_of_tagged : (key front : List ℕ) → tagged_front (with_tag key front) ≡ front
front_of_tagged key front = front_is front (hmac_of key front) (length-hmac_of key front)

-- its tag
pub tag_of_tagged : (key front bytes : List ℕ) → with_tag key front ≡ bytes → hmac_of key (tagged_front bytes) ≡ tag_of bytes
tag_of_tagged key front bytes is =
    ap (λ b. hmac_of key (tagged_front b)) (sym is)
    ∙ ap (hmac_of key) (front_of_tagged key front)
    ∙ sym (tag_is front (hmac_of key front) (length-hmac_of key front))
    ∙ ap tag_of is

pub length_of_tagged : (version : FrameVersion) (from to seq : ℕ) (body key : List ℕ)
    → length (with_tag key (frame_front version from to seq body)) ≡ length body + frame_overhead
length_of_tagged version from to seq body key =
    let front = frame_front version from to seq body in
    omega (arith, length-append front (hmac_of key front), length-front version from to seq body, length-hmac_of key front)

-- the tests that need no key, by what it names
pub plain_by_parts : (k : KeyRow) (version : FrameVersion) (from to seq : ℕ) (body key : List ℕ)
    → let bytes = with_tag key (frame_front version from to seq body) in first_failed (parts_tests k (length bytes) (version_byte version) from to) ≡ plain_fault k bytes
plain_by_parts k version from to seq body key = refl

-- ---- comparing in two parts

same_bools : (a b : Bool) → (a ≡ true → b ≡ true) → (b ≡ true → a ≡ true) → a ≡ b
same_bools true b there back = sym (there refl)
same_bools false true there back = back refl
same_bools false false there back = refl

pub and_then : (a b e : Bool) → (a && b) ≡ e → a ≡ true → b ≡ e
and_then true b e is h = is
and_then false b e is h = cc

pub and_else : (a b e : Bool) → (a && b) ≡ e → a ≡ false → a ≡ e
and_else false b e is h = is
and_else true b e is h = cc

-- two lists are the same where their fronts and their backs are
pub same_by_parts : (xs ys : List ℕ) (k l : ℕ) → (xs ≡ ys → k ≡ l)
    → (bytes_eq (take k xs) (take l ys) && bytes_eq (drop k xs) (drop l ys)) ≡ bytes_eq xs ys
same_by_parts xs ys k l at =
    same_bools _ _
    (λ both.
    let parts = and_parts (bytes_eq (take k xs) (take l ys)) (bytes_eq (drop k xs) (drop l ys)) both in
    (bytes_eq-Decides xs ys).1
    (sym (take-append-drop k xs)
    ∙ ap₂ (λ (f b : List ℕ). f ++ b) ((bytes_eq-Decides (take k xs) (take l ys)).0 parts.0) ((bytes_eq-Decides (drop k xs) (drop l ys)).0 parts.1)
    ∙ take-append-drop l ys))
    (λ whole.
    let same = (bytes_eq-Decides xs ys).0 whole in
    ap₂ (λ (a b : Bool). a && b)
    ((bytes_eq-Decides (take k xs) (take l ys)).1 (ap₂ (λ (n : ℕ) (m : List ℕ). take n m) (at same) same))
    ((bytes_eq-Decides (drop k xs) (drop l ys)).1 (ap₂ (λ (n : ℕ) (m : List ℕ). drop n m) (at same) same)))

by_length : (xs ys : List ℕ) (b : Bool) → bytes_eq xs ys ≡ b → length xs ≢ length ys → false ≡ b
by_length xs ys false e differ = refl
by_length xs ys true e differ = absurd (differ (ap length ((bytes_eq-Decides xs ys).0 e)))

-- lists of other lengths are others
pub differ_by_length : (xs ys : List ℕ) → length xs ≢ length ys → false ≡ bytes_eq xs ys
differ_by_length xs ys differ = by_length xs ys (bytes_eq xs ys) refl differ
