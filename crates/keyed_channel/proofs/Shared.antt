-- A key that two replicas share, and the tags under it.
use Rattle.std.specs.Prelude.{◌≡◌, ℕ, Bool, true, false, ◌==◌, ◌&&◌, List, ◌++◌, Option, Some, None, refl, if◌then◌else◌}
use Rattle.std.specs.Str.{bytes_eq}
use Rattle.std.proofs.Common.{sym, ◌∙◌, ap₂}
use Rattle.std.proofs.lemmas.Bool.{and_parts}
use Rattle.std.proofs.lemmas.Slice.Eq.{bytes_eq-Decides}
use Rattle.keyed_channel.specs.Hmac.{hmac_of}
use Rattle.keyed_channel.specs.KeyRow.{KeyRow, key_with, shares_key}
use Rattle.keyed_channel.specs.Frames.{with_tag, tagged_front, tag_of}
use Rattle.keyed_channel.proofs.Sealing.{length-hmac_of, front_is, tag_is}

-- the one key of both
pub one_key : (a b : KeyRow) → shares_key a b ≡ true → key_with a b.me ≡ key_with b a.me
one_key a b shared =
    let parts = and_parts (a.session == b.session) (bytes_eq (key_with a b.me) (key_with b a.me)) shared in
    (bytes_eq-Decides (key_with a b.me) (key_with b a.me)).0 parts.1

-- a tag under it is right
pub tagged_by : (key theirs front : List ℕ) → key ≡ theirs → bytes_eq (hmac_of theirs (tagged_front (with_tag key front))) (tag_of (with_tag key front)) ≡ true
tagged_by key theirs front same =
    let tag = hmac_of key front in
    let long = length-hmac_of key front in
    let wanted = ap₂ hmac_of (sym same) (front_is front tag long) ∙ sym (tag_is front tag long) in
    (bytes_eq-Decides (hmac_of theirs (tagged_front (front ++ tag))) (tag_of (front ++ tag))).1 wanted

-- what is said passed both tests
pub right_by : {X : Type 0} (a b : Bool) (said : Option X) (x : X) → (if a && b then said else None) ≡ Some x → (a ≡ true) × (b ≡ true) × (said ≡ Some x)
right_by true true said x h = (refl, refl, h)
right_by true false said x h = cc
right_by false b said x h = cc
