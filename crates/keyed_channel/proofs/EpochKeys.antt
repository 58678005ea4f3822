-- The keys of epochs.
use Rattle.std.specs.Prelude.{◌≡◌, ◌≢◌, ℕ, ◌==◌, ◌<◌, ◌-◌, Bool, ◌&&◌, List, ◌++◌, length, map, take, replicate, if◌then◌else◌}
use Rattle.std.specs.Str.{bytes_eq}
use Rattle.std.proofs.Common.{sym, ◌∙◌, ap, ap₂, arith}
use Rattle.std.proofs.lemmas.Bool.{and_parts, eqb-true, eq-eqb, ne_eqb}
use Rattle.std.proofs.lemmas.List.{length-map, length-take-le, get_or_append_left, get_or-map, get_or-take, map-id, take-append-drop}
use Rattle.std.proofs.lemmas.Slice.Eq.{bytes_eq-Decides}
use Rattle.ritas_base.specs.Bytes.{zero_key, filled_row}
use Rattle.keyed_channel.specs.Hmac.{hmac_of}
use Rattle.keyed_channel.specs.KeyRow.{KeyRow, IsKeyRow, key_with}
use Rattle.keyed_channel.specs.Epochs.{epoch_string, epoch_key, epoch_keys}
use Rattle.keyed_channel.specs.EpochLaws.{EpochZeroKeepsKeys, EpochsShareKeys}
use Rattle.keyed_channel.proofs.Shared.{one_key}

-- the key of epoch 0, and of another
pub own_key : (session epoch : ℕ) (key : List ℕ) → epoch ≡ 0 → epoch_key session epoch key ≡ key
own_key session epoch key first = ap (λ (b : Bool). if b then key else hmac_of key (epoch_string session epoch)) (eq-eqb epoch 0 first)

pub later_key : (session epoch : ℕ) (key : List ℕ) → epoch ≢ 0 → epoch_key session epoch key ≡ hmac_of key (epoch_string session epoch)
later_key session epoch key later = ap (λ (b : Bool). if b then key else hmac_of key (epoch_string session epoch)) (ne_eqb epoch 0 later)

-- n keys stand in the row
pub own_keys : (k : KeyRow) → IsKeyRow k → length (take k.n k.row) ≡ k.n
own_keys k is = length-take-le k.n k.row (omega (arith, is.most, is.places))

-- the key of a place
key_with-epoch : (epoch : ℕ) (k : KeyRow) (j : ℕ) → IsKeyRow k → j < k.n → key_with (epoch_keys epoch k) j ≡ epoch_key k.session epoch (key_with k j)
key_with-epoch epoch k j is lt =
    let f : List ℕ → List ℕ = λ key. epoch_key k.session epoch key in
    let own = take k.n k.row in
    let keys = map f own in
    let size = own_keys k is in
    let many : length keys ≡ length own = length-map own f in
    let within : j < length keys = omega (arith, many, size) in
    get_or_append_left keys (replicate (31 - length keys) zero_key) zero_key j within
    ∙ get_or-map f own j zero_key zero_key (omega (arith, size))
    ∙ ap f (get_or-take k.n k.row j zero_key lt)

-- ---- the laws

pub epoch_zero_keeps_keys_holds : EpochZeroKeepsKeys
epoch_zero_keeps_keys_holds k is =
    let own = take k.n k.row in
    let row : filled_row (map (epoch_key k.session 0) own) ≡ k.row =
    ap filled_row (map-id own)
    ∙ ap (λ (n : ℕ). own ++ replicate (31 - n) zero_key) (own_keys k is)
    ∙ ap (λ (rest : List (List ℕ)). own ++ rest) (sym is.rest)
    ∙ take-append-drop k.n k.row in
    ap (λ (r : List (List ℕ)). record k { row = r }) row

pub epochs_share_keys_hold : EpochsShareKeys
epochs_share_keys_hold epoch a b a_is b_is a_in b_in shared =
    let parts = and_parts (a.session == b.session) (bytes_eq (key_with a b.me) (key_with b a.me)) shared in
    let session = eqb-true a.session b.session parts.0 in
    let mine = key_with (epoch_keys epoch a) b.me in
    let theirs = key_with (epoch_keys epoch b) a.me in
    let same : mine ≡ theirs =
    key_with-epoch epoch a b.me a_is b_in
    ∙ ap₂ (λ (s : ℕ) (key : List ℕ). epoch_key s epoch key) session (one_key a b shared)
    ∙ sym (key_with-epoch epoch b a.me b_is a_in) in
    ap₂ (λ (x y : Bool). x && y) parts.0 ((bytes_eq-Decides mine theirs).1 same)
