-- HASHES and columns, as bytes: how long they are, and whose rows a column has.
use Rattle.std.specs.Prelude.{◌≡◌, ℕ, ◌<◌, ◌≤◌, ◌*◌, ◌^◌, true, nat_lt, nat_le, List, [], ◌∷◌, ◌++◌, map, length, drop, replicate, Option, Some, None, is_some, count_by, refl}
use Rattle.std.proofs.Common.{sym, ◌∙◌, ap, subst, arith, get_or}
use Rattle.std.specs.List.{flat_map}
use Rattle.std.specs.Int.{w32, to_be_bytes, from_be_bytes}
use Rattle.std.specs.Int.RustNames.{count_ones}
use Rattle.std.proofs.Math.Pow.{pow-lt}
use Rattle.std.proofs.lemmas.Bool.{and_from, lt-ltb, le-leb}
use Rattle.std.proofs.lemmas.List.{length-append, length-drop, length-map, length-take-le, length-replicate, append-nil, take_at}
use Rattle.std.proofs.lemmas.List.Concat.{flat_map-cons}
use Rattle.std.proofs.lemmas.Nat.{from_be_bytes-to_be_bytes_4}
use Rattle.std.proofs.lemmas.Simd.{mask_l-lt, ones-mask_l}
use Rattle.ritas_base.specs.Members.{has_member}
use Rattle.ritas_base.specs.MemberLaws.{places_there}
use Rattle.ritas_base.specs.Quorums.{count_yes, count_no}
use Rattle.frame_codec.specs.Format.{Is}
use Rattle.frame_codec.specs.Grammar.{hashes, column, is_places}
use Rattle.frame_codec.specs.Values.{column_bytes, mask_of}
use Rattle.layer_api.specs.Entries.{entry_in}
use Rattle.echo_bcast.specs.Matrix.{as_entry, hashes_bytes, senders_of, rows_for}

-- ---- HASHES

as_entry_length : (e : List ℕ) → length (as_entry e) ≡ 32
as_entry_length e =
    let zeros : List ℕ = replicate 32 0 in
    let many : length zeros ≡ 32 = length-replicate {A = ℕ} 32 0 in
    length-take-le 32 (e ++ zeros) (omega (arith, length-append e zeros, many))

-- an entry of 32 bytes is written as it is
pub as_entry_is : (e : List ℕ) → length e ≡ 32 → as_entry e ≡ e
as_entry_is e len = take_at e (replicate 32 0) 32 len

hashes_length : (es : List (List ℕ)) → length (hashes_bytes es) ≡ 32 * length es
hashes_length [] = refl
hashes_length (e ∷ es) =
    ap length (flat_map-cons as_entry e es) ∙ omega (arith, length-append (as_entry e) (hashes_bytes es), as_entry_length e, hashes_length es)

pub hashes_good : (n : ℕ) (es : List (List ℕ)) → length es ≡ n → Is (hashes n) (hashes_bytes es)
unfolding hashes
hashes_good n es len =
    (hashes_bytes es, [], sym (append-nil (hashes_bytes es)), hashes_length es ∙ ap (λ (k : ℕ). 32 * k) len, refl, refl)

pub hashes_long : (n : ℕ) (value : List ℕ) → Is (hashes n) value → length value ≡ 32 * n
unfolding hashes
hashes_long n value (front, rest, parts, len, ok, nil) = ap length parts ∙ omega (arith, length-append front rest, len, ap length nil)

-- ---- columns

-- each of these HASHES is of n entries
abbrev pub AreLong : ℕ → List (Option (List ℕ)) → Type 0
AreLong n [] = Unit {0}
AreLong n (None ∷ hs) = AreLong n hs
AreLong n (Some value ∷ hs) = (length value ≡ 32 * n) × AreLong n hs

pub are_long : (n : ℕ) (f : ℕ → Option (List ℕ)) → ((k : ℕ) (v : List ℕ) → f k ≡ Some v → length v ≡ 32 * n) → (ks : List ℕ) → AreLong n (map f ks)
are_long n f long [] = tt
are_long n f long (k ∷ ks) = go (f k) refl (are_long n f long ks)
  where
    go : (o : Option (List ℕ)) → f k ≡ o → AreLong n (map f ks) → AreLong n (o ∷ map f ks)
    go None e others = others
    go (Some v) e others = (long k v e, others)

pub rows_length : (n k : ℕ) (hs : List (Option (List ℕ))) → k < n → AreLong n hs → length (flat_map (λ row. row) (rows_for k hs)) ≡ 32 * count_by is_some hs
rows_length n k [] lt long = refl
rows_length n k (None ∷ hs) lt long = rows_length n k hs lt long ∙ ap (λ (c : ℕ). 32 * c) (sym (count_no is_some None hs refl))
rows_length n k (Some value ∷ hs) lt long =
    let row : length (entry_in k value) ≡ 32 = length-take-le 32 (drop (32 * k) value) (omega (arith, length-drop (32 * k) value, long.0, lt)) in
    ap length (flat_map-cons (λ (r : List ℕ). r) (entry_in k value) (rows_for k hs))
    ∙ omega (arith, length-append (entry_in k value) (flat_map (λ r. r) (rows_for k hs)), row, rows_length n k hs lt long.1, count_yes is_some (Some value) hs refl)

pub senders_ones : (hs : List (Option (List ℕ))) → count_ones (senders_of hs) ≡ count_by is_some hs
senders_ones hs = ones-mask_l is_some hs

pub senders_lt : (n : ℕ) (hs : List (Option (List ℕ))) → length hs ≡ n → senders_of hs < 2 ^ n
senders_lt n hs len = subst (λ (k : ℕ). senders_of hs < 2 ^ k) (length-map hs is_some ∙ len) (mask_l-lt (map is_some hs))

pub senders_small : (n : ℕ) (hs : List (Option (List ℕ))) → length hs ≡ n → n ≤ 31 → senders_of hs < 2 ^ 32
senders_small n hs len most =
    let below = senders_lt n hs len in let least : n < 32 = omega (arith, most) in let more : 2 ^ n < 2 ^ 32 = pow-lt least in omega (arith, below, more)

pub column_good : (n k : ℕ) (hs : List (Option (List ℕ))) → n ≤ 31 → length hs ≡ n → 1 ≤ count_by is_some hs → k < n → AreLong n hs
    → Is (column n) (column_bytes (senders_of hs) (rows_for k hs))
unfolding column
column_good n k hs most len some lt long =
    let mask = senders_of hs in
    let back : from_be_bytes w32 (to_be_bytes w32 mask) ≡ mask = from_be_bytes-to_be_bytes_4 mask (senders_small n hs len most) in
    let text = flat_map (λ row. row) (rows_for k hs) in
    let places : is_places n 1 mask ≡ true =
    and_from (nat_lt mask (2 ^ n)) (nat_le 1 (count_ones mask)) (lt-ltb mask (2 ^ n) (senders_lt n hs len)) (le-leb 1 (count_ones mask) (omega (arith, some, senders_ones hs))) in
    let whole : length text ≡ 32 * count_ones (from_be_bytes w32 (to_be_bytes w32 mask)) =
    rows_length n k hs lt long ∙ ap (λ (c : ℕ). 32 * c) (sym (ap count_ones back ∙ senders_ones hs)) in
    (to_be_bytes w32 mask, text, refl, refl, ap (is_places n 1) back ∙ places, (text, [], sym (append-nil text), whole, refl, refl))

-- a column tells its senders
pub column_mask : (n : ℕ) (hs : List (Option (List ℕ))) (rows : List (List ℕ)) → length hs ≡ n → n ≤ 31 → mask_of (column_bytes (senders_of hs) rows) ≡ senders_of hs
unfolding mask_of
column_mask n hs rows len most =
    ap (from_be_bytes w32) (take_at (to_be_bytes w32 (senders_of hs)) (flat_map (λ row. row) rows) 4 refl)
    ∙ from_be_bytes-to_be_bytes_4 (senders_of hs) (senders_small n hs len most)

-- the members of the senders' mask
pub senders_have : (hs : List (Option (List ℕ))) (k : ℕ) → has_member (senders_of hs) k ≡ is_some (get_or hs k None)
senders_have hs k = places_there hs k
