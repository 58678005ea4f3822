-- Rows of keys: n keys, and zeros behind them.
use Rattle.std.specs.Prelude.{◌≡◌, ℕ, ◌+◌, ◌-◌, ◌<◌, ◌≤◌, List, [], ◌∷◌, ◌++◌, length, map, drop, replicate}
use Rattle.std.specs.List.{range_with_len}
use Rattle.std.proofs.Common.{sym, ◌∙◌, ap, subst, arith, suc, append_assoc}
use Rattle.std.proofs.Math.ListN.{set, take, get_or, get_or-map}
use Rattle.std.proofs.Math.Seq.{drop-append_seam, take-length}
use Rattle.std.proofs.lemmas.List.{length-append, length-map, length-replicate, length-take, map_more, set-append_right, get_or-take, get_or_read}
use Rattle.std.proofs.lemmas.List.FromFn.{length-map-range_with_len, map-range_with_len_more}
use Rattle.ritas_base.specs.declared.mode.FrameVersion.TheVariants.{One}
use Rattle.ritas_base.specs.Bytes.{zero_key, filled_row}
use Rattle.keyed_channel.specs.KeyRow.{KeyRow, IsKeyRow}

-- a row made of n keys is one
pub keys_row_is : (k : KeyRow) (keys : List (List ℕ)) → length keys ≡ k.n → k.me < k.n → k.n ≤ 31 → IsKeyRow (record k { row = filled_row keys })
keys_row_is k keys long mine most = record {
  mine = mine;
  most = most;
  places = omega (arith, length-append keys (replicate (31 - length keys) zero_key), length-replicate (31 - length keys) zero_key);
  rest =
      let P : ℕ → Type 0 = λ n. drop n (filled_row keys) ≡ replicate (31 - n) zero_key in
      subst P long (drop-append_seam keys (replicate (31 - length keys) zero_key));
}

pub filled_row_is : (session n me : ℕ) (keys : List (List ℕ)) → length keys ≡ n → me < n → n ≤ 31
    → IsKeyRow (record { session = session; n = n; me = me; row = filled_row keys; version = One })
filled_row_is session n me keys long mine most = keys_row_is (record { session = session; n = n; me = me; row = []; version = One }) keys long mine most

-- one key more
pub place_more : (keys row : List (List ℕ)) (j : ℕ) (key : List ℕ) → length keys ≡ j → j < 31 → row ≡ keys ++ replicate (31 - j) zero_key
    → set row j key ≡ keys ++ key ∷ [] ++ replicate (31 - (j + 1)) zero_key
place_more keys row j key long lt is =
    let next : 31 - j ≡ suc (31 - (j + 1)) = omega arith in
    let here : j - j ≡ 0 = omega arith in
    ap (λ l. set l j key) is
    ∙ set-append_right keys (replicate (31 - j) zero_key) j j key long (omega arith)
    ∙ ap (λ k. keys ++ set (replicate (31 - j) zero_key) k key) here
    ∙ ap (λ k. keys ++ set (replicate k zero_key) 0 key) next
    ∙ sym (append_assoc keys (key ∷ []) (replicate (31 - (j + 1)) zero_key))

pub row_more : (f : ℕ → List ℕ) (row : List (List ℕ)) (j : ℕ) → j < 31 → row ≡ map f (range_with_len 0 j) ++ replicate (31 - j) zero_key
    → set row j (f j) ≡ map f (range_with_len 0 (j + 1)) ++ replicate (31 - (j + 1)) zero_key
row_more f row j lt is =
    place_more (map f (range_with_len 0 j)) row j (f j) (length-map-range_with_len f 0 j) lt is
    ∙ ap (λ l. l ++ replicate (31 - (j + 1)) zero_key) (sym (map-range_with_len_more f 0 j j (omega arith)))

-- one key of an epoch more
pub epoch_row_more : (f : List ℕ → List ℕ) (given row : List (List ℕ)) (j : ℕ) (d : List ℕ) → length given ≤ 31 → j < length given
    → row ≡ map f (take j given) ++ replicate (31 - j) zero_key
    → set row j (f (get_or given j d)) ≡ map f (take (j + 1) given) ++ replicate (31 - (j + 1)) zero_key
epoch_row_more f given row j d most lt is =
    let long : length (map f (take j given)) ≡ j = omega (arith, length-map (take j given) f, length-take j given) in
    place_more (map f (take j given)) row j (f (get_or given j d)) long (omega arith) is
    ∙ ap (λ l. l ++ replicate (31 - (j + 1)) zero_key) (sym (map_more f given j d lt))

-- the keys of an epoch, where all are there
pub epoch_row_done : (f : List ℕ → List ℕ) (given row : List (List ℕ)) (j : ℕ) → length given ≤ j → row ≡ map f (take j given) ++ replicate (31 - j) zero_key → j ≤ length given
    → row ≡ filled_row (map f given)
epoch_row_done f given row j low is high =
    let all : j ≡ length given = omega arith in
    let long : length (map f given) ≡ length given = length-map given f in
    is
    ∙ ap (λ (n : ℕ). map f (take n given) ++ replicate (31 - n) zero_key) all
    ∙ ap (λ (l : List (List ℕ)). map f l ++ replicate (31 - length given) zero_key) (take-length given)
    ∙ ap (λ (n : ℕ). map f given ++ replicate (31 - n) zero_key) (sym long)

-- a row of n keys, where all are there
pub row_done : (f : ℕ → List ℕ) (row : List (List ℕ)) (n j : ℕ) → n ≡ j → row ≡ map f (range_with_len 0 j) ++ replicate (31 - j) zero_key
    → row ≡ filled_row (map f (range_with_len 0 n))
row_done f row n j same is =
    let P : ℕ → Type 0 = λ k. row ≡ map f (range_with_len 0 k) ++ replicate (31 - k) zero_key in
    subst P (sym same) is
    ∙ ap (λ k. map f (range_with_len 0 n) ++ replicate (31 - k) zero_key) (sym (length-map-range_with_len f 0 n))

-- a key read from the first n of a row
pub key_read : (row keys : List (List ℕ)) (n j : ℕ) (x : List ℕ) → keys ≡ take n row → j < n → n ≤ length row → x ≡ get_or keys j x
    → x ≡ get_or row j zero_key
key_read row keys n j x front lt within read =
    get_or_read row j x (omega arith) (read ∙ ap (λ l. get_or l j x) front ∙ get_or-take n row j x lt) zero_key

-- the same of a list whose values are the first n of the row
pub key_hashed : {X : Type 0} (value : X → List ℕ) (row : List (List ℕ)) (hashed : List X) (n j : ℕ) (x : X) → map value hashed ≡ take n row → j < n → n ≤ length row
    → x ≡ get_or hashed j x → value x ≡ get_or row j zero_key
key_hashed value row hashed n j x front lt within read =
    key_read row (map value hashed) n j (value x) front lt within (ap value read ∙ sym (get_or-map value hashed j x))
