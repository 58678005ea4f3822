-- Rows of keys: so many keys, and zeros behind them.
use Rattle.std.proofs.Common.{◌≡◌, ℕ, zero, suc, ◌+◌, ◌-◌, ◌<◌, ◌≤◌, List, [], ◌∷◌, ◌++◌, length, take, drop, replicate, Result, Ok, Err, refl, sym, ap, ◌∙◌, append_assoc, arith, length-append, get_or}
use Rattle.std.specs.List.{concat, AllByRecursion}
use Rattle.std.proofs.Math.ListN.{set}
use Rattle.std.proofs.lemmas.List.{append-nil, length-set, length-replicate, drop-set-lt, drop-drop, drop-replicate, drop_at, take_more, take_more_set, take-append-drop, length-take-le}
use Rattle.std.proofs.lemmas.List.Folds.{concat-append}
use Rattle.schedule_file.specs.declared.fault.FileFault.{FileFault}
use Rattle.schedule_file.specs.Reading.{◌>>=◌, Spot}
use Rattle.schedule_file.specs.FileBytes.{bytes_at}
use Rattle.ritas_base.specs.Bytes.{zero_key, filled_row}
use Rattle.schedule_file.specs.ReadHeader.{each_key_at, key_row_at}
use Rattle.schedule_file.specs.Spelling.{IsKey, IsRow}

all_set : {X : Type 0} (P : X → Type 0) (xs : List X) (i : ℕ) (x : X) → P x → AllByRecursion P xs → AllByRecursion P (set xs i x)
all_set P [] i x here all = tt
all_set P (y ∷ ys) zero x here all = (here, all.1)
all_set P (y ∷ ys) (suc i) x here all = (all.0, all_set P ys i x here all.1)

pub all_same : {X : Type 0} (P : X → Type 0) (n : ℕ) (x : X) → P x → AllByRecursion P (replicate n x)
all_same P zero x here = tt
all_same P (suc n) x here = (here, all_same P n x here)

pub all_joined : {X : Type 0} (P : X → Type 0) (xs ys : List X) → AllByRecursion P xs → AllByRecursion P ys → AllByRecursion P (xs ++ ys)
all_joined P [] ys first second = second
all_joined P (x ∷ xs) ys first second = (first.0, all_joined P xs ys first.1 second)

-- ---- a row that is filled, key by key

pub row_begins : IsRow 0 (replicate 31 zero_key)
row_begins = record { places = refl; each = all_same IsKey 31 zero_key refl; rest = refl }

pub row_more : (j : ℕ) (row : List (List ℕ)) (key : List ℕ) → j < 31 → IsKey key → IsRow j row → IsRow (j + 1) (set row j key)
row_more j row key lt is r = record {
  places = length-set row j key ∙ r.places;
  each = all_set IsKey row j key is r.each;
  rest =
      drop-set-lt (j + 1) row j key (omega arith)
      ∙ sym (drop-drop 1 j row)
      ∙ ap (drop 1) r.rest
      ∙ drop-replicate 1 (31 - j) zero_key
      ∙ ap (λ (k : ℕ). replicate k zero_key) (omega arith);
}

-- a row of n keys is these keys, filled up
pub row_is : (n : ℕ) (row : List (List ℕ)) → n ≤ 31 → IsRow n row → filled_row (take n row) ≡ row
row_is n row most r =
    let long : length (take n row) ≡ n = length-take-le n row (omega (arith, r.places)) in
    ap (λ (k : ℕ). take n row ++ replicate (31 - k) zero_key) long ∙ ap (λ (t : List (List ℕ)). take n row ++ t) (sym r.rest) ∙ take-append-drop n row

-- n keys that are filled up are a row
pub filled_is : (keys : List (List ℕ)) → length keys ≤ 31 → AllByRecursion IsKey keys → IsRow (length keys) (filled_row keys)
filled_is keys most each = record {
  places = omega (arith, length-append keys (replicate (31 - length keys) zero_key), length-replicate (31 - length keys) zero_key);
  each = all_joined IsKey keys _ each (all_same IsKey (31 - length keys) zero_key refl);
  rest = drop_at keys _ (length keys) refl;
}

-- ---- keys that are read, one after the other

-- keys that came, and those that are read behind them
abbrev pub behind : List (List ℕ) → Result (List (List ℕ) × Spot) FileFault → Result (List (List ℕ) × Spot) FileFault
behind front read = read >>= λ more. Ok (front ++ more.0, more.1)

behind_none : (read : Result (List (List ℕ) × Spot) FileFault) → behind [] read ≡ read
behind_none (Ok x) = refl
behind_none (Err f) = refl

behind_more : (front : List (List ℕ)) (key : List ℕ) (read : Result (List (List ℕ) × Spot) FileFault)
    → behind front (read >>= λ more. Ok (key ∷ more.0, more.1)) ≡ behind (front ++ key ∷ []) read
behind_more front key (Ok x) = ap (λ (t : List (List ℕ)). Ok (t, x.1)) (sym (append_assoc front (key ∷ []) x.0))
behind_more front key (Err f) = refl

-- what is read of n keys, where j came into a row
abbrev pub from_key : ℕ → ℕ → List (List ℕ) → Spot → Result (List (List ℕ) × Spot) FileFault
from_key n j row s = behind (take j row) (each_key_at (n - j) s)

pub no_key_came : (n : ℕ) (row : List (List ℕ)) (s : Spot) → from_key n 0 row s ≡ each_key_at n s
no_key_came n row s =
    let all : n - 0 ≡ n = omega arith in
    rw all (behind_none (each_key_at n s))

pub key_came : (n j : ℕ) (row : List (List ℕ)) (key : List ℕ) (s next : Spot) → j < n → j < length row → bytes_at 32 s ≡ Ok (key, next)
    → from_key n (j + 1) (set row j key) next ≡ from_key n j row s
unfolding each_key_at
key_came n j row key s next lt within read =
    let left : n - j ≡ suc (n - (j + 1)) = omega arith in
    rw (left, read, take_more_set row j key within) (sym (behind_more (take j row) key (each_key_at (n - (j + 1)) next)))

pub key_failed : (n j : ℕ) (row : List (List ℕ)) (s : Spot) (f : FileFault) → j < n → bytes_at 32 s ≡ Err f → from_key n j row s ≡ Err f
unfolding each_key_at
key_failed n j row s f lt read =
    let left : n - j ≡ suc (n - (j + 1)) = omega arith in
    rw (left, read) refl

pub row_failed : (n : ℕ) (s : Spot) (f : FileFault) → each_key_at n s ≡ Err f → key_row_at n s ≡ Err f
unfolding key_row_at
row_failed n s f read = rw read refl

-- all n keys came
pub row_came : (n j : ℕ) (row : List (List ℕ)) (start s : Spot) → n ≤ 31 → n ≡ j → IsRow j row → from_key n j row s ≡ each_key_at n start → key_row_at n start ≡ Ok (row, s)
unfolding key_row_at each_key_at
row_came n j row start s most same is so_far =
    let none : n - j ≡ 0 = omega arith in
    let all : each_key_at n start ≡ Ok (take j row, s) = sym so_far ∙ rw none (ap (λ (t : List (List ℕ)). Ok (t, s)) (append-nil (take j row))) in
    rw all (ap (λ (t : List (List ℕ)). Ok (t, s)) (row_is j row (omega (arith, same)) is))

-- ---- keys that are written, one after the other

pub each_more : (keys : List (List ℕ)) (i : ℕ) → i < length keys → concat (take (i + 1) keys) ≡ concat (take i keys) ++ get_or keys i []
each_more keys i lt =
    ap concat (take_more keys i [] lt) ∙ concat-append (take i keys) (get_or keys i [] ∷ []) ∙ ap (λ (t : List ℕ). concat (take i keys) ++ t) (append-nil (get_or keys i []))

pub each_cut : (keys : List (List ℕ)) (i : ℕ) → i < length keys → concat keys ≡ (concat (take i keys) ++ get_or keys i []) ++ concat (drop (i + 1) keys)
each_cut keys i lt =
    ap concat (sym (take-append-drop (i + 1) keys)) ∙ concat-append (take (i + 1) keys) (drop (i + 1) keys) ∙ ap (λ (t : List ℕ). t ++ concat (drop (i + 1) keys)) (each_more keys i lt)
