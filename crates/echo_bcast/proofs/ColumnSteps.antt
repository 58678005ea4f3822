-- Steps of the loops that make columns.
use Rattle.std.specs.Prelude.{◌≡◌, ℕ, ◌<◌, ◌≤◌, ◌*◌, ◌-◌, List, [], ◌∷◌, ◌++◌, take, drop, length, min, Option, Some, None, is_some, nat_le, count_by, map, refl}
use Rattle.std.proofs.Common.{sym, ◌∙◌, ap, arith, inl, inr}
use Rattle.std.specs.List.{flat_map}
use Rattle.std.proofs.lemmas.Bool.{cases_lt, cond-true, cond-false, lt-leb, le-leb}
use Rattle.std.proofs.lemmas.List.{take_all, drop_min, length-drop}
use Rattle.std.proofs.lemmas.List.Concat.{flat_map-cons}
use Rattle.std.specs.Int.RustNames.{count_ones}
use Rattle.ritas_base.specs.declared.slot.Slot.{Slot}
use Rattle.ritas_base.specs.Numbers.{Numbers, wait_of}
use Rattle.ritas_base.specs.History.{replicas}
use Rattle.layer_api.specs.Entries.{entry_in}
use Rattle.echo_bcast.specs.Matrix.{rows_for, senders_of, column_for, columns_of}
use Rattle.echo_bcast.specs.Laws.Columns.{senders_ones}

-- the bytes of a row, where there is one
abbrev pub row_bytes : ℕ → Option (List ℕ) → List ℕ
row_bytes k None = []
row_bytes k (Some value) = entry_in k value

pub rows_bytes : (k : ℕ) (hs : List (Option (List ℕ))) → flat_map (row_bytes k) hs ≡ flat_map (λ row. row) (rows_for k hs)
rows_bytes k [] = refl
rows_bytes k (None ∷ hs) = flat_map-cons (row_bytes k) None hs ∙ rows_bytes k hs
rows_bytes k (Some value ∷ hs) =
    flat_map-cons (row_bytes k) (Some value) hs
    ∙ (ap (λ (l : List ℕ). entry_in k value ++ l) (rows_bytes k hs) ∙ sym (flat_map-cons (λ (r : List ℕ). r) (entry_in k value) (rows_for k hs)))

first_32 : (xs : List ℕ) → take (min (length xs) 32) xs ≡ take 32 xs
first_32 xs =
    elim (cases_lt (length xs) 32) [
      | inl short ↦ let same : min (length xs) 32 ≡ length xs = omega (arith, short) in
          ap (λ (n : ℕ). take n xs) same ∙ (take_all (length xs) xs (omega arith) ∙ sym (take_all 32 xs (omega (arith, short))))
      | inr long ↦ let same : min (length xs) 32 ≡ 32 = omega (arith, long) in ap (λ (n : ℕ). take n xs) same
    ]

-- what two slices give
pub entry_sliced : (k start some : ℕ) (value : List ℕ) → start ≡ min (32 * k) (length value) → some ≡ min (length value - start) 32
    → take some (take (length value - start) (drop start value)) ≡ entry_in k value
entry_sliced k start some value s m =
    let rest = drop start value in
    let len : length rest ≡ length value - start = length-drop start value in
    let whole : take (length value - start) rest ≡ rest = take_all (length value - start) rest (omega (arith, len)) in
    let most : some ≡ min (length rest) 32 = m ∙ ap (λ (n : ℕ). min n 32) (sym len) in
    ap (take some) whole
    ∙ (ap (λ (n : ℕ). take n rest) most
    ∙ (first_32 rest ∙ ap (take 32) (ap (λ (n : ℕ). drop n value) s ∙ drop_min (32 * k) value)))

-- where too few sent HASHES there are no columns
pub no_columns : (p : Numbers) (s : Slot) (hs : List (Option (List ℕ))) → count_ones (senders_of hs) < wait_of p → columns_of p s hs ≡ []
no_columns p s hs few =
    let ones = senders_ones hs in
    cond-false (nat_le (wait_of p) (count_by is_some hs)) (map (column_for s hs) (replicas p.n)) [] (lt-leb (wait_of p) (count_by is_some hs) (omega (arith, few, ones)))

pub all_columns : (p : Numbers) (s : Slot) (hs : List (Option (List ℕ))) → wait_of p ≤ count_ones (senders_of hs) → columns_of p s hs ≡ map (column_for s hs) (replicas p.n)
all_columns p s hs enough =
    let ones = senders_ones hs in
    cond-true (nat_le (wait_of p) (count_by is_some hs)) (map (column_for s hs) (replicas p.n)) [] (le-leb (wait_of p) (count_by is_some hs) (omega (arith, enough, ones)))
