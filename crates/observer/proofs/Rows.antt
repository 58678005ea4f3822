-- Rows one after the other.
use Rattle.std.specs.Prelude.{◌≡◌, ℕ, zero, suc, ◌+◌, ◌-◌, ◌<◌, ◌≤◌, List, [], ◌∷◌, ◌++◌, length, take, drop, Result, Ok, Err, OnOk}
use Rattle.std.proofs.Common.{sym, ◌∙◌, ap, ap₂, arith, append_assoc, subst}
use Rattle.std.proofs.lemmas.List.{append-nil, take_all, length-drop}
use Rattle.command_log.specs.Rows.{Row}
use Rattle.command_log.specs.Pieces.{row_front}
use Rattle.observer.specs.Reading.{row_at_front, rows_at_front, after_row, payload_size, AreWhole}

-- the first of some rows is whole, and the others are, behind it
pub record FirstWhole (count : ℕ) (bytes : List ℕ) : Type 0 where
  pub first : row_front + payload_size bytes ≤ length bytes
  pub others : AreWhole (count - 1) (after_row bytes)

pub first_whole : (count : ℕ) (bytes : List ℕ) → 0 < count → AreWhole count bytes → FirstWhole count bytes
first_whole zero bytes some whole = absurd (omega (arith, some))
first_whole (suc count) bytes some whole =
    let less : suc count - 1 ≡ count = omega arith in
    record { first = whole.0; others = subst (λ k. AreWhole k (after_row bytes)) (sym less) whole.1 }

pub first_row : (count : ℕ) (bytes : List ℕ) → 0 < count → rows_at_front count bytes ≡ row_at_front bytes ∷ rows_at_front (count - 1) (after_row bytes)
first_row zero bytes some = absurd (omega (arith, some))
first_row (suc count) bytes some =
    let less : suc count - 1 ≡ count = omega arith in
    ap (λ k. row_at_front bytes ∷ rows_at_front k (after_row bytes)) (sym less)

pub no_rows : (count : ℕ) (bytes : List ℕ) (o : List Row) → count ≡ 0 → o ≡ o ++ rows_at_front count bytes
no_rows count bytes o e = sym (ap (λ k. o ++ rows_at_front k bytes) e ∙ append-nil o)

-- what stands behind so many bytes
pub behind : (bytes : List ℕ) (size : ℕ) → size ≡ payload_size bytes → take (length bytes - (row_front + size)) (drop (row_front + size) bytes) ≡ after_row bytes
behind bytes size is =
    take_all (length bytes - (row_front + size)) (drop (row_front + size) bytes) (omega (arith, length-drop (row_front + size) bytes))
    ∙ ap (λ k. drop (row_front + k) bytes) is

-- one more row, and then the others
pub rows_more : (o m n : List Row) (count : ℕ) (bytes rest : List ℕ) (r : Row) → 0 < count → rest ≡ after_row bytes → r ≡ row_at_front bytes → m ≡ o ++ r ∷ []
    → n ≡ m ++ rows_at_front (count - 1) rest → n ≡ o ++ rows_at_front count bytes
rows_more o m n count bytes rest r some after is pushed read =
    read
    ∙ (ap₂ (λ l t. l ++ rows_at_front (count - 1) t) (pushed ∙ ap (λ q. o ++ q ∷ []) is) after
    ∙ (append_assoc o (row_at_front bytes ∷ []) (rows_at_front (count - 1) (after_row bytes)) ∙ ap (λ l. o ++ l) (sym (first_row count bytes some))))

-- what holds at Ok leads to what holds there
pub on_ok : {A E P Q : Type 0} (r : Result A E) → (P → Q) → OnOk r P → OnOk r Q
on_ok (Ok value) leads p = leads p
on_ok (Err fault) leads p = tt
