-- What is written of the rows of a log from a position on.
use Rattle.std.specs.Prelude.{◌≡◌, ℕ, zero, suc, ◌+◌, ◌-◌, ◌<◌, ◌≤◌, nat_le, List, [], ◌∷◌, ◌++◌, length, drop, reverse, slice_get, Some, None, refl}
use Rattle.std.proofs.Common.{sym, ◌∙◌, ap, ap₂, inl, inr, arith, append_assoc, add-one}
use Rattle.std.proofs.Math.Seq.{drop-cons}
use Rattle.std.proofs.lemmas.List.{append-nil, drop_all, length-reverse}
use Rattle.std.proofs.lemmas.Option.{slice_get_cases, slice_get_within, get_or_from_slice_get}
use Rattle.std.proofs.lemmas.Bool.{le-leb, lt-leb, cond-true, cond-false}
use Rattle.command_log.specs.Rows.{Row, row_at}
use Rattle.command_log.specs.Pieces.{row_size, row_bytes, rows_bytes, rows_within}

-- the rows from a position on, so many at most and of no more than so many bytes
abbrev pub rows_from : List Row → ℕ → ℕ → ℕ → List Row
rows_from log position most room = rows_within most room (drop position (reverse log))

pub none_wanted : (log : List Row) (position most room : ℕ) → most ≡ 0 → rows_from log position most room ≡ []
none_wanted log position most room e = ap (λ m. rows_from log position m room) e

none_left : (most room : ℕ) → rows_within most room [] ≡ []
none_left zero room = refl
none_left (suc most) room = refl

pub none_there : (log : List Row) (position most room : ℕ) → length log ≤ position → rows_from log position most room ≡ []
none_there log position most room past =
    ap (rows_within most room) (drop_all position (reverse log) (omega (arith, past, length-reverse log))) ∙ none_left most room

pub no_row : (log : List Row) (position most room : ℕ) → row_at log position ≡ None → rows_from log position most room ≡ []
no_row log position most room none =
    elim (slice_get_cases (reverse log) position).1 [
      | inl some ↦ absurd (let is = some.2 in cc)
      | inr past ↦ none_there log position most room (omega (arith, past.0, length-reverse log))
    ]

drop_at : (xs : List Row) (i : ℕ) (r : Row) → slice_get xs i ≡ Some r → drop i xs ≡ r ∷ drop (i + 1) xs
drop_at xs i r is =
    drop-cons xs i r (slice_get_within xs i r is)
    ∙ ap₂ (λ x j. x ∷ drop j xs) (get_or_from_slice_get xs i r r is) (sym (add-one i))

pub no_room : (log : List Row) (position most room : ℕ) (r : Row) → row_at log position ≡ Some r → room < row_size r → rows_from log position most room ≡ []
no_room log position zero room r is large = refl
no_room log position (suc most) room r is large =
    ap (rows_within (suc most) room) (drop_at (reverse log) position r is) ∙ cond-false (nat_le (row_size r) room) _ _ (lt-leb (row_size r) room large)

pub one_more : (log : List Row) (position most room : ℕ) (r : Row) → row_at log position ≡ Some r → 1 ≤ most → row_size r ≤ room
    → rows_from log position most room ≡ r ∷ rows_from log (position + 1) (most - 1) (room - row_size r)
one_more log position zero room r is some fits = absurd (omega (arith, some))
one_more log position (suc most) room r is some fits =
    let less : suc most - 1 ≡ most = omega arith in
    ap (rows_within (suc most) room) (drop_at (reverse log) position r is)
    ∙ (cond-true (nat_le (row_size r) room) _ _ (le-leb (row_size r) room fits)
    ∙ ap (λ m. r ∷ rows_within m (room - row_size r) (drop (position + 1) (reverse log))) (sym less))

-- ---- what is written

pub none_written : (o : List ℕ) (rs : List Row) → rs ≡ [] → o ≡ o ++ rows_bytes rs
none_written o rs e = sym (ap (λ l. o ++ rows_bytes l) e ∙ append-nil o)

pub none_counted : (rs : List Row) → rs ≡ [] → 0 ≡ length rs
none_counted rs e = sym (ap length e)

pub more_written : (o m n : List ℕ) (r : Row) (rs qs : List Row) → rs ≡ r ∷ qs → m ≡ o ++ row_bytes r → n ≡ m ++ rows_bytes qs → n ≡ o ++ rows_bytes rs
more_written o m n r rs qs e first rest =
    rest ∙ (ap (λ l. l ++ rows_bytes qs) first ∙ (append_assoc o (row_bytes r) (rows_bytes qs) ∙ ap (λ l. o ++ rows_bytes l) (sym e)))

pub more_counted : (k : ℕ) (r : Row) (rs qs : List Row) → rs ≡ r ∷ qs → k ≡ length qs → 1 + k ≡ length rs
more_counted k r rs qs e is = let long = ap length e in omega (arith, long, is)
