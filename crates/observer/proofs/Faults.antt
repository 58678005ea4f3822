-- The first fault of a piece.
use Rattle.std.specs.Prelude.{◌≡◌, ℕ, zero, suc, ◌+◌, ◌<◌, ◌≤◌, Bool, true, false, ◌&&◌, nat_le, nat_lt, List, [], ◌∷◌, length, drop, Option, Some, None, if◌then◌else◌, refl}
use Rattle.std.proofs.Common.{sym, ◌∙◌, ap, ap₂, arith}
use Rattle.std.specs.Option.{option_or}
use Rattle.std.proofs.lemmas.Bool.{and_from, leb-true, ltb-true, lt-ltb, le-ltb, cond-true, cond-false}
use Rattle.ritas_base.specs.Numbers.{Numbers}
use Rattle.command_log.specs.Rows.{Row}
use Rattle.command_log.specs.Pieces.{piece_front}
use Rattle.observer.specs.Reading.{rows_at_front, after_row, position_in, row_count_in, piece_in, form_fault}
use Rattle.observer.specs.Giving.{RowsGiven, window, is_piece_ahead, still_kept, is_another_row, changed_from, form_faulty, ahead_fault, change_faulty, given_fault}
use Rattle.observer.specs.Places.{placed, each, AreKeptIn}
use Rattle.observer.specs.declared.fault.PieceFault.TheVariants as faults
use Rattle.observer.proofs.Places.{near_from}

-- so many rows are read
pub rows_count : (count : ℕ) (bytes : List ℕ) → length (rows_at_front count bytes) ≡ count
rows_count zero bytes = refl
rows_count (suc count) bytes = ap suc (rows_count count (after_row bytes))

-- ---- the tests, one after the other

pub nobody : (p : Numbers) (s : RowsGiven) (from : ℕ) (bytes : List ℕ) → p.n ≤ from → given_fault p s from bytes ≡ Some faults.NoSuchReplica
unfolding given_fault
nobody p s from bytes outside =
    ap (λ o. option_or o (option_or (form_faulty (form_fault p.n bytes)) (option_or (ahead_fault s.len (piece_in bytes))
    (change_faulty (changed_from (still_kept s from) (piece_in bytes).position (piece_in bytes).rows)))))
    (cond-false (nat_lt from p.n) None (Some faults.NoSuchReplica) (le-ltb from p.n outside))

pub formless : (p : Numbers) (s : RowsGiven) (from at : ℕ) (bytes : List ℕ) → from < p.n → form_fault p.n bytes ≡ Some at → given_fault p s from bytes ≡ Some (faults.Form at)
unfolding given_fault
formless p s from at bytes within is =
    ap₂ (λ o q. option_or o (option_or (form_faulty q) (option_or (ahead_fault s.len (piece_in bytes))
    (change_faulty (changed_from (still_kept s from) (piece_in bytes).position (piece_in bytes).rows)))))
    (cond-true (nat_lt from p.n) None (Some faults.NoSuchReplica) (lt-ltb from p.n within)) is

-- the first two don't fail
left_over : (p : Numbers) (s : RowsGiven) (from : ℕ) (bytes : List ℕ) → from < p.n → form_fault p.n bytes ≡ None → given_fault p s from bytes
    ≡ option_or (ahead_fault s.len (piece_in bytes)) (change_faulty (changed_from (still_kept s from) (piece_in bytes).position (piece_in bytes).rows))
unfolding given_fault
left_over p s from bytes within is =
    ap₂ (λ o q. option_or o (option_or (form_faulty q) (option_or (ahead_fault s.len (piece_in bytes))
    (change_faulty (changed_from (still_kept s from) (piece_in bytes).position (piece_in bytes).rows)))))
    (cond-true (nat_lt from p.n) None (Some faults.NoSuchReplica) (lt-ltb from p.n within)) is

pub too_far : (p : Numbers) (s : RowsGiven) (from len : ℕ) (bytes : List ℕ) → len ≡ s.len → from < p.n → form_fault p.n bytes ≡ None
    → 0 < row_count_in bytes → len + window < position_in bytes + row_count_in bytes → given_fault p s from bytes ≡ Some (faults.Ahead len)
too_far p s from len bytes same within is some far =
    let count = rows_count (row_count_in bytes) (drop piece_front bytes) in
    let ahead : is_piece_ahead s.len (piece_in bytes) ≡ true =
    and_from (nat_lt 0 (length (piece_in bytes).rows)) (nat_lt (s.len + window) ((piece_in bytes).position + length (piece_in bytes).rows))
    (lt-ltb 0 (length (piece_in bytes).rows) (omega (arith, count, some)))
    (lt-ltb (s.len + window) ((piece_in bytes).position + length (piece_in bytes).rows) (omega (arith, count, far, same))) in
    left_over p s from bytes within is
    ∙ (ap (λ o. option_or o (change_faulty (changed_from (still_kept s from) (piece_in bytes).position (piece_in bytes).rows)))
    (cond-true (is_piece_ahead s.len (piece_in bytes)) (Some (faults.Ahead s.len)) None ahead)
    ∙ ap (λ k. Some (faults.Ahead k)) (sym same))

-- ---- the last test, over what is kept in places

-- two lists of what is kept are changed alike
changed_alike : (f g : ℕ → Option Row) (at : ℕ) (rows : List Row) → ((j : ℕ) → at ≤ j → j < at + length rows → f j ≡ g j) → changed_from f at rows ≡ changed_from g at rows
changed_alike f g at [] same = refl
changed_alike f g at (r ∷ rs) same =
    ap₂ (λ (b : Bool) o. if b then Some at else o) (ap (is_another_row r) (same at (omega arith) (omega arith)))
    (changed_alike f g (at + 1) rs (λ j least most. same j (omega (arith, least)) (omega (arith, most))))

pub changed_or_not : (p : Numbers) (s : RowsGiven) (from len : ℕ) (bytes : List ℕ) (places : List (Option Row)) (o : Option ℕ) → len ≡ s.len → AreKeptIn len places s.kept
    → from < each → from < p.n → form_fault p.n bytes ≡ None → (0 < row_count_in bytes → position_in bytes + row_count_in bytes ≤ len + window)
    → o ≡ changed_from (λ at. if nat_le len at then placed places from at else None) (position_in bytes) (rows_at_front (row_count_in bytes) (drop piece_front bytes))
    → given_fault p s from bytes ≡ change_faulty o
changed_or_not p s from len bytes places o same are small within is close changed =
    let count = rows_count (row_count_in bytes) (drop piece_front bytes) in
    left_over p s from bytes within is
    ∙ (ap (λ q. option_or q (change_faulty (changed_from (still_kept s from) (piece_in bytes).position (piece_in bytes).rows)))
    (cond-false (is_piece_ahead s.len (piece_in bytes)) (Some (faults.Ahead s.len)) None (not_ahead (nat_lt 0 (length (piece_in bytes).rows)) refl count))
    ∙ ap change_faulty (sym (changed ∙ changed_alike _ (still_kept s from) (position_in bytes) (rows_at_front (row_count_in bytes) (drop piece_front bytes))
    (λ j least most. alike j (nat_le len j) refl (omega (arith, most, count, close))))))
  where
    not_ahead : (b : Bool) → nat_lt 0 (length (piece_in bytes).rows) ≡ b → length (piece_in bytes).rows ≡ row_count_in bytes
        → (b && nat_lt (s.len + window) ((piece_in bytes).position + length (piece_in bytes).rows)) ≡ false
    not_ahead false none count = refl
    not_ahead true some count =
        let more = ltb-true 0 (length (piece_in bytes).rows) some in
        let fits = close (omega (arith, more, count)) in
        le-ltb (s.len + window) ((piece_in bytes).position + length (piece_in bytes).rows) (omega (arith, fits, count, same))

    alike : (j : ℕ) (b : Bool) → nat_le len j ≡ b → j < len + window → (if b then placed places from j else None) ≡ still_kept s from j
    alike j true above most =
        are from j small (near_from len j (leb-true len j above) most)
        ∙ sym (cond-true (nat_le s.len j) (s.kept from j) None (ap (λ k. nat_le k j) (sym same) ∙ above))
    alike j false below most = sym (cond-false (nat_le s.len j) (s.kept from j) None (ap (λ k. nat_le k j) (sym same) ∙ below))

-- the same, by the names that the code has for these things
pub changed_as : (p : Numbers) (s : RowsGiven) (from len first : ℕ) (bytes rest : List ℕ) (places there : List (Option Row)) (o : Option ℕ) → len ≡ s.len → there ≡ places
    → first ≡ position_in bytes → rest ≡ drop piece_front bytes → AreKeptIn len places s.kept → from < each → from < p.n → form_fault p.n bytes ≡ None
    → (0 < row_count_in bytes → position_in bytes + row_count_in bytes ≤ len + window)
    → o ≡ changed_from (λ at. if nat_le len at then placed there from at else None) first (rows_at_front (row_count_in bytes) rest)
    → given_fault p s from bytes ≡ change_faulty o
changed_as p s from len first bytes rest places there o len_is there_is first_is rest_is are small within is close changed =
    changed_or_not p s from len bytes places o len_is are small within is close
    (changed
    ∙ (ap₂ (λ l x. changed_from (λ at. if nat_le len at then placed l from at else None) x (rows_at_front (row_count_in bytes) rest)) there_is first_is
    ∙ ap (λ l. changed_from (λ at. if nat_le len at then placed places from at else None) (position_in bytes) (rows_at_front (row_count_in bytes) l)) rest_is))
