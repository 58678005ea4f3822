-- What is read without a fault.
use Rattle.std.specs.Prelude.{◌≡◌, ℕ, zero, suc, ◌+◌, ◌<◌, ◌≤◌, Bool, true, false, nat_le, nat_lt, List, [], ◌∷◌, length, take, drop, slice_index, Option, Some, None, if◌then◌else◌, refl}
use Rattle.std.proofs.Common.{sym, ◌∙◌, ap, ap₂, arith}
use Rattle.std.specs.Option.{option_or}
use Rattle.std.proofs.lemmas.Bool.{and_parts, and_from, leb-true, ltb-true, ltb-false, le-leb, lt-ltb, eqb-true, eq-eqb, le-ltb, cond-true, cond-false}
use Rattle.std.proofs.lemmas.List.{take_all}
use Rattle.ritas_base.specs.Limits.{number_limit, longest_payload}
use Rattle.ritas_base.specs.Places.{first_failed}
use Rattle.ritas_base.specs.Shortest.{option_or_parts}
use Rattle.command_log.specs.Pieces.{row_front, piece_front, piece_form, most_rows, longest_log_piece}
use Rattle.client_port.specs.Messages.{four_bytes_at}
use Rattle.observer.specs.Reading.{payload_size, after_row, position_in, row_count_in, row_tests, row_left, rest_left, rows_left, front_tests, front_left, piece_left, offset_of, form_fault, AreWhole, IsWhole}

-- ---- tests

-- all tests pass
abbrev pub AllPass : {X : Type 0} → List (Bool × X) → Type 0
AllPass [] = Unit {0}
AllPass (t ∷ ts) = (t.0 ≡ true) × AllPass ts

pub all_pass : {X : Type 0} (ts : List (Bool × X)) → first_failed ts ≡ None → AllPass ts
all_pass [] e = tt
all_pass (t ∷ ts) e = go (λ none. all_pass ts none) t.0 refl e
  where
    go : (first_failed ts ≡ None → AllPass ts) → (b : Bool) → t.0 ≡ b → (if b then first_failed ts else Some t.1) ≡ None → (t.0 ≡ true) × AllPass ts
    go rest true is none = (is, rest none)
    go rest false is none = absurd (cc)

pub pass_all : {X : Type 0} (ts : List (Bool × X)) → AllPass ts → first_failed ts ≡ None
pass_all [] all = refl
pass_all (t ∷ ts) all = cond-true t.0 (first_failed ts) (Some t.1) all.0 ∙ pass_all ts all.1

-- ---- a row

pub record RowRight (n : ℕ) (bytes : List ℕ) : Type 0 where
  pub origin : slice_index bytes 0 < n
  pub num : four_bytes_at 1 bytes < number_limit
  pub payload : payload_size bytes ≤ longest_payload
  pub whole : row_front + payload_size bytes ≤ length bytes

pub row_right : (n : ℕ) (bytes : List ℕ) → row_left n bytes ≡ None → RowRight n bytes
unfolding row_left
row_right n bytes e =
    let all : AllPass (row_tests n bytes) = all_pass (row_tests n bytes) e in
    record {
      origin = ltb-true (slice_index bytes 0) n all.1.0;
      num = ltb-true (four_bytes_at 1 bytes) number_limit all.1.1.1.0;
      payload = leb-true (payload_size bytes) longest_payload all.1.1.1.1.1.0;
      whole = leb-true (row_front + payload_size bytes) (length bytes) all.1.1.1.1.1.1.0;
    }

pub right_row : (n : ℕ) (bytes : List ℕ) → RowRight n bytes → row_left n bytes ≡ None
unfolding row_left
right_row n bytes right =
    let whole = right.whole in
    pass_all (row_tests n bytes) (
      le-leb 1 (length bytes) (omega (arith, whole)),
      (
        lt-ltb (slice_index bytes 0) n right.origin,
        (
          le-leb 5 (length bytes) (omega (arith, whole)),
          (
            lt-ltb (four_bytes_at 1 bytes) number_limit right.num,
            (
              le-leb row_front (length bytes) (omega (arith, whole)),
              (
                le-leb (payload_size bytes) longest_payload right.payload,
                (le-leb (row_front + payload_size bytes) (length bytes) whole, tt),
              ),
            ),
          ),
        ),
      ),
    )

-- ---- rows

abbrev pub AreRight : ℕ → ℕ → List ℕ → Type 0
AreRight n zero bytes = bytes ≡ []
AreRight n (suc count) bytes = RowRight n bytes × AreRight n count (after_row bytes)

none_rest : (bytes : List ℕ) → rest_left bytes ≡ None → bytes ≡ []
none_rest [] e = refl
none_rest (x ∷ bytes) e = absurd (cc)

pub rows_right : (n count : ℕ) (bytes : List ℕ) → rows_left n count bytes ≡ None → AreRight n count bytes
rows_right n zero bytes e = none_rest bytes e
rows_right n (suc count) bytes e =
    let parts = option_or_parts (row_left n bytes) (rows_left n count (after_row bytes)) e in
    (row_right n bytes parts.0, rows_right n count (after_row bytes) parts.1)

pub right_rows : (n count : ℕ) (bytes : List ℕ) → AreRight n count bytes → rows_left n count bytes ≡ None
right_rows n zero bytes right = ap rest_left right
right_rows n (suc count) bytes right =
    ap (λ o. option_or o (rows_left n count (after_row bytes))) (right_row n bytes right.0) ∙ right_rows n count (after_row bytes) right.1

pub right_whole : (n count : ℕ) (bytes : List ℕ) → AreRight n count bytes → AreWhole count bytes
right_whole n zero bytes right = tt
right_whole n (suc count) bytes right = (right.0.whole, right_whole n count (after_row bytes) right.1)

-- ---- a piece

pub record PieceRight (n : ℕ) (bytes : List ℕ) : Type 0 where
  pub form : slice_index bytes 0 ≡ piece_form
  pub front : piece_front ≤ length bytes
  pub few : row_count_in bytes ≤ most_rows
  pub below : position_in bytes + row_count_in bytes ≤ 4294967295
  pub rows : AreRight n (row_count_in bytes) (drop piece_front bytes)

pub piece_right : (n : ℕ) (bytes : List ℕ) → piece_left n bytes ≡ None → PieceRight n bytes
unfolding front_left
piece_right n bytes e =
    let parts = option_or_parts (front_left bytes) (rows_left n (row_count_in bytes) (drop piece_front bytes)) e in
    let all : AllPass (front_tests bytes) = all_pass (front_tests bytes) parts.0 in
    let counts = and_parts (nat_le (row_count_in bytes) most_rows) (nat_le (position_in bytes + row_count_in bytes) 4294967295) all.1.1.1.0 in
    record {
      form = eqb-true (slice_index bytes 0) piece_form all.1.0;
      front = leb-true piece_front (length bytes) all.1.1.0;
      few = leb-true (row_count_in bytes) most_rows counts.0;
      below = leb-true (position_in bytes + row_count_in bytes) 4294967295 counts.1;
      rows = rows_right n (row_count_in bytes) (drop piece_front bytes) parts.1;
    }

pub right_piece : (n : ℕ) (bytes : List ℕ) → PieceRight n bytes → piece_left n bytes ≡ None
unfolding front_left
right_piece n bytes right =
    let front = right.front in
    ap₂ option_or
    (pass_all (front_tests bytes) (
      le-leb 1 (length bytes) (omega (arith, front)),
      (
        eq-eqb (slice_index bytes 0) piece_form right.form,
        (
          le-leb piece_front (length bytes) front,
          (
            and_from (nat_le (row_count_in bytes) most_rows) (nat_le (position_in bytes + row_count_in bytes) 4294967295) (le-leb (row_count_in bytes) most_rows right.few)
                (le-leb (position_in bytes + row_count_in bytes) 4294967295 right.below),
            tt,
          ),
        ),
      ),
    ))
    (right_rows n (row_count_in bytes) (drop piece_front bytes) right.rows)

pub whole_from : (n : ℕ) (bytes : List ℕ) → piece_left n bytes ≡ None → IsWhole bytes
whole_from n bytes e =
    let right = piece_right n bytes e in
    record { front = right.front; below = right.below; rows = right_whole n (row_count_in bytes) (drop piece_front bytes) right.rows }

-- ---- bytes of which a piece has no more

pub record FormRight (n : ℕ) (bytes : List ℕ) : Type 0 where
  pub short : length bytes ≤ longest_log_piece
  pub right : piece_left n bytes ≡ None

pub form_right : (n : ℕ) (bytes : List ℕ) → form_fault n bytes ≡ None → FormRight n bytes
unfolding form_fault
form_right n bytes e = go (piece_left n (take longest_log_piece bytes)) refl e
  where
    fits : (b : Bool) → nat_lt longest_log_piece (length bytes) ≡ b → (if b then Some longest_log_piece else None) ≡ None → length bytes ≤ longest_log_piece
    fits true is none = absurd (cc)
    fits false is none = ltb-false longest_log_piece (length bytes) is

    go : (o : Option ℕ) → piece_left n (take longest_log_piece bytes) ≡ o → offset_of bytes (take longest_log_piece bytes) o ≡ None → FormRight n bytes
    go (Some left) is none = absurd (cc)
    go None is none =
        let short = fits (nat_lt longest_log_piece (length bytes)) refl none in
        record { short = short; right = ap (piece_left n) (sym (take_all longest_log_piece bytes short)) ∙ is }

pub right_form : (n : ℕ) (bytes : List ℕ) → FormRight n bytes → form_fault n bytes ≡ None
unfolding form_fault
right_form n bytes right =
    ap₂ (offset_of bytes) (take_all longest_log_piece bytes right.short) (ap (piece_left n) (take_all longest_log_piece bytes right.short) ∙ right.right)
    ∙ cond-false (nat_lt longest_log_piece (length bytes)) (Some longest_log_piece) None (le-ltb longest_log_piece (length bytes) right.short)
