-- A piece that is written is read, and what is read was written.
use Rattle.std.specs.Prelude.{◌≡◌, ℕ, zero, suc, ◌+◌, ◌<◌, ◌≤◌, nat_lt, List, [], ◌∷◌, ◌++◌, length, take, drop, slice_index, None, refl}
use Rattle.std.specs.Int.{w16, w32, to_be_bytes, from_be_bytes}
use Rattle.std.proofs.Common.{sym, ◌∙◌, ap, ap₂, subst, inl, inr, arith, length-append, length-drop}
use Rattle.std.proofs.lemmas.Bool.{cases_Bool, ltb-true, ltb-false}
use Rattle.std.proofs.lemmas.List.{get_or-take, get_or-drop, get_or_past, length-take, length-take-le, take-append-drop, drop-drop}
use Rattle.std.proofs.Math.Seq.{drop-append_seam}
use Rattle.std.proofs.lemmas.Nat.{be_bytes_4, be_bytes_2, from_be_bytes-to_be_bytes_4, from_be_bytes-to_be_bytes_2}
use Rattle.ritas_base.specs.Limits.{number_limit, longest_payload}
use Rattle.command_log.specs.Rows.{Row}
use Rattle.command_log.specs.Pieces.{Piece, row_front, row_bytes, rows_bytes, piece_front, piece_bytes}
use Rattle.client_port.specs.Messages.{four_bytes_at}
use Rattle.observer.specs.Reading.{two_at, payload_size, row_at_front, after_row, rows_at_front, position_in, row_count_in, piece_in, form_fault, IsPieceRow, ArePieceRows, IsPiece}
use Rattle.std.proofs.Math.Seq.{drop-cons}
use Rattle.observer.specs.Laws.{PieceIsRead, PieceWasWritten}
use Rattle.observer.proofs.Faults.{rows_count}
use Rattle.observer.proofs.Right.{RowRight, AreRight, PieceRight, piece_right, right_piece, form_right, right_form}

-- ---- a row that is written

take_front : (xs ys : List ℕ) → take (length xs) (xs ++ ys) ≡ xs
take_front [] ys = refl
take_front (x ∷ xs) ys = ap (λ l. x ∷ l) (take_front xs ys)

-- its parts
record IsWritten (r : Row) (rest bytes : List ℕ) : Type 0 where
  size : payload_size bytes ≡ length r.payload
  row : row_at_front bytes ≡ r
  after : after_row bytes ≡ rest
  num : four_bytes_at 1 bytes ≡ r.id.num
  origin : slice_index bytes 0 ≡ r.id.origin
  long : length bytes ≡ row_front + length r.payload + length rest

is_written : (n : ℕ) (r : Row) (rest : List ℕ) → IsPieceRow n r → IsWritten r rest (row_bytes r ++ rest)
unfolding four_bytes_at two_at
is_written n r rest is =
    let bytes = row_bytes r ++ rest in
    let num_small = is.num in
    let payload_small = is.payload in
    let size : payload_size bytes ≡ length r.payload = from_be_bytes-to_be_bytes_2 (length r.payload) (omega (arith, payload_small)) in
    let num : four_bytes_at 1 bytes ≡ r.id.num = from_be_bytes-to_be_bytes_4 r.id.num (omega (arith, num_small)) in
    let client : four_bytes_at 5 bytes ≡ r.client = from_be_bytes-to_be_bytes_4 r.client is.client in
    let request : four_bytes_at 9 bytes ≡ r.request = from_be_bytes-to_be_bytes_4 r.request is.request in
    let payload : take (payload_size bytes) (drop row_front bytes) ≡ r.payload = ap (λ k. take k (r.payload ++ rest)) size ∙ take_front r.payload rest in
    let make : ℕ → ℕ → ℕ → List ℕ → Row = λ x y z l. record { id = record { origin = r.id.origin; num = x }; client = y; request = z; payload = l } in
    let whole = length-append r.payload rest in
    record {
      size = size;
      row = ap₂ (λ x y. make x y (four_bytes_at 9 bytes) (take (payload_size bytes) (drop row_front bytes))) num client ∙ ap₂ (λ z l. make r.id.num r.client z l) request payload;
      after = ap (λ k. drop (row_front + k) bytes) size ∙ behind_front (length r.payload) refl;
      num = num;
      origin = refl;
      long = omega (arith, whole);
    }
  where
    behind_front : (k : ℕ) → k ≡ length r.payload → drop (row_front + k) (row_bytes r ++ rest) ≡ rest
    behind_front k e = sym (drop-drop k row_front (row_bytes r ++ rest)) ∙ (ap (λ j. drop j (r.payload ++ rest)) e ∙ drop-append_seam r.payload rest)

-- ---- rows that are written

pub rows_written : (n : ℕ) (rs : List Row) → ArePieceRows n rs → AreRight n (length rs) (rows_bytes rs) × (rows_at_front (length rs) (rows_bytes rs) ≡ rs)
rows_written n [] is = (refl, refl)
rows_written n (r ∷ rs) is =
    let w = is_written n r (rows_bytes rs) is.0 in
    let rest = rows_written n rs is.1 in
    let one = is.0 in
    let right : RowRight n (row_bytes r ++ rows_bytes rs) = record {
      origin = subst (λ (k : ℕ). k < n) (sym w.origin) one.origin;
      num = subst (λ (k : ℕ). k < number_limit) (sym w.num) one.num;
      payload = subst (λ (k : ℕ). k ≤ longest_payload) (sym w.size) one.payload;
      whole = omega (arith, w.size, w.long);
    } in (
      (right, subst (AreRight n (length rs)) (sym w.after) rest.0),
      ap₂ (λ q l. q ∷ rows_at_front (length rs) l) w.row w.after ∙ ap (λ l. r ∷ l) rest.1,
    )

-- ---- a piece that is written

piece_written : (n : ℕ) (p : Piece) → IsPiece n p → PieceRight n (piece_bytes p) × (piece_in (piece_bytes p) ≡ p)
unfolding four_bytes_at
piece_written n p is =
    let bytes = piece_bytes p in
    let few = is.few in
    let below = is.below in
    let rows = rows_written n p.rows is.rows in
    let position : position_in bytes ≡ p.position = from_be_bytes-to_be_bytes_4 p.position is.position in (
      record {
        form = refl;
        front = omega arith;
        few = few;
        below = omega (arith, below, position);
        rows = rows.0;
      },
      ap₂ (λ x l. record { position = x; rows = l }) position rows.1,
    )

pub piece_is_read : PieceIsRead
piece_is_read n bytes p spells =
    let is = spells.piece in
    let w = piece_written n p is in
    let right : form_fault n (piece_bytes p) ≡ None = right_form n (piece_bytes p) (record { short = is.short; right = right_piece n (piece_bytes p) w.0 }) in
    (ap (form_fault n) spells.text ∙ right, ap piece_in spells.text ∙ w.1)

-- ---- bytes that are read

abbrev Small : List ℕ → Type 0
Small bytes = (k : ℕ) → slice_index bytes k < 256

small_behind : (m : ℕ) (bytes : List ℕ) → Small bytes → Small (drop m bytes)
small_behind m bytes small k = let fits = small (m + k) in rw (get_or-drop m bytes k 0) fits

small_front : (m : ℕ) (bytes : List ℕ) → Small bytes → Small (take m bytes)
small_front m bytes small k =
    elim (cases_Bool (nat_lt k m)) [
      | inl t ↦ let same = get_or-take m bytes k 0 (ltb-true k m t) in let fits = small k in omega (arith, same, fits)
      | inr f ↦
          let past = ltb-false k m f in
          let none = get_or_past (take m bytes) k 0 (omega (arith, length-take m bytes, past)) in
          omega (arith, none)
    ]

four : (bytes : List ℕ) → Small bytes → 4 ≤ length bytes → to_be_bytes w32 (from_be_bytes w32 (take 4 bytes)) ≡ take 4 bytes
four bytes small long = be_bytes_4 (take 4 bytes) (from_be_bytes w32 (take 4 bytes)) (length-take-le 4 bytes long) (small_front 4 bytes small) refl

two : (bytes : List ℕ) → Small bytes → 2 ≤ length bytes → to_be_bytes w16 (from_be_bytes w16 (take 2 bytes)) ≡ take 2 bytes
two bytes small long = be_bytes_2 (take 2 bytes) (from_be_bytes w16 (take 2 bytes)) (length-take-le 2 bytes long) (small_front 2 bytes small) refl

-- some bytes, and those behind them
joined : (m k : ℕ) (bytes : List ℕ) → take k (drop m bytes) ++ drop (m + k) bytes ≡ drop m bytes
joined m k bytes = ap (λ l. take k (drop m bytes) ++ l) (sym (drop-drop k m bytes)) ∙ take-append-drop k (drop m bytes)

-- a number of four bytes
four_small : (bytes : List ℕ) → Small bytes → length bytes ≡ 4 → from_be_bytes w32 bytes < 4294967296
four_small [] small e = absurd (omega (arith, e))
four_small (a ∷ []) small e = absurd (omega (arith, e))
four_small (a ∷ b ∷ []) small e = absurd (omega (arith, e))
four_small (a ∷ b ∷ d ∷ []) small e = absurd (omega (arith, e))
four_small (a ∷ b ∷ d ∷ g ∷ []) small e = let s0 : a < 256 = small 0 in let s1 : b < 256 = small 1 in let s2 : d < 256 = small 2 in let s3 : g < 256 = small 3 in omega (arith, s0, s1, s2, s3)
four_small (a ∷ b ∷ d ∷ g ∷ h ∷ bytes) small e = absurd (omega (arith, e))

four_fits : (at : ℕ) (bytes : List ℕ) → Small bytes → at + 4 ≤ length bytes → four_bytes_at at bytes < 4294967296
unfolding four_bytes_at
four_fits at bytes small long =
    four_small (take 4 (drop at bytes)) (small_front 4 (drop at bytes) (small_behind at bytes small)) (length-take-le 4 (drop at bytes) (omega (arith, length-drop at bytes, long)))

row_read : (n : ℕ) (bytes : List ℕ) → RowRight n bytes → Small bytes → row_bytes (row_at_front bytes) ++ after_row bytes ≡ bytes
unfolding four_bytes_at two_at
row_read n [] right small = absurd (let whole = right.whole in omega (arith, whole))
row_read n (x ∷ xs) right small =
    let bytes : List ℕ = x ∷ xs in
    let whole = right.whole in
    let size : length (row_at_front bytes).payload ≡ payload_size bytes = length-take-le (payload_size bytes) (drop row_front bytes) (omega (arith, length-drop row_front bytes, whole)) in
    let num = four (drop 1 bytes) (small_behind 1 bytes small) (omega (arith, length-drop 1 bytes, whole)) in
    let client = four (drop 5 bytes) (small_behind 5 bytes small) (omega (arith, length-drop 5 bytes, whole)) in
    let request = four (drop 9 bytes) (small_behind 9 bytes small) (omega (arith, length-drop 9 bytes, whole)) in
    let long = ap (to_be_bytes w16) size ∙ two (drop 13 bytes) (small_behind 13 bytes small) (omega (arith, length-drop 13 bytes, whole)) in
    let join : List ℕ → List ℕ → List ℕ = λ a b. a ++ b in
    ap (λ l. x ∷ l)
    (ap₂ join num
    (ap₂ join client
    (ap₂ join request
    (ap₂ join long (joined row_front (payload_size bytes) bytes) ∙ joined 13 2 bytes)
    ∙ joined 9 4 bytes)
    ∙ joined 5 4 bytes)
    ∙ joined 1 4 bytes)

row_is : (n : ℕ) (bytes : List ℕ) → RowRight n bytes → Small bytes → IsPieceRow n (row_at_front bytes)
row_is n bytes right small =
    let whole = right.whole in
    let payload = right.payload in
    let size : length (row_at_front bytes).payload ≡ payload_size bytes = length-take-le (payload_size bytes) (drop row_front bytes) (omega (arith, length-drop row_front bytes, whole)) in
    record {
      origin = right.origin;
      num = right.num;
      client = four_fits 5 bytes small (omega (arith, whole));
      request = four_fits 9 bytes small (omega (arith, whole));
      payload = omega (arith, payload, size);
    }

rows_read : (n count : ℕ) (bytes : List ℕ) → AreRight n count bytes → Small bytes → (rows_bytes (rows_at_front count bytes) ≡ bytes) × ArePieceRows n (rows_at_front count bytes)
rows_read n zero bytes right small = (sym right, tt)
rows_read n (suc count) bytes right small =
    let rest = rows_read n count (after_row bytes) right.1 (small_behind (row_front + payload_size bytes) bytes small) in (
      ap (λ l. row_bytes (row_at_front bytes) ++ l) rest.0 ∙ row_read n bytes right.0 small,
      (row_is n bytes right.0 small, rest.1),
    )

piece_read : (n : ℕ) (bytes : List ℕ) → PieceRight n bytes → Small bytes → piece_bytes (piece_in bytes) ≡ bytes
unfolding four_bytes_at
piece_read n [] right small = absurd (let front = right.front in omega (arith, front))
piece_read n (x ∷ xs) right small =
    let bytes : List ℕ = x ∷ xs in
    let front = right.front in
    let rows = rows_read n (row_count_in bytes) (drop piece_front bytes) right.rows (small_behind piece_front bytes small) in
    let position = four (drop 1 bytes) (small_behind 1 bytes small) (omega (arith, length-drop 1 bytes, front)) in
    let last : drop 5 bytes ≡ row_count_in bytes ∷ drop piece_front bytes = drop-cons bytes 5 0 (omega (arith, front)) in
    let tail : length (piece_in bytes).rows ∷ rows_bytes (piece_in bytes).rows ≡ drop 5 bytes =
    ap₂ (λ k l. k ∷ l) (rows_count (row_count_in bytes) (drop piece_front bytes)) rows.0 ∙ sym last in
    ap₂ (λ k l. k ∷ l) (sym right.form) (ap₂ (λ (a b : List ℕ). a ++ b) position tail ∙ joined 1 4 bytes)

pub piece_was_written : PieceWasWritten
piece_was_written n bytes small e =
    let form = form_right n bytes e in
    let right = piece_right n bytes form.right in
    let text = piece_read n bytes right small in
    let front = right.front in
    let few = right.few in
    let below = right.below in
    let count = rows_count (row_count_in bytes) (drop piece_front bytes) in
    let short = form.short in
    let long = ap length text in
    record {
      piece = record {
        position = four_fits 1 bytes small (omega (arith, front));
        few = omega (arith, few, count);
        below = omega (arith, below, count);
        rows = (rows_read n (row_count_in bytes) (drop piece_front bytes) right.rows (small_behind piece_front bytes small)).1;
        short = omega (arith, long, short);
      };
      text = sym text;
    }
