-- A column is a mask and one row for each of its places, and a VECT a mask and a value; what is written is so, and is
-- read again.
use Rattle.std.proofs.Common.{◌≡◌, ℕ, zero, suc, ◌+◌, ◌*◌, ◌^◌, ◌<◌, Bool, true, false, cond, eqb, List, [], ◌∷◌, ◌++◌, length, take, drop, Some, refl, sym, ap, subst, ◌∙◌, arith}
use Rattle.std.specs.List.{flat_map, slice_get, AllByRecursion}
use Rattle.std.specs.Int.{w32, to_be_bytes, from_be_bytes}
use Rattle.std.specs.Int.RustNames.{count_ones}
use Rattle.std.specs.Prelude.{◌==◌, None}
use Rattle.std.proofs.lemmas.Bool.{ne_eqb, cond-false}
use Rattle.std.proofs.lemmas.List.{take_at, drop_at, drop-drop, append-nil, length-append, length-drop, length-take, length-take-le, take-append-drop, nil_from_length}
use Rattle.std.proofs.lemmas.List.Concat.{flat_map-cons}
use Rattle.std.proofs.lemmas.Nat.{be_bytes_4, from_be_bytes-to_be_bytes_4}
use Rattle.ritas_base.specs.Numbers.{Numbers, support_of}
use Rattle.frame_codec.specs.Format.{Format, Done, Number, Is}
use Rattle.frame_codec.specs.Grammar.{is_places, class3, vect, column}
use Rattle.ritas_base.specs.Bytes.{IsBytes}
use Rattle.frame_codec.specs.Values.{IsColumn, IsVect, mask_of, at_place, entry_bytes, entries_in, vector_bytes, vect_bytes, column_bytes, rows_in, if_whole, column_row}
use Rattle.frame_codec.specs.RowLaws.{whole_place}
use Rattle.frame_codec.specs.PartLaws.{vect_from, column_parts}
use Rattle.frame_codec.specs.VectorLaws.{IsBytes-take, mask_again, entries_again}

unless_none : (t : Bool) (w : Format) (text : List ℕ) → t ≡ false → Is w text → Is (cond t Done w) text
unless_none true w text e is = absurd cc
unless_none false w text e is = is

pub vect_written : (p : Numbers) (root mask : ℕ) (value : List ℕ) → mask < 2 ^ 32 → is_places p.n (support_of p) mask ≡ true → Is (class3 p root) value → Is (vect p root) (vect_bytes mask value)
unfolding vect
vect_written p root mask value small good is =
    let text = to_be_bytes w32 mask ++ value in
    let some : eqb (length text) 0 ≡ false = ne_eqb _ _ (omega arith) in
    let back : from_be_bytes w32 (to_be_bytes w32 mask) ≡ mask = from_be_bytes-to_be_bytes_4 mask small in
    unless_none (eqb (length text) 0) (Number w32 (is_places p.n (support_of p)) (λ _. class3 p root)) text some
    (to_be_bytes w32 mask, value, refl, refl, ap (is_places p.n (support_of p)) back ∙ good, is)

pub vect_none : (p : Numbers) (root : ℕ) → Is (vect p root) []
unfolding vect
vect_none p root = refl

-- every VECT but none is written so
pub vect_is : (p : Numbers) (root : ℕ) (value : List ℕ) → IsBytes value → 0 < length value → Is (vect p root) value
    → IsVect p root (mask_of value) (drop 4 value) value
unfolding vect mask_of
vect_is p root value fits some is =
    let (f, r, parts, four, ok, more) = vect_from (eqb (length value) 0) _ value (ne_eqb (length value) 0 (omega (arith, some))) is in
    let first : take 4 value ≡ f = ap (take 4) parts ∙ take_at f r 4 four in
    let tail : drop 4 value ≡ r = ap (drop 4) parts ∙ drop_at f r 4 four in
    let f_fits : IsBytes f = subst IsBytes first (IsBytes-take 4 value fits) in
    let spelled : to_be_bytes w32 (from_be_bytes w32 f) ≡ f = be_bytes_4 f (from_be_bytes w32 f) four f_fits refl in
    let made : IsVect p root (from_be_bytes w32 f) r value = record {
      places = ok;
      spelled = parts ∙ ap (λ (l : List ℕ). l ++ r) (sym spelled);
      right = more;
    } in
    let at_mask = subst (λ (l : List ℕ). IsVect p root (from_be_bytes w32 l) r value) (sym first) made in
    subst (λ (l : List ℕ). IsVect p root (from_be_bytes w32 (take 4 value)) l value) (sym tail) at_mask

rows_length : (rows : List (List ℕ)) → AllByRecursion (λ row. length row ≡ 32) rows → length (flat_map (λ row. row) rows) ≡ 32 * length rows
rows_length [] all = refl
rows_length (row ∷ rows) all =
    ap length (flat_map-cons (λ (r : List ℕ). r) row rows) ∙ omega (arith, length-append row (flat_map (λ r. r) rows), all.0, rows_length rows all.1)

pub column_written : (n mask : ℕ) (rows : List (List ℕ)) → mask < 2 ^ 32 → is_places n 1 mask ≡ true → length rows ≡ count_ones mask → AllByRecursion (λ row. length row ≡ 32) rows → Is (column n) (column_bytes mask rows)
unfolding column
column_written n mask rows small good one_each all =
    let back : from_be_bytes w32 (to_be_bytes w32 mask) ≡ mask = from_be_bytes-to_be_bytes_4 mask small in
    let text = flat_map (λ row. row) rows in
    let len : length text ≡ 32 * count_ones (from_be_bytes w32 (to_be_bytes w32 mask)) = rows_length rows all ∙ ap (λ (c : ℕ). 32 * c) one_each ∙ ap (λ (m : ℕ). 32 * count_ones m) (sym back) in
    (to_be_bytes w32 mask, text, refl, refl, ap (is_places n 1) back ∙ good, (text, [], sym (append-nil text), len, refl, refl))

-- the rows of a column that was written
pub rows_again : (rows : List (List ℕ)) → AllByRecursion (λ row. length row ≡ 32) rows → rows_in (length rows) (flat_map (λ row. row) rows) ≡ rows
unfolding rows_in
rows_again [] all = refl
rows_again (row ∷ rows) all =
    let others = flat_map (λ (r : List ℕ). r) rows in
    ap (rows_in (suc (length rows))) (flat_map-cons (λ (r : List ℕ). r) row rows)
    ∙ rw (take_at row others 32 all.0, drop_at row others 32 all.0, rows_again rows all.1) refl

pub rows_get : (count at : ℕ) (bytes : List ℕ) → at < count → slice_get (rows_in count bytes) at ≡ Some (take 32 (drop (32 * at) bytes))
unfolding rows_in
rows_get zero at bytes lt = absurd (omega arith)
rows_get (suc count) zero bytes lt = refl
rows_get (suc count) (suc at) bytes lt =
    let next : 32 + 32 * at ≡ 32 * suc at = omega arith in
    rows_get count at (drop 32 bytes) (omega arith) ∙ ap (λ (l : List ℕ). Some (take 32 l)) (drop-drop (32 * at) 32 bytes ∙ ap (λ (n : ℕ). drop n bytes) next)

-- where the bytes end before the end of a row, no row is given
pub short_row : (count at : ℕ) (bytes : List ℕ) → length bytes < 32 * at + 32 → if_whole (slice_get (rows_in count bytes) at) ≡ None
unfolding rows_in
short_row zero at bytes lt = refl
short_row (suc count) zero bytes lt =
    let short : length (take 32 bytes) ≡ 32 → ⊥ = λ e. omega (arith, e, length-take 32 bytes, lt) in
    cond-false (length (take 32 bytes) == 32) (Some (take 32 bytes)) None (ne_eqb (length (take 32 bytes)) 32 short)
short_row (suc count) (suc at) bytes lt = short_row count at (drop 32 bytes) (omega (arith, length-drop 32 bytes, lt))

record AreRows (count : ℕ) (rows : List (List ℕ)) (text : List ℕ) : Type 0 where
  spelled : text ≡ flat_map (λ row. row) rows
  one_each : length rows ≡ count
  right : AllByRecursion (λ row. length row ≡ 32) rows

rows_are : (count : ℕ) (text : List ℕ) → length text ≡ 32 * count → AreRows count (rows_in count text) text
unfolding rows_in
rows_are zero text len = record { spelled = nil_from_length text (omega (arith, len)); one_each = refl; right = tt }
rows_are (suc count) text len =
    let more : length (drop 32 text) ≡ 32 * count = omega (arith, length-drop 32 text, len) in
    let others = rows_are count (drop 32 text) more in
    let row : length (take 32 text) ≡ 32 = length-take-le 32 text (omega (arith, len)) in
    record {
      spelled =
          sym (take-append-drop 32 text) ∙ ap (λ (l : List ℕ). take 32 text ++ l) others.spelled
          ∙ sym (flat_map-cons (λ (r : List ℕ). r) (take 32 text) (rows_in count (drop 32 text)));
      one_each = ap suc others.one_each;
      right = (row, others.right);
    }

-- every column is written so
pub column_is : (n : ℕ) (value : List ℕ) → IsBytes value → Is (column n) value
    → IsColumn n (mask_of value) (rows_in (count_ones (mask_of value)) (drop 4 value)) value
unfolding column mask_of
column_is n value fits (f, r, parts, four, ok, (b, nothing, parts2, len, ok2, nil)) =
    let first : take 4 value ≡ f = ap (take 4) parts ∙ take_at f r 4 four in
    let tail : drop 4 value ≡ r = ap (drop 4) parts ∙ drop_at f r 4 four in
    let mask = from_be_bytes w32 f in
    let f_fits : IsBytes f = subst IsBytes first (IsBytes-take 4 value fits) in
    let spelled : to_be_bytes w32 mask ≡ f = be_bytes_4 f mask four f_fits refl in
    let all : length r ≡ 32 * count_ones mask = ap length parts2 ∙ omega (arith, length-append b nothing, ap length nil, len) in
    let are = rows_are (count_ones mask) r all in
    let made : IsColumn n mask (rows_in (count_ones mask) r) value = record {
      places = ok;
      one_each = are.one_each;
      spelled = parts ∙ ap (λ (l : List ℕ). l ++ r) (sym spelled) ∙ ap (λ (l : List ℕ). to_be_bytes w32 mask ++ l) are.spelled;
      right = are.right;
    } in
    let at_mask = subst (λ (l : List ℕ). IsColumn n (from_be_bytes w32 l) (rows_in (count_ones (from_be_bytes w32 l)) r) value) (sym first) made in
    subst (λ (l : List ℕ). IsColumn n (from_be_bytes w32 (take 4 value)) (rows_in (count_ones (from_be_bytes w32 (take 4 value))) l) value) (sym tail) at_mask

-- in a column each row is whole
pub row_at : (n : ℕ) (value : List ℕ) (k : ℕ) → Is (column n) value
    → column_row value k ≡ at_place (mask_of value) (rows_in (count_ones (mask_of value)) (drop 4 value)) k
row_at n value k is =
    let are = rows_are (count_ones (mask_of value)) (drop 4 value) (column_parts n value is).1 in
    whole_place (mask_of value) k (rows_in (count_ones (mask_of value)) (drop 4 value)) are.right

-- ---- what is written is read again

pub column_again : (mask : ℕ) (rows : List (List ℕ)) → mask < 2 ^ 32 → length rows ≡ count_ones mask → AllByRecursion (λ row. length row ≡ 32) rows
    → (mask_of (column_bytes mask rows) ≡ mask) × (rows_in (count_ones mask) (drop 4 (column_bytes mask rows)) ≡ rows)
column_again mask rows small one_each all =
    let text = flat_map (λ (row : List ℕ). row) rows in
    (mask_again mask text small, ap (λ (c : ℕ). rows_in c text) (sym one_each) ∙ rows_again rows all)

pub vector_again : (mask : ℕ) (es : List (List ℕ)) → mask < 2 ^ 32 → length es ≡ count_ones mask → AllByRecursion (λ e. length e < 2 ^ 16) es
    → (mask_of (vector_bytes mask es) ≡ mask) × (entries_in (count_ones mask) (drop 4 (vector_bytes mask es)) ≡ es)
vector_again mask es small one_each all =
    let text = flat_map entry_bytes es in
    (mask_again mask text small, ap (λ (c : ℕ). entries_in c text) (sym one_each) ∙ entries_again es all)

pub vect_again : (mask : ℕ) (value : List ℕ) → mask < 2 ^ 32 → (mask_of (vect_bytes mask value) ≡ mask) × (drop 4 (vect_bytes mask value) ≡ value)
vect_again mask value small = (mask_again mask value small, refl)
