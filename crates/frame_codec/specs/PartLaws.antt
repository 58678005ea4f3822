-- What is of a format, in parts: entries, rows and identifiers where they stand.
use Rattle.std.proofs.Common.{◌≡◌, ℕ, zero, suc, ◌-◌, ◌+◌, ◌*◌, ◌/◌, ◌%◌, ◌<◌, ◌≤◌, ◌&&◌, Bool, true, false, cond, leb, eqb, List, [], ◌++◌, length, take, drop, Some, refl, sym, ap, subst, ◌∙◌, append_assoc, arith}
use Rattle.std.specs.List.{slice_get}
use Rattle.std.specs.Int.{w16, w32, from_be_bytes}
use Rattle.std.specs.Int.RustNames.{count_ones}
use Rattle.std.proofs.lemmas.Bool.{eqb-true, and_parts}
use Rattle.std.proofs.lemmas.List.{take_at, drop_at, drop-drop, length-append}
use Rattle.ritas_base.specs.Numbers.{Numbers}
use Rattle.ritas_base.specs.Slots.{is_atomic}
use Rattle.frame_codec.specs.Limits.{longest_ids, longest_entry}
use Rattle.frame_codec.specs.declared.ids.Run.{Run}
use Rattle.frame_codec.specs.Format.{Format, Done, Number, Block, Plain, Left, Is, ◌>>◌}
use Rattle.frame_codec.specs.Grammar.{any, id_of, no_ids, ids_from, entry, times, vector, vect, column}
use Rattle.frame_codec.specs.Values.{ids_in, mask_of, len_in, after_entry, entries_in, HasEntries, nth_entry}

-- ---- one format after the other, where neither takes what is left

abbrev pub IsFixed : Format → Type 0
IsFixed Done = Unit {0}
IsFixed (Number w good next) = (x : ℕ) → IsFixed (next x)
IsFixed (Block len good next) = (x : List ℕ) → IsFixed (next x)
IsFixed (Plain low high) = ⊥
IsFixed (Left next) = ⊥

pub is_then : (a k : Format) (text : List ℕ) → IsFixed a → Is (a >> k) text → (front : List ℕ) × (rest : List ℕ) × (text ≡ front ++ rest) × Is a front × Is k rest
unfolding ◌>>◌
is_then Done k text o is = ([], text, refl, refl, is)
is_then (Number w good next) k text o (f, r, parts, len, ok, more) =
    let v = from_be_bytes w f in
    let m = is_then (next v) k r (o v) more in
    (f ++ m.0, m.1, parts ∙ ap (λ (l : List ℕ). f ++ l) m.2 ∙ sym (append_assoc f m.0 m.1), (f, m.0, refl, len, ok, m.3), m.4)
is_then (Block n good next) k text o (f, r, parts, len, ok, more) =
    let m = is_then (next f) k r (o f) more in
    (f ++ m.0, m.1, parts ∙ ap (λ (l : List ℕ). f ++ l) m.2 ∙ sym (append_assoc f m.0 m.1), (f, m.0, refl, len, ok, m.3), m.4)
is_then (Plain low high) k text o is = absurd o
is_then (Left next) k text o is = absurd o

pub then_is : (a k : Format) (front rest : List ℕ) → IsFixed a → Is a front → Is k rest → Is (a >> k) (front ++ rest)
unfolding ◌>>◌
then_is Done k front rest o is y = subst (λ (l : List ℕ). Is k (l ++ rest)) (sym is) y
then_is (Number w good next) k front rest o (f, r, parts, len, ok, more) y =
    let v = from_be_bytes w f in
    (f, r ++ rest, ap (λ (l : List ℕ). l ++ rest) parts ∙ append_assoc f r rest, len, ok, then_is (next v) k r rest (o v) more y)
then_is (Block n good next) k front rest o (f, r, parts, len, ok, more) y =
    (f, r ++ rest, ap (λ (l : List ℕ). l ++ rest) parts ∙ append_assoc f r rest, len, ok, then_is (next f) k r rest (o f) more y)
then_is (Plain low high) k front rest o is y = absurd o
then_is (Left next) k front rest o is y = absurd o

-- ---- entries

ids_fixed : (n count : ℕ) (run : Run) → IsFixed (ids_from n count run)
unfolding ids_from
ids_fixed n zero run = tt
ids_fixed n (suc count) run = λ b. ids_fixed n count _

choice_fixed : (t : Bool) (a b : Format) → IsFixed a → IsFixed b → IsFixed (cond t a b)
choice_fixed true a b x y = x
choice_fixed false a b x y = y

pub entry_fixed : (n root : ℕ) → IsFixed (entry n root)
unfolding entry
entry_fixed n root = λ (len : ℕ). choice_fixed (is_atomic root) (ids_from n (len / 5) (no_ids n)) (Block len any (λ _. Done)) (ids_fixed n (len / 5) (no_ids n)) (λ b. tt)

pub ids_length : (n count : ℕ) (run : Run) (text : List ℕ) → Is (ids_from n count run) text → length text ≡ 5 * count
unfolding ids_from
ids_length n zero run text is = ap length is
ids_length n (suc count) run text (f, r, parts, len, ok, more) =
    let others = ids_length n count _ r more in
    ap length parts ∙ omega (arith, length-append f r, len, others)

pub entry_length : (t : Bool) (n len : ℕ) (text : List ℕ) → cond t (leb 5 len && leb len longest_ids && eqb (len % 5) 0) (leb 1 len && leb len longest_entry) ≡ true
    → Is (cond t (ids_from n (len / 5) (no_ids n)) (Block len any (λ _. Done))) text → length text ≡ len
entry_length true n len text ok is =
    let zero_rest : len % 5 ≡ 0 = eqb-true (len % 5) 0 (and_parts (leb 5 len && leb len longest_ids) (eqb (len % 5) 0) ok).1 in
    let l = ids_length n (len / 5) (no_ids n) text is in
    omega (arith, l, zero_rest)
entry_length false n len text ok (f, r, parts, l, good, nil) =
    ap length parts ∙ omega (arith, length-append f r, l, ap length nil)

-- an entry in front of others
pub record Front (text rest : List ℕ) : Type 0 where
  pub long : 2 ≤ length text
  pub whole : len_in text ≤ length (drop 2 text)
  pub after : after_entry text ≡ rest

entry_front : (n root : ℕ) (front rest : List ℕ) → Is (entry n root) front → Front (front ++ rest) rest
unfolding entry len_in
entry_front n root front rest (f, r, parts, two, ok, more) =
    let len = from_be_bytes w16 f in
    let same : length r ≡ len = entry_length (is_atomic root) n len r ok more in
    let whole : front ++ rest ≡ f ++ (r ++ rest) = ap (λ (l : List ℕ). l ++ rest) parts ∙ append_assoc f r rest in
    let head : take 2 (f ++ (r ++ rest)) ≡ f = take_at f (r ++ rest) 2 two in
    let tail : drop 2 (f ++ (r ++ rest)) ≡ r ++ rest = drop_at f (r ++ rest) 2 two in
    let is : Front (f ++ (r ++ rest)) rest = record {
      long = omega (arith, length-append f (r ++ rest), two);
      whole = rw (head, tail) (omega (arith, length-append r rest, same));
      after = rw (head, tail) (drop_at r rest len same);
    } in
    subst (λ (l : List ℕ). Front l rest) (sym whole) is

pub times_has : (count n root : ℕ) (text : List ℕ) → Is (times count (entry n root)) text → HasEntries count text
unfolding times HasEntries
times_has zero n root text is = tt
times_has (suc count) n root text is =
    let m = is_then (entry n root) (times count (entry n root)) text (entry_fixed n root) is in
    let front : Front text m.1 = subst (λ (l : List ℕ). Front l m.1) (sym m.2) (entry_front n root m.0 m.1 m.3) in
    (front.long, front.whole, rw front.after (times_has count n root m.1 m.4))

pub has_less : (j count : ℕ) (bytes : List ℕ) → j ≤ count → HasEntries count bytes → HasEntries j bytes
unfolding HasEntries
has_less zero count bytes le has = tt
has_less (suc j) zero bytes le has = absurd (omega arith)
has_less (suc j) (suc count) bytes le has = (has.0, has.1, has_less j count (after_entry bytes) (omega arith) has.2)

pub entries_get : (at count : ℕ) (bytes : List ℕ) → at < count → slice_get (entries_in count bytes) at ≡ Some (nth_entry at bytes)
unfolding entries_in nth_entry
entries_get at zero bytes lt = absurd (omega arith)
entries_get zero (suc count) bytes lt = refl
entries_get (suc at) (suc count) bytes lt = entries_get at count (after_entry bytes) (omega arith)

pub nth_on : (at i : ℕ) (rest : List ℕ) (total : List ℕ) → i < at → nth_entry (at - i) rest ≡ total → nth_entry (at - (i + 1)) (after_entry rest) ≡ total
unfolding nth_entry
nth_on at i rest total lt e =
    let k : at - i ≡ suc (at - (i + 1)) = omega arith in
    sym (ap (λ (j : ℕ). nth_entry j rest) k) ∙ e

pub has_on : (at i : ℕ) (rest : List ℕ) → i < at → HasEntries (suc (at - i)) rest → HasEntries (suc (at - (i + 1))) (after_entry rest)
unfolding HasEntries
has_on at i rest lt has =
    let k : at - i ≡ suc (at - (i + 1)) = omega arith in
    subst (λ (j : ℕ). HasEntries j (after_entry rest)) k has.2

-- ---- whole values

pub vector_parts : (p : Numbers) (root : ℕ) (value : List ℕ) → Is (vector p root) value → (4 ≤ length value) × HasEntries (count_ones (mask_of value)) (drop 4 value)
unfolding vector mask_of
vector_parts p root value (f, r, parts, len, ok, more) =
    let mask : take 4 value ≡ f = ap (take 4) parts ∙ take_at f r 4 len in
    let rest : drop 4 value ≡ r = ap (drop 4) parts ∙ drop_at f r 4 len in
    let has = times_has (count_ones (from_be_bytes w32 f)) p.n root r more in (
      omega (arith, ap length parts, length-append f r, len),
      subst (λ (l : List ℕ). HasEntries (count_ones (from_be_bytes w32 (take 4 value))) l) (sym rest) (subst (λ (m : List ℕ). HasEntries (count_ones (from_be_bytes w32 m)) r) (sym mask) has),
    )

pub column_parts : (n : ℕ) (value : List ℕ) → Is (column n) value → (4 ≤ length value) × (length (drop 4 value) ≡ 32 * count_ones (mask_of value))
unfolding column mask_of
column_parts n value (f, r, parts, len, ok, (b, nothing, parts2, len2, ok2, nil)) =
    let mask : take 4 value ≡ f = ap (take 4) parts ∙ take_at f r 4 len in
    let rest : drop 4 value ≡ r = ap (drop 4) parts ∙ drop_at f r 4 len in
    let all : length r ≡ 32 * count_ones (from_be_bytes w32 f) = ap length parts2 ∙ omega (arith, length-append b nothing, ap length nil, len2) in
    (omega (arith, ap length parts, length-append f r, len), ap length rest ∙ all ∙ ap (λ (m : List ℕ). 32 * count_ones (from_be_bytes w32 m)) (sym mask))

pub vect_from : (t : Bool) (w : Format) (value : List ℕ) → t ≡ false → Is (cond t Done w) value → Is w value
vect_from true w value e is = absurd cc
vect_from false w value e is = is

pub vect_long : (p : Numbers) (root : ℕ) (value : List ℕ) → eqb (length value) 0 ≡ false → Is (vect p root) value → 4 ≤ length value
unfolding vect
vect_long p root value some is =
    let m = vect_from (eqb (length value) 0) _ value some is in
    omega (arith, ap length m.2, length-append m.0 m.1, m.3)

-- ---- identifiers

pub ids_length_in : (count : ℕ) (bytes : List ℕ) → length (ids_in count bytes) ≡ count
unfolding ids_in
ids_length_in zero bytes = refl
ids_length_in (suc count) bytes = ap suc (ids_length_in count (drop 5 bytes))

pub ids_get : (count at : ℕ) (bytes : List ℕ) → at < count → slice_get (ids_in count bytes) at ≡ Some (id_of (take 5 (drop (5 * at) bytes)))
unfolding ids_in
ids_get zero at bytes lt = absurd (omega arith)
ids_get (suc count) zero bytes lt = refl
ids_get (suc count) (suc at) bytes lt =
    let next : 5 + 5 * at ≡ 5 * suc at = omega arith in
    ids_get count at (drop 5 bytes) (omega arith) ∙ ap (λ (l : List ℕ). Some (id_of (take 5 l))) (drop-drop (5 * at) 5 bytes ∙ ap (λ (n : ℕ). drop n bytes) next)
