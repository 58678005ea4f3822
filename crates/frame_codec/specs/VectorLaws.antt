-- A vector is a mask and one entry of class 2 for each of its places; what is written is so, and is read again.
use Rattle.std.proofs.Common.{◌≡◌, ℕ, zero, suc, ◌-◌, ◌+◌, ◌*◌, ◌/◌, ◌%◌, ◌^◌, ◌<◌, ◌≤◌, ◌&&◌, Bool, true, false, cond, ltb, leb, eqb, List, [], ◌∷◌, ◌++◌, length, take, drop, refl, sym, ap, subst, ◌∙◌, append_assoc, arith, inl, inr}
use Rattle.std.specs.List.{flat_map, AllByRecursion}
use Rattle.std.specs.Int.{w16, w32, to_be_bytes, from_be_bytes}
use Rattle.std.specs.Int.RustNames.{count_ones}
use Rattle.std.proofs.lemmas.Bool.{ltb-true, leb-true, le-leb, eqb-true, eq-eqb, and_parts, and_from, cases_lt}
use Rattle.std.proofs.lemmas.List.{take_at, drop_at, append-nil, length-take, get_or-take, get_or-drop, get_or_past}
use Rattle.std.proofs.lemmas.List.Concat.{flat_map-cons}
use Rattle.std.proofs.lemmas.Nat.{be_bytes_2, be_bytes_4, from_be_bytes-to_be_bytes_2, from_be_bytes-to_be_bytes_4}
use Rattle.ritas_base.specs.Numbers.{Numbers, wait_of}
use Rattle.ritas_base.specs.Slots.{is_atomic}
use Rattle.ritas_base.specs.Limits.{number_limit}
use Rattle.frame_codec.specs.Limits.{most_ids, longest_ids, longest_entry}
use Rattle.frame_codec.specs.declared.ids.Run.{Run}
use Rattle.frame_codec.specs.Format.{Done, Block, Plain, Is}
use Rattle.frame_codec.specs.Grammar.{any, id_of, no_ids, with_id, comes_after, ids_from, ids, is_places, is_entry_len, entry, times, vector, class2}
use Rattle.ritas_base.specs.Bytes.{IsBytes}
use Rattle.frame_codec.specs.Values.{IsVector, mask_of, len_in, entry_in_front, after_entry, entries_in, entry_bytes, vector_bytes}
use Rattle.frame_codec.specs.PartLaws.{is_then, then_is, entry_fixed, ids_length, entry_length}

-- ---- a whole list of identifiers is of so many

ids_count : (n count : ℕ) (run : Run) (text : List ℕ) → Is (ids_from n count run) text → 0 < count → run.total + count ≤ most_ids
unfolding ids_from
ids_count n zero run text is some = absurd (omega arith)
ids_count n (suc zero) run text (f, r, parts, len, ok, more) some =
    let a = and_parts (ltb (id_of f).origin n) (ltb (id_of f).num number_limit && (ltb run.total most_ids && comes_after run.share run.last run.same (id_of f))) ok in
    let b = and_parts (ltb (id_of f).num number_limit) (ltb run.total most_ids && comes_after run.share run.last run.same (id_of f)) a.1 in
    let few : run.total < most_ids = ltb-true _ _ (and_parts (ltb run.total most_ids) (comes_after run.share run.last run.same (id_of f)) b.1).0 in
    omega arith
ids_count n (suc (suc count)) run text (f, r, parts, len, ok, more) some =
    let others = ids_count n (suc count) (with_id run (id_of f)) r more (omega arith) in
    omega (arith, others)

-- ---- an entry is a length and a value of class 2

class2_from : (t : Bool) (n len : ℕ) (e : List ℕ) → cond t (leb 5 len && leb len longest_ids && eqb (len % 5) 0) (leb 1 len && leb len longest_entry) ≡ true → length e ≡ len
    → Is (cond t (ids_from n (len / 5) (no_ids n)) (Block len any (λ _. Done))) e → Is (cond t (ids n) (Plain 1 longest_entry)) e
unfolding ids
class2_from true n len e ok same is =
    let a = and_parts (leb 5 len && leb len longest_ids) (eqb (len % 5) 0) ok in
    let five : 5 ≤ len = leb-true 5 len (and_parts (leb 5 len) (leb len longest_ids) a.0).0 in
    let whole : len % 5 ≡ 0 = eqb-true (len % 5) 0 a.1 in
    let count : len / 5 ≡ (length e - 1) / 5 + 1 = omega arith in
    subst (λ (c : ℕ). Is (ids_from n c (no_ids n)) e) count is
class2_from false n len e ok same is =
    let b = and_parts (leb 1 len) (leb len longest_entry) ok in
    let low = leb-true 1 len b.0 in
    let high = leb-true len longest_entry b.1 in
    (omega (arith, low, same), omega (arith, high, same))

pub record IsEntryText (p : Numbers) (root : ℕ) (text head e : List ℕ) : Type 0 where
  pub parts : text ≡ head ++ e
  pub two : length head ≡ 2
  pub says : from_be_bytes w16 head ≡ length e
  pub right : Is (class2 p root) e

pub entry_parts : (p : Numbers) (root : ℕ) (text : List ℕ) → Is (entry p.n root) text → (head : List ℕ) × (e : List ℕ) × IsEntryText p root text head e
unfolding entry class2
entry_parts p root text (f, r, parts, two, ok, more) =
    let len = from_be_bytes w16 f in
    let same : length r ≡ len = entry_length (is_atomic root) p.n len r ok more in
    (f, r, record { parts = parts; two = two; says = sym same; right = class2_from (is_atomic root) p.n len r ok same more })

class2_most : (t : Bool) (n : ℕ) (e : List ℕ) → Is (cond t (ids n) (Plain 1 longest_entry)) e → (1 ≤ length e) × (length e ≤ longest_entry)
unfolding ids
class2_most true n e is =
    let count = (length e - 1) / 5 + 1 in
    let same : length e ≡ 5 * count = ids_length n count (no_ids n) e is in
    let some : 0 < count = omega arith in
    let few : 0 + count ≤ most_ids = ids_count n count (no_ids n) e is some in
    (omega (arith, same, some), omega (arith, same, few))
class2_most false n e is = is

pub class2_short : (p : Numbers) (root : ℕ) (value : List ℕ) → Is (class2 p root) value → (1 ≤ length value) × (length value ≤ longest_entry)
unfolding class2
class2_short p root value is = class2_most (is_atomic root) p.n value is

class2_len : (t : Bool) (n : ℕ) (e : List ℕ) → Is (cond t (ids n) (Plain 1 longest_entry)) e
    → (length e < 2 ^ 16) × (cond t (leb 5 (length e) && leb (length e) longest_ids && eqb (length e % 5) 0) (leb 1 (length e) && leb (length e) longest_entry) ≡ true)
    × Is (cond t (ids_from n (length e / 5) (no_ids n)) (Block (length e) any (λ _. Done))) e
unfolding ids
class2_len true n e is =
    let count = (length e - 1) / 5 + 1 in
    let same : length e ≡ 5 * count = ids_length n count (no_ids n) e is in
    let some : 0 < count = omega arith in
    let few : 0 + count ≤ most_ids = ids_count n count (no_ids n) e is some in
    let low : 5 ≤ length e = omega arith in
    let high : length e ≤ longest_ids = omega arith in
    let whole : length e % 5 ≡ 0 = omega arith in
    let pieces : count ≡ length e / 5 = omega arith in (
      omega arith,
      and_from (leb 5 (length e) && leb (length e) longest_ids) (eqb (length e % 5) 0) (and_from (leb 5 (length e)) (leb (length e) longest_ids) (le-leb _ _ low) (le-leb _ _ high)) (eq-eqb _ _ whole),
      subst (λ (c : ℕ). Is (ids_from n c (no_ids n)) e) pieces is,
    )
class2_len false n e is = (
  omega (arith, is.1),
  and_from (leb 1 (length e)) (leb (length e) longest_entry) (le-leb _ _ is.0) (le-leb _ _ is.1),
  (e, [], sym (append-nil e), refl, refl, refl),
)

pub entry_written : (p : Numbers) (root : ℕ) (e : List ℕ) → Is (class2 p root) e → Is (entry p.n root) (entry_bytes e)
unfolding entry class2
entry_written p root e is =
    let c = class2_len (is_atomic root) p.n e is in
    let back : from_be_bytes w16 (to_be_bytes w16 (length e)) ≡ length e = from_be_bytes-to_be_bytes_2 (length e) c.0 in (
      to_be_bytes w16 (length e),
      e,
      refl,
      refl,
      ap (is_entry_len root) back ∙ c.1,
      subst (λ (len : ℕ). Is (cond (is_atomic root) (ids_from p.n (len / 5) (no_ids p.n)) (Block len any (λ _. Done))) e) (sym back) c.2,
    )

entries_written : (p : Numbers) (root : ℕ) (es : List (List ℕ)) → AllByRecursion (Is (class2 p root)) es → Is (times (length es) (entry p.n root)) (flat_map entry_bytes es)
unfolding times
entries_written p root [] all = refl
entries_written p root (e ∷ es) all =
    rw (flat_map-cons entry_bytes e es) (then_is (entry p.n root) (times (length es) (entry p.n root)) (entry_bytes e) (flat_map entry_bytes es) (entry_fixed p.n root) (entry_written p root e all.0) (entries_written p root es all.1))

-- what is written is of the grammar
pub vector_written : (p : Numbers) (root mask : ℕ) (es : List (List ℕ)) → mask < 2 ^ 32 → is_places p.n (wait_of p) mask ≡ true → length es ≡ count_ones mask
    → AllByRecursion (Is (class2 p root)) es → Is (vector p root) (vector_bytes mask es)
unfolding vector
vector_written p root mask es small good one_each all =
    let back : from_be_bytes w32 (to_be_bytes w32 mask) ≡ mask = from_be_bytes-to_be_bytes_4 mask small in (
      to_be_bytes w32 mask,
      flat_map entry_bytes es,
      refl,
      refl,
      ap (is_places p.n (wait_of p)) back ∙ good,
      subst (λ (m : ℕ). Is (times (count_ones m) (entry p.n root)) (flat_map entry_bytes es)) (sym back) (subst (λ (c : ℕ). Is (times c (entry p.n root)) (flat_map entry_bytes es)) one_each (entries_written p root es all)),
    )

-- ---- what is written is read again

pub mask_again : (mask : ℕ) (rest : List ℕ) → mask < 2 ^ 32 → mask_of (to_be_bytes w32 mask ++ rest) ≡ mask
unfolding mask_of
mask_again mask rest small = from_be_bytes-to_be_bytes_4 mask small

pub entries_again : (es : List (List ℕ)) → AllByRecursion (λ e. length e < 2 ^ 16) es → entries_in (length es) (flat_map entry_bytes es) ≡ es
unfolding entries_in len_in
entries_again [] all = refl
entries_again (e ∷ es) all =
    let len : from_be_bytes w16 (to_be_bytes w16 (length e)) ≡ length e = from_be_bytes-to_be_bytes_2 (length e) all.0 in
    let text : flat_map entry_bytes (e ∷ es) ≡ entry_bytes e ++ flat_map entry_bytes es = flat_map-cons entry_bytes e es in
    ap (entries_in (suc (length es))) text ∙ rw (len, take_at e (flat_map entry_bytes es) (length e) refl, drop_at e (flat_map entry_bytes es) (length e) refl, entries_again es all.1) refl

-- ---- every vector is written so

pub IsBytes-drop : (n : ℕ) (bytes : List ℕ) → IsBytes bytes → IsBytes (drop n bytes)
IsBytes-drop n bytes h i = rw get_or-drop (h (n + i))

pub IsBytes-take : (n : ℕ) (bytes : List ℕ) → IsBytes bytes → IsBytes (take n bytes)
IsBytes-take n bytes h i =
    elim (cases_lt i n) [
      | inl lt ↦ rw (get_or-take n bytes i 0 lt) (h i)
      | inr le ↦ rw (get_or_past (take n bytes) i 0 (omega (arith, length-take n bytes))) (omega arith)
    ]

-- an entry in front of the rest
entry_first : (p : Numbers) (root : ℕ) (text front rest head e : List ℕ) → IsBytes text → text ≡ front ++ rest → IsEntryText p root front head e
    → (entry_in_front text ≡ e) × (after_entry text ≡ rest) × (text ≡ entry_bytes e ++ rest) × IsBytes rest
unfolding len_in
entry_first p root text front rest head e fits parts is =
    let whole : text ≡ head ++ (e ++ rest) = parts ∙ ap (λ (l : List ℕ). l ++ rest) is.parts ∙ append_assoc head e rest in
    let first : take 2 text ≡ head = ap (take 2) whole ∙ take_at head (e ++ rest) 2 is.two in
    let tail : drop 2 text ≡ e ++ rest = ap (drop 2) whole ∙ drop_at head (e ++ rest) 2 is.two in
    let len : from_be_bytes w16 (take 2 text) ≡ length e = ap (from_be_bytes w16) first ∙ is.says in
    let head_fits : IsBytes head = subst IsBytes first (IsBytes-take 2 text fits) in
    let spelled : to_be_bytes w16 (length e) ≡ head = be_bytes_2 head (length e) is.two head_fits (sym is.says) in
    let tail_fits : IsBytes (e ++ rest) = subst IsBytes tail (IsBytes-drop 2 text fits) in
    let rest_is : drop (length e) (e ++ rest) ≡ rest = drop_at e rest (length e) refl in (
      ap (λ (n : ℕ). take n (drop 2 text)) len ∙ ap (take (length e)) tail ∙ take_at e rest (length e) refl,
      ap (λ (n : ℕ). drop n (drop 2 text)) len ∙ ap (drop (length e)) tail ∙ rest_is,
      whole ∙ ap (λ (h : List ℕ). h ++ (e ++ rest)) (sym spelled) ∙ sym (append_assoc (to_be_bytes w16 (length e)) e rest),
      subst IsBytes rest_is (IsBytes-drop (length e) (e ++ rest) tail_fits),
    )

entries_are : (p : Numbers) (root count : ℕ) (text : List ℕ) → IsBytes text → Is (times count (entry p.n root)) text
    → (text ≡ flat_map entry_bytes (entries_in count text)) × (length (entries_in count text) ≡ count) × AllByRecursion (Is (class2 p root)) (entries_in count text)
unfolding times entries_in
entries_are p root zero text fits is = (is, refl, tt)
entries_are p root (suc count) text fits is =
    let m = is_then (entry p.n root) (times count (entry p.n root)) text (entry_fixed p.n root) is in
    let part = entry_parts p root m.0 m.3 in
    let e = part.1 in
    let first = entry_first p root text m.0 m.1 part.0 e fits m.2 part.2 in
    let others = entries_are p root count m.1 first.3 m.4 in
    let made : entries_in (suc count) text ≡ e ∷ entries_in count m.1 = rw (first.0, first.1) refl in
    let spelled : text ≡ flat_map entry_bytes (e ∷ entries_in count m.1) = first.2 ∙ ap (λ (l : List ℕ). entry_bytes e ++ l) others.0 ∙ sym (flat_map-cons entry_bytes e (entries_in count m.1)) in
    let P : List (List ℕ) → Type 0 = λ es. (text ≡ flat_map entry_bytes es) × (length es ≡ suc count) × AllByRecursion (Is (class2 p root)) es in
    subst P (sym made) (spelled, ap suc others.1, (part.2.right, others.2))

pub vector_is : (p : Numbers) (root : ℕ) (value : List ℕ) → IsBytes value → Is (vector p root) value → IsVector p root (mask_of value) (entries_in (count_ones (mask_of value)) (drop 4 value)) value
unfolding vector mask_of
vector_is p root value fits (f, r, parts, four, ok, more) =
    let first : take 4 value ≡ f = ap (take 4) parts ∙ take_at f r 4 four in
    let tail : drop 4 value ≡ r = ap (drop 4) parts ∙ drop_at f r 4 four in
    let f_fits : IsBytes f = subst IsBytes first (IsBytes-take 4 value fits) in
    let r_fits : IsBytes r = subst IsBytes tail (IsBytes-drop 4 value fits) in
    let mask = from_be_bytes w32 f in
    let spelled : to_be_bytes w32 mask ≡ f = be_bytes_4 f mask four f_fits refl in
    let es = entries_are p root (count_ones mask) r r_fits more in
    let is : IsVector p root mask (entries_in (count_ones mask) r) value = record {
      places = ok;
      one_each = es.1;
      spelled = parts ∙ ap (λ (l : List ℕ). l ++ r) (sym spelled) ∙ ap (λ (l : List ℕ). to_be_bytes w32 mask ++ l) es.0;
      right = es.2;
    } in
    let at_mask = subst (λ (l : List ℕ). IsVector p root (from_be_bytes w32 l) (entries_in (count_ones (from_be_bytes w32 l)) r) value) (sym first) is in
    subst (λ (l : List ℕ). IsVector p root (from_be_bytes w32 (take 4 value)) (entries_in (count_ones (from_be_bytes w32 (take 4 value))) l) value) (sym tail) at_mask
