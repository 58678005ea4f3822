-- Reading a file record by record, from its first gate on.
use Rattle.std.proofs.Common.{◌≡◌, ◌≢◌, inl, inr, ℕ, zero, suc, ◌+◌, ◌-◌, ◌<◌, ◌≤◌, List, [], ◌∷◌, ◌++◌, length, take, drop, reverse, get_or, Option, Some, None, Bool, true, false, refl, sym, subst, ap, ◌∙◌, append_assoc, arith, length-append, length-drop, length-take, eq-eqb}
use Rattle.std.specs.Prelude.{◌==◌, ◌&&◌, if◌then◌else◌}
use Rattle.std.specs.List.{AllByRecursion}
use Rattle.std.proofs.lemmas.Bool.{cases_eq, ne_eqb}
use Rattle.std.proofs.lemmas.List.{append-nil, drop_more, drop-drop, drop_at, get_or-drop, get_or_past, reverse-append, reverse-reverse, take-append-drop}
use Rattle.std.proofs.Math.Seq.{get_or-append_right}
use Rattle.ritas_base.specs.Bytes.{IsBytes}
use Rattle.record_file.specs.Form.{Form, first_gate, length_text, width_of}
use Rattle.record_file.specs.Records.{IsRecord, IsUnmade, Opens, OpensAs, closed_front, record_text, sized}
use Rattle.record_file.specs.Reading.{AtGate, HasFront, IsBroken, NoRecord, gate_behind, record_at, record_behind, records_from, records_read, with_rest}
use Rattle.record_file.proofs.Images.{front_more}
use Rattle.record_file.proofs.Records.{record_found, record_only, record_none, gate_left}
use Rattle.record_file.proofs.Widths.{length-length_text}

-- ---- one gate

-- an open gate of a made file, and a record behind it
pub record IsAt (form : Form) (file : List ℕ) (at : ℕ) (r : List ℕ) : Type 0 where
  pub made : get_or file 0 0 ≡ 1
  pub is_open : get_or file at 0 ≡ 1
  pub behind : record_behind form (drop (at + 1) file) ≡ Some r

tests : (form : Form) (file : List ℕ) (at : ℕ) (a b : Bool) → (get_or file 0 0 == 1) ≡ a → (get_or file at 0 == 1) ≡ b → record_at form file at ≡ (if a && b then record_behind form (drop (at + 1) file) else None)
tests form file at a b first second =
    ap (λ (t : Bool). if t && (get_or file at 0 == 1) then record_behind form (drop (at + 1) file) else None) first
    ∙ ap (λ (t : Bool). if a && t then record_behind form (drop (at + 1) file) else None) second

pub at_unmade : (form : Form) (file : List ℕ) (at : ℕ) → get_or file 0 0 ≢ 1 → record_at form file at ≡ None
at_unmade form file at not = tests form file at false (get_or file at 0 == 1) (ne_eqb (get_or file 0 0) 1 not) refl

pub at_open : (form : Form) (file : List ℕ) (at : ℕ) → get_or file 0 0 ≡ 1 → get_or file at 0 ≡ 1 → record_at form file at ≡ record_behind form (drop (at + 1) file)
at_open form file at made is_open = tests form file at true true (eq-eqb (get_or file 0 0) 1 made) (eq-eqb (get_or file at 0) 1 is_open)

pub at_shut : (form : Form) (file : List ℕ) (at : ℕ) → get_or file at 0 ≢ 1 → record_at form file at ≡ None
at_shut form file at shut = elim (cases_eq (get_or file 0 0) 1) [
  | inl made ↦ tests form file at true false (eq-eqb (get_or file 0 0) 1 made) (ne_eqb (get_or file at 0) 1 shut)
  | inr not ↦ at_unmade form file at not
]

pub at_found : (form : Form) (file : List ℕ) (at : ℕ) (r : List ℕ) → record_at form file at ≡ Some r → IsAt form file at r
at_found form file at r is = elim (cases_eq (get_or file 0 0) 1) [
  | inr not ↦ let clash : None ≡ Some r = sym (at_unmade form file at not) ∙ is in absurd (cc clash)
  | inl made ↦ elim (cases_eq (get_or file at 0) 1) [
    | inr shut ↦ let clash : None ≡ Some r = sym (at_shut form file at shut) ∙ is in absurd (cc clash)
    | inl is_open ↦ record { made = made; is_open = is_open; behind = sym (at_open form file at made is_open) ∙ is }
  ]
]

-- the next gate is in the file
pub next_within : (form : Form) (file : List ℕ) (at : ℕ) (r : List ℕ) → record_at form file at ≡ Some r → gate_behind form at r < length file
next_within form file at r is =
    let found = at_found form file at r is in
    omega (arith, gate_left form (drop (at + 1) file) r found.behind, length-drop (at + 1) file)

-- ---- all gates, the first first

count_below : (form : Form) (file : List ℕ) (at : ℕ) (rs : List (List ℕ)) → AtGate form file at rs → length rs ≤ at
count_below form file at [] here = omega arith
count_below form file at (r ∷ rs) (before, back, is, place) = omega (arith, count_below form file before rs back, place)

-- there are no more records than bytes
count_short : (form : Form) (file : List ℕ) (at : ℕ) (rs : List (List ℕ)) → AtGate form file at rs → length rs ≤ length file
count_short form file at [] here = omega arith
count_short form file at (r ∷ rs) (before, back, is, place) = omega (arith, count_below form file before rs back, next_within form file before r is)

-- what is read from the first gate on, up to this one and from it on
read_on : (form : Form) (file : List ℕ) (at : ℕ) (rs : List (List ℕ)) (n m : ℕ) → AtGate form file at rs → n ≡ length rs + m → records_from n form file (first_gate form) ≡ reverse rs ++ records_from m form file at
read_on form file at [] n m here is =
    let same : n ≡ m = omega (arith, is) in
    ap (λ (k : ℕ). records_from k form file (first_gate form)) same ∙ ap (records_from m form file) (sym here)
read_on form file at (r ∷ rs) n m (before, back, is, place) count =
    let rest = records_from m form file in
    let first = read_on form file before rs n (suc m) back (omega (arith, count)) in
    let turned : reverse (r ∷ rs) ≡ reverse rs ++ r ∷ [] = reverse-append (r ∷ []) rs in
    let step : records_from (suc m) form file before ≡ r ∷ rest at =
    ap (λ (o : Option (List ℕ)). with_rest o (λ x. rest (gate_behind form before x))) is ∙ ap (λ (k : ℕ). r ∷ rest k) (sym place) in
    first ∙ ap (λ (xs : List (List ℕ)). reverse rs ++ xs) step ∙ sym (append_assoc (reverse rs) (r ∷ []) (rest at)) ∙ ap (λ (xs : List (List ℕ)). xs ++ rest at) (sym turned)

none_from : (m : ℕ) (form : Form) (file : List ℕ) (at : ℕ) → record_at form file at ≡ None → records_from m form file at ≡ []
none_from zero form file at none = refl
none_from (suc m) form file at none = ap (λ (o : Option (List ℕ)). with_rest o (λ x. records_from m form file (gate_behind form at x))) none

-- where no record stands any more, all were read
pub all_read : (form : Form) (file : List ℕ) (at : ℕ) (rs : List (List ℕ)) → AtGate form file at rs → record_at form file at ≡ None → records_read form file ≡ rs
all_read form file at rs here none =
    let left = length file - length rs in
    let count : length file ≡ length rs + left = omega (arith, count_short form file at rs here) in
    ap (λ (xs : List (List ℕ)). reverse xs)
    (read_on form file at rs (length file) left here count ∙ ap (λ (xs : List (List ℕ)). reverse rs ++ xs) (none_from left form file at none) ∙ append-nil (reverse rs))
    ∙ reverse-reverse rs

-- ---- the bytes that were read

pub front_with : (form : Form) (head : List ℕ) (rs : List (List ℕ)) (r : List ℕ) → closed_front form head (r ∷ rs) ≡ closed_front form head rs ++ record_text form r
front_with form head rs r =
    front_more form head rs (r ∷ []) ∙ ap (λ (x : List ℕ). closed_front form head rs ++ x) (append-nil (record_text form r))

record_length : (form : Form) (r : List ℕ) → length (record_text form r) ≡ width_of form.width + length r + 1
record_length form r = omega (arith, length-append (length_text form.width (length r)) r, length-length_text form.width (length r))

pub front_length : (form : Form) (head : List ℕ) (rs : List (List ℕ)) (r : List ℕ) → length (closed_front form head (r ∷ rs)) ≡ gate_behind form (length (closed_front form head rs)) r
front_length form head rs r =
    ap length (front_with form head rs r) ∙ omega (arith, length-append (closed_front form head rs) (record_text form r), record_length form r)

dropped : (bytes : List ℕ) (k : ℕ) → IsBytes bytes → IsBytes (drop k bytes)
dropped bytes k small i = rw get_or-drop (small (k + i))

pub has_front : (form : Form) (head file : List ℕ) (at : ℕ) (rs : List (List ℕ)) → IsBytes file → take (first_gate form) file ≡ 1 ∷ head → first_gate form < length file → AtGate form file at rs
    → HasFront form head file at rs
has_front form head file at [] fits same long here =
    let place : length (closed_front form head []) ≡ first_gate form = omega (arith, ap length same, length-take (first_gate form) file, long, length-append head []) in
    record {
      text = sym (take-append-drop at file) ∙ ap (λ (k : ℕ). take k file ++ drop at file) here ∙ ap (λ (x : List ℕ). x ++ drop at file) (same ∙ ap (λ (x : List ℕ). 1 ∷ x) (sym (append-nil head)));
      place = here ∙ sym place;
      each = tt;
      within = omega (arith, here, long);
    }
has_front form head file at (r ∷ rs) fits same long (before, back, is, place) =
    let first = has_front form head file before rs fits same long back in
    let found = at_found form file before r is in
    let begins = record_found form (drop (before + 1) file) r (dropped file (before + 1) fits) found.behind in
    let size = width_of form.width + length r in
    let behind : drop size (drop (before + 1) file) ≡ drop at file = drop-drop size (before + 1) file ∙ ap (λ (k : ℕ). drop k file) (omega (arith, place)) in
    let record_is : drop before file ≡ record_text form r ++ drop at file =
    drop_more file before 0 first.within ∙ ap (λ (x : ℕ). x ∷ drop (before + 1) file) found.is_open ∙ ap (λ (x : List ℕ). 1 ∷ x) (begins.text ∙ ap (λ (x : List ℕ). sized form r ++ x) behind) in
    record {
      text = first.text ∙ ap (λ (x : List ℕ). closed_front form head rs ++ x) record_is
          ∙ sym (append_assoc (closed_front form head rs) (record_text form r) (drop at file))
          ∙ ap (λ (x : List ℕ). x ++ drop at file) (sym (front_with form head rs r));
      place = place ∙ ap (λ (k : ℕ). gate_behind form k r) first.place ∙ sym (front_length form head rs r);
      each = (begins.fits, first.each);
      within = rw place (next_within form file before r is);
    }

-- ---- what opens, and what is broken

-- at a closed gate the file opens as the records in front of it
pub opens_there : (form : Form) (head file : List ℕ) (at : ℕ) (rs : List (List ℕ)) → HasFront form head file at rs → length file ≤ form.limit → get_or file at 0 ≢ 1 → Opens form head file rs
opens_there form head file at rs front short shut = record {
  gate = get_or file at 0;
  rest = drop (at + 1) file;
  text = front.text ∙ ap (λ (x : List ℕ). closed_front form head rs ++ x) (drop_more file at 0 front.within);
  shut = shut;
  each = front.each;
  size = short;
}

-- at an open one where no record is read it is broken
pub broken_there : (form : Form) (head file : List ℕ) (at : ℕ) (rs : List (List ℕ)) → HasFront form head file at rs → length file ≤ form.limit → get_or file 0 0 ≡ 1 → get_or file at 0 ≡ 1
    → record_at form file at ≡ None → IsBroken form head file at
broken_there form head file at rs front short made is_open none = record {
  rs = rs;
  rest = drop (at + 1) file;
  text = front.text ∙ ap (λ (x : List ℕ). closed_front form head rs ++ x) (drop_more file at 0 front.within ∙ ap (λ (x : ℕ). x ∷ drop (at + 1) file) is_open);
  each = front.each;
  place = front.place;
  none = record_none form (drop (at + 1) file) (sym (at_open form file at made is_open) ∙ none);
  size = short;
}

-- where no record and gate stand, none is read
none_behind : (form : Form) (bytes : List ℕ) → IsBytes bytes → NoRecord form bytes → record_behind form bytes ≡ None
none_behind form bytes fits none = read (record_behind form bytes) refl
  where
    read : (o : Option (List ℕ)) → record_behind form bytes ≡ o → record_behind form bytes ≡ None
    read None is = is
    read (Some r) is =
        let begins = record_found form bytes r fits is in
        let size = width_of form.width + length r in
        absurd (none r (get_or bytes size 0) (drop (size + 1) bytes) begins.fits (begins.text ∙ ap (λ (x : List ℕ). sized form r ++ x) (drop_more bytes size 0 begins.gate)))

-- ---- what a file is read as

-- of a file that isn't made nothing is read
pub none_unmade : (form : Form) (file : List ℕ) → IsUnmade form file → records_read form file ≡ []
none_unmade form file unmade = all_read form file (first_gate form) [] refl (none unmade)
  where
    none : IsUnmade form file → record_at form file (first_gate form) ≡ None
    none (inr other) = at_unmade form file (first_gate form) other
    none (inl short) =
        let past : get_or file (first_gate form) 0 ≡ 0 = get_or_past file (first_gate form) 0 (omega (arith, short)) in
        at_shut form file (first_gate form) (λ one. let clash : 0 ≡ 1 = sym past ∙ one in cc clash)

module _ (form : Form) (head file : List ℕ) (long : length head ≡ form.head_length) where
  -- the gate behind a front
  gate_there : (front : List ℕ) (gate : ℕ) (more : List ℕ) → file ≡ front ++ gate ∷ more → get_or file (length front) 0 ≡ gate
  gate_there front gate more text =
      let zero_in : length front - length front ≡ 0 = omega arith in
      ap (λ (x : List ℕ). get_or x (length front) 0) text ∙ get_or-append_right front (gate ∷ more) (length front) 0 (omega arith)
      ∙ ap (λ (k : ℕ). get_or (gate ∷ more) k 0) zero_in

  behind_there : (front : List ℕ) (gate : ℕ) (more : List ℕ) → file ≡ front ++ gate ∷ more → drop (length front + 1) file ≡ more
  behind_there front gate more text =
      ap (drop (length front + 1)) (text ∙ sym (append_assoc front (gate ∷ []) more))
      ∙ drop_at (front ++ gate ∷ []) more (length front + 1) (omega (arith, length-append front (gate ∷ [])))

  pub at_gate : (rs : List (List ℕ)) (gate : ℕ) (more : List ℕ) → file ≡ closed_front form head rs ++ gate ∷ more → AllByRecursion (IsRecord form) rs → AtGate form file (length (closed_front form head rs)) rs
  at_gate [] gate more text each = omega (arith, long, length-append head [])
  at_gate (r ∷ rs) gate more text each =
      let front = closed_front form head rs in
      let rest = sized form r ++ gate ∷ more in
      let whole : file ≡ front ++ 1 ∷ rest = text ∙ ap (λ (x : List ℕ). x ++ gate ∷ more) (front_with form head rs r) ∙ append_assoc front (record_text form r) (gate ∷ more) in
      let made : get_or file 0 0 ≡ 1 = ap (λ (x : List ℕ). get_or x 0 0) whole in
      let read : record_at form file (length front) ≡ Some r =
      at_open form file (length front) made (gate_there front 1 rest whole) ∙ ap (record_behind form) (behind_there front 1 rest whole) ∙ record_only form r gate more each.0 in
      (length front, at_gate rs 1 rest whole each.1, read, front_length form head rs r)

  pub read_opens : (rs : List (List ℕ)) → Opens form head file rs → records_read form file ≡ rs
  read_opens rs opens =
      let front = closed_front form head rs in
      all_read form file (length front) rs (at_gate rs opens.gate opens.rest opens.text opens.each)
      (at_shut form file (length front) (λ one. opens.shut (sym (gate_there front opens.gate opens.rest opens.text) ∙ one)))

  pub read_as : (rs : List (List ℕ)) → OpensAs form head file rs → records_read form file ≡ rs
  read_as rs (inl unmade) = none_unmade form file unmade.0 ∙ sym unmade.2
  read_as rs (inr opens) = read_opens rs opens

  pub read_broken : (p : ℕ) → IsBytes file → (b : IsBroken form head file p) → records_read form file ≡ b.rs
  read_broken p fits b =
      let front = closed_front form head b.rs in
      let at = length front in
      let behind = behind_there front 1 b.rest b.text in
      let made : get_or file 0 0 ≡ 1 = ap (λ (x : List ℕ). get_or x 0 0) b.text in
      let rest_fits : IsBytes b.rest = subst IsBytes behind (dropped file (at + 1) fits) in
      all_read form file at b.rs (at_gate b.rs 1 b.rest b.text b.each)
      (at_open form file at made (gate_there front 1 b.rest b.text) ∙ ap (record_behind form) behind ∙ none_behind form b.rest rest_fits b.none)
