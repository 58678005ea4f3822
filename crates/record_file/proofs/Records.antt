-- A record is read as it was written, and what is read as one is one.
use Rattle.std.proofs.Common.{◌≡◌, inl, inr, ℕ, ◌+◌, ◌<◌, List, ◌∷◌, ◌++◌, length, take, drop, Some, None, Bool, true, false, refl, sym, ap, ◌∙◌, append_assoc, arith, length-append, length-drop, length-take, take-append-drop}
use Rattle.std.specs.Prelude.{nat_lt, if◌then◌else◌}
use Rattle.std.proofs.lemmas.Bool.{cases_lt, lt-ltb, le-ltb}
use Rattle.std.proofs.lemmas.List.{take_at, drop_at, drop-drop}
use Rattle.ritas_base.specs.Bytes.{IsBytes}
use Rattle.record_file.specs.Form.{Form, width_of, length_in, length_text}
use Rattle.record_file.specs.Records.{IsRecord, sized}
use Rattle.record_file.specs.Reading.{BeginsRecord, NoRecord, record_behind, whole_in}
use Rattle.record_file.proofs.Widths.{length-length_text, length_in-length_text, length_text-length_in, length_in-below}

-- so many bytes, and a gate behind them
record IsWhole (len : ℕ) (rest r : List ℕ) : Type 0 where
  pub is : r ≡ take len rest
  pub gate : len < length rest

tests : (len : ℕ) (rest : List ℕ) (a : Bool) → nat_lt len (length rest) ≡ a → whole_in len rest ≡ (if a then Some (take len rest) else None)
tests len rest a is = ap (λ (t : Bool). if t then Some (take len rest) else None) is

whole_found : (len : ℕ) (rest r : List ℕ) → whole_in len rest ≡ Some r → IsWhole len rest r
whole_found len rest r is = elim (cases_lt len (length rest)) [
  | inr le ↦ let clash : None ≡ Some r = sym (tests len rest false (le-ltb len (length rest) le)) ∙ is in absurd (cc clash)
  | inl lt ↦
      let some : Some (take len rest) ≡ Some r = sym (tests len rest true (lt-ltb len (length rest) lt)) ∙ is in
      let same : take len rest ≡ r = cc some in
      record { is = sym same; gate = lt }
]

whole_only : (r : List ℕ) (gate : ℕ) (rest : List ℕ) → whole_in (length r) (r ++ gate ∷ rest) ≡ Some r
whole_only r gate rest =
    let lt : length r < length (r ++ gate ∷ rest) = omega (arith, length-append r (gate ∷ rest)) in
    tests (length r) (r ++ gate ∷ rest) true (lt-ltb (length r) (length (r ++ gate ∷ rest)) lt) ∙ ap (λ (x : List ℕ). Some x) (take_at r (gate ∷ rest) (length r) refl)

module _ (form : Form) where
  -- a gate follows what is read
  pub gate_left : (bytes r : List ℕ) → record_behind form bytes ≡ Some r → width_of form.width + length r < length bytes
  gate_left bytes r is =
      let len = length_in form.width bytes in
      let rest = drop (width_of form.width) bytes in
      let whole = whole_found len rest r is in
      omega (arith, ap length whole.is, length-take len rest, whole.gate, length-drop (width_of form.width) bytes)

  pub record_found : (bytes r : List ℕ) → IsBytes bytes → record_behind form bytes ≡ Some r → BeginsRecord form bytes r
  record_found bytes r fits is =
      let width = width_of form.width in
      let len = length_in form.width bytes in
      let rest = drop width bytes in
      let whole = whole_found len rest r is in
      let left = length-drop width bytes in
      let long : length r ≡ len = ap length whole.is ∙ omega (arith, length-take len rest, whole.gate) in
      let front : length_text form.width (length r) ≡ take width bytes = ap (length_text form.width) long ∙ length_text-length_in form.width bytes (omega (arith, whole.gate, left)) fits in
      let behind : drop len rest ≡ drop (width + length r) bytes = drop-drop len width bytes ∙ ap (λ (k : ℕ). drop k bytes) (omega (arith, long)) in
      record {
        fits = omega (arith, long, length_in-below form.width bytes fits);
        text = sym (take-append-drop width bytes)
            ∙ ap (λ (x : List ℕ). take width bytes ++ x) (sym (take-append-drop len rest))
            ∙ ap (λ (x : List ℕ). x ++ (take len rest ++ drop len rest)) (sym front)
            ∙ ap (λ (x : List ℕ). length_text form.width (length r) ++ (x ++ drop len rest)) (sym whole.is)
            ∙ ap (λ (x : List ℕ). length_text form.width (length r) ++ (r ++ x)) behind
            ∙ sym (append_assoc (length_text form.width (length r)) r (drop (width + length r) bytes));
        gate = omega (arith, whole.gate, left, long);
      }

  pub record_only : (r : List ℕ) (gate : ℕ) (rest : List ℕ) → IsRecord form r → record_behind form (sized form r ++ gate ∷ rest) ≡ Some r
  record_only r gate rest is =
      let front = length_text form.width (length r) in
      let parts : sized form r ++ gate ∷ rest ≡ front ++ (r ++ gate ∷ rest) = append_assoc front r (gate ∷ rest) in
      ap (record_behind form) parts
      ∙ ap (λ (n : ℕ). whole_in n (drop (width_of form.width) (front ++ (r ++ gate ∷ rest)))) (length_in-length_text form.width (length r) (r ++ gate ∷ rest) is)
      ∙ ap (whole_in (length r)) (drop_at front (r ++ gate ∷ rest) (width_of form.width) (length-length_text form.width (length r)))
      ∙ whole_only r gate rest

  pub record_none : (bytes : List ℕ) → record_behind form bytes ≡ None → NoRecord form bytes
  record_none bytes none r gate rest is text =
      let clash : None ≡ Some r = sym none ∙ ap (record_behind form) text ∙ record_only r gate rest is in cc clash
