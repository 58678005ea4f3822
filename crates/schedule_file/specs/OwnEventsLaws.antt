-- An event of one replica is read exactly where its text begins the bytes.
use Rattle.std.specs.Prelude.{◌≡◌, ◌≢◌, ℕ, zero, suc, ◌+◌, ◌<◌, ◌≤◌, ◌^◌, ◌==◌, Bool, List, [], ◌∷◌, ◌++◌, length, take, drop, Option, Some, None, if◌then◌else◌, refl}
use Rattle.std.specs.Int.{w16, from_be_bytes, to_be_bytes}
use Rattle.std.proofs.Common.{inl, inr, sym, ap, ◌∙◌, append_assoc, arith, length-append, take-append-drop, eq-eqb}
use Rattle.std.proofs.lemmas.Bool.{le-leb, lt-leb, ne_eqb, cases_lt, cases_eq}
use Rattle.std.proofs.lemmas.List.{take_at, length-take-le}
use Rattle.std.proofs.lemmas.Nat.{be_bytes_2, from_be_bytes-to_be_bytes_2}
use Rattle.ritas_base.specs.declared.event.Event.{Event}
use Rattle.ritas_base.specs.declared.event.Event.TheVariants.{Frame, Input, Turn, Pass, Sealed}
use Rattle.ritas_base.specs.Bytes.{IsBytes}
use Rattle.schedule_file.specs.Spelling.{event_text, sized}
use Rattle.schedule_file.specs.OwnEvents.{IsOwnEvent, IsEventRead, front_in, sized_in, with_text, kind_in, own_event}

-- ---- what is there is read

front_only : (len : ℕ) (text rest : List ℕ) → len ≡ length text → front_in len (text ++ rest) ≡ Some text
front_only len text rest is =
    let le : len ≤ length (text ++ rest) = omega (arith, is, length-append text rest) in
    rw (le-leb len (length (text ++ rest)) le) (ap Some (take_at text rest len (sym is)))

sized_only : (text rest : List ℕ) → length text < 2 ^ 16 → sized_in (sized text ++ rest) ≡ Some text
sized_only text rest fits = front_only (from_be_bytes w16 (to_be_bytes w16 (length text))) text rest (from_be_bytes-to_be_bytes_2 (length text) fits)

texts_only : (make : List ℕ → Event) (text rest : List ℕ) → length text < 2 ^ 16 → with_text make (sized_in (sized text ++ rest)) ≡ Some (make text, length (sized text) + 2)
texts_only make text rest fits =
    let long : length text + 4 ≡ length (sized text) + 2 = omega arith in
    ap (with_text make) (sized_only text rest fits) ∙ ap (λ (k : ℕ). Some (make text, k)) long

at_me : (me at kind : ℕ) (rest : List ℕ) → at ≡ me → own_event me (kind ∷ at ∷ rest) ≡ kind_in me kind rest
at_me me at kind rest is = ap (λ (b : Bool). if b then kind_in me kind rest else None) (eq-eqb at me is)

pub own_only : (me : ℕ) (e : Event) (rest : List ℕ) → IsOwnEvent me e → own_event me (event_text e ++ rest) ≡ Some (e, length (event_text e))
own_only me (Frame to bytes) rest own =
    let long : length (sized bytes) + 2 ≡ length (event_text (Frame to bytes)) = omega arith in
    at_me me to 1 (sized bytes ++ rest) own.alone ∙ texts_only (Frame me) bytes rest own.fits
    ∙ ap (λ (k : ℕ). Some (Frame me bytes, k)) long ∙ ap (λ (i : ℕ). Some (Frame i bytes, length (event_text (Frame to bytes)))) (sym own.alone)
own_only me (Input at bytes) rest own =
    let long : length (sized bytes) + 2 ≡ length (event_text (Input at bytes)) = omega arith in
    at_me me at 2 (sized bytes ++ rest) own.alone ∙ texts_only (Input me) bytes rest own.fits
    ∙ ap (λ (k : ℕ). Some (Input me bytes, k)) long ∙ ap (λ (i : ℕ). Some (Input i bytes, length (event_text (Input at bytes)))) (sym own.alone)
own_only me (Turn at) rest own = at_me me at 3 rest own.alone ∙ ap (λ (i : ℕ). Some (Turn i, 2)) (sym own.alone)
own_only me (Pass from to m) rest own = absurd own.alone
own_only me (Sealed from to body) rest own = absurd own.alone

-- ---- what is read is there

-- a text was read behind its length
record IsText (bytes text : List ℕ) : Type 0 where
  pub fits : length text < 2 ^ 16
  pub parts : bytes ≡ sized text ++ drop (length text + 2) bytes

front_found : (len : ℕ) (rest text : List ℕ) → front_in len rest ≡ Some text → (len ≤ length rest) × (text ≡ take len rest)
front_found len rest text is = elim (cases_lt (length rest) len) [
  | inl short ↦ let none : front_in len rest ≡ None = ap (λ (b : Bool). if b then Some (take len rest) else None) (lt-leb len (length rest) short) in absurd (cc none)
  | inr le ↦ let some : front_in len rest ≡ Some (take len rest) = ap (λ (b : Bool). if b then Some (take len rest) else None) (le-leb len (length rest) le) in (le, cc some)
]

sized_found : (bytes text : List ℕ) → IsBytes bytes → sized_in bytes ≡ Some text → IsText bytes text
sized_found [] text fits is = absurd cc
sized_found (high ∷ []) text fits is = absurd cc
sized_found (high ∷ low ∷ rest) text fits is =
    let pair = high ∷ low ∷ [] in
    let len = from_be_bytes w16 pair in
    let found = front_found len rest text is in
    let small : len < 2 ^ 16 = omega (arith, fits 0, fits 1) in
    let long : length text ≡ len = ap length found.1 ∙ length-take-le len rest found.0 in
    let spelled : to_be_bytes w16 len ≡ pair = be_bytes_2 pair _ refl (pair_fits high low (fits 0) (fits 1)) refl in
    let bytes = high ∷ low ∷ rest in
    let place : length text + 2 ≡ suc (suc len) = omega (arith, long) in
    let back : drop (length text + 2) bytes ≡ drop len rest = ap (λ (k : ℕ). drop k bytes) place in
    let front : to_be_bytes w16 (length text) ≡ pair = ap (to_be_bytes w16) long ∙ spelled in
    let split : rest ≡ text ++ drop len rest = sym (take-append-drop len rest) ∙ ap (λ (x : List ℕ). x ++ drop len rest) (sym found.1) in
    record {
      fits = omega (arith, long, small);
      parts = ap (λ (x : List ℕ). high ∷ low ∷ x) split ∙ ap (λ (x : List ℕ). pair ++ (text ++ x)) (sym back)
          ∙ ap (λ (x : List ℕ). x ++ (text ++ drop (length text + 2) bytes)) (sym front)
          ∙ sym (append_assoc (to_be_bytes w16 (length text)) text (drop (length text + 2) bytes));
    }
  where
    pair_fits : (a b : ℕ) → a < 256 → b < 256 → IsBytes (a ∷ b ∷ [])
    pair_fits a b lt_a lt_b zero = lt_a
    pair_fits a b lt_a lt_b (suc zero) = lt_b
    pair_fits a b lt_a lt_b (suc (suc i)) = omega arith

text_found : (make : List ℕ → Event) (o : Option (List ℕ)) (e : Event) (k : ℕ) → with_text make o ≡ Some (e, k) → (text : List ℕ) × (o ≡ Some text) × (e ≡ make text) × (k ≡ length text + 4)
text_found make None e k is = absurd cc
text_found make (Some text) e k is =
    let same : (make text, length text + 4) ≡ (e, k) = cc is in
    (text, refl, ap (λ (x : Event × ℕ). x.0) (sym same), ap (λ (x : Event × ℕ). x.1) (sym same))

frame_read : (me : ℕ) (rest text : List ℕ) → IsText rest text → IsEventRead me (1 ∷ me ∷ rest) (Frame me text) (length text + 4)
frame_read me rest text is =
    let place : length text + 4 ≡ suc (suc (length text + 2)) = omega arith in
    record { own = record { alone = refl; fits = is.fits }; size = omega arith; text = rw place (ap (λ (x : List ℕ). 1 ∷ me ∷ x) is.parts) }

input_read : (me : ℕ) (rest text : List ℕ) → IsText rest text → IsEventRead me (2 ∷ me ∷ rest) (Input me text) (length text + 4)
input_read me rest text is =
    let place : length text + 4 ≡ suc (suc (length text + 2)) = omega arith in
    record { own = record { alone = refl; fits = is.fits }; size = omega arith; text = rw place (ap (λ (x : List ℕ). 2 ∷ me ∷ x) is.parts) }

turn_read : (me : ℕ) (rest : List ℕ) → IsEventRead me (3 ∷ me ∷ rest) (Turn me) 2
turn_read me rest = record { own = record { alone = refl; fits = tt }; size = refl; text = refl }

-- the test of a kind that it isn't
other : {X : Type 0} (a b : ℕ) (x y : X) → a ≢ b → (if a == b then x else y) ≡ y
other a b x y not = ap (λ (t : Bool). if t then x else y) (ne_eqb a b not)

moved : (me kind same : ℕ) (rest : List ℕ) (e f : Event) (k j : ℕ) → kind ≡ same → e ≡ f → k ≡ j → IsEventRead me (same ∷ me ∷ rest) f j → IsEventRead me (kind ∷ me ∷ rest) e k
moved me kind same rest e f k j a b d read = rw (a, b, d) read

kind_found : (me kind : ℕ) (rest : List ℕ) (e : Event) (k : ℕ) → IsBytes rest → kind_in me kind rest ≡ Some (e, k) → IsEventRead me (kind ∷ me ∷ rest) e k
kind_found me kind rest e k fits read = elim (cases_eq kind 1) [
  | inl one ↦
      let t = text_found (Frame me) (sized_in rest) e k (sym (ap (λ (x : ℕ). kind_in me x rest) one) ∙ read) in
      moved me kind 1 rest e (Frame me t.0) k (length t.0 + 4) one t.2 t.3 (frame_read me rest t.0 (sized_found rest t.0 fits t.1))
  | inr not_one ↦ elim (cases_eq kind 2) [
    | inl two ↦
        let t = text_found (Input me) (sized_in rest) e k (sym (ap (λ (x : ℕ). kind_in me x rest) two) ∙ read) in
        moved me kind 2 rest e (Input me t.0) k (length t.0 + 4) two t.2 t.3 (input_read me rest t.0 (sized_found rest t.0 fits t.1))
    | inr not_two ↦ elim (cases_eq kind 3) [
      | inl three ↦
          let is : Some (Turn me, 2) ≡ Some (e, k) = sym (ap (λ (x : ℕ). kind_in me x rest) three) ∙ read in
          let same : (Turn me, 2) ≡ (e, k) = cc is in
          moved me kind 3 rest e (Turn me) k 2 three (ap (λ (x : Event × ℕ). x.0) (sym same)) (ap (λ (x : Event × ℕ). x.1) (sym same)) (turn_read me rest)
      | inr not_three ↦
          let none : kind_in me kind rest ≡ None = other kind 1 _ _ not_one ∙ other kind 2 _ _ not_two ∙ other kind 3 _ _ not_three in
          let clash : None ≡ Some (e, k) = sym none ∙ read in
          absurd (cc clash)
    ]
  ]
]

pub own_found : (me : ℕ) (bytes : List ℕ) (e : Event) (k : ℕ) → IsBytes bytes → own_event me bytes ≡ Some (e, k) → IsEventRead me bytes e k
own_found me [] e k fits read = absurd (cc read)
own_found me (kind ∷ []) e k fits read = absurd (cc read)
own_found me (kind ∷ at ∷ rest) e k fits read = elim (cases_eq at me) [
  | inl same ↦ rw same (kind_found me kind rest e k (λ i. fits (suc (suc i))) (sym (at_me me at kind rest same) ∙ read))
  | inr not ↦
      let clash : None ≡ Some (e, k) = sym (other at me (kind_in me kind rest) None not) ∙ read in
      absurd (cc clash)
]
