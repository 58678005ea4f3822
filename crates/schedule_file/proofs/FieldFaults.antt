-- The first wrong field of a header, by the reader of each field.
use Rattle.std.proofs.Common.{◌≡◌, ℕ, suc, ◌+◌, ◌*◌, ◌^◌, ◌<◌, ◌≤◌, Bool, true, false, cond, List, [], ◌∷◌, length, take, drop, Result, Ok, Err, refl, sym, ap, subst, ◌∙◌, arith, inl, inr, get_or, length-take, length-drop}
use Rattle.std.specs.Prelude.{◌&&◌, ◌||◌, nat_lt, nat_le, ◌==◌}
use Rattle.std.specs.Int.{w64, from_be_bytes}
use Rattle.std.proofs.lemmas.Bool.{lt-ltb, leb-true, le-leb, cases_lt}
use Rattle.std.proofs.lemmas.List.{take-append-drop, drop-drop, nil_from_length}
use Rattle.std.proofs.Math.Seq.{drop-cons}
use Rattle.schedule_file.specs.declared.fault.FileFault.{FileFault}
use Rattle.schedule_file.specs.declared.fault.FileFault.TheVariants as faults
use Rattle.schedule_file.specs.declared.header.HeaderKeys.{HeaderKeys}
use Rattle.ritas_base.specs.Numbers.{Numbers}
use Rattle.ritas_base.specs.declared.mode.FrameVersion.{FrameVersion}
use Rattle.ritas_base.specs.declared.mode.Vect.{Vect}
use Rattle.ritas_base.specs.Bytes.{IsBytes}
use Rattle.schedule_file.specs.Reading.{◌>>=◌, Spot, test}
use Rattle.schedule_file.specs.FileBytes.{limit, byte_at, bytes_at, u32_at, u64_at}
use Rattle.schedule_file.specs.ReadHeader.{is_root, is_version, version_by_byte, start_at, numbers_at, root_at, vect_by_byte, vect_at, mask_at, master_at, me_at, alone_at, keys_at}
use Rattle.schedule_file.specs.Faults.{Field, number_at_offset, magic, version, count, most_faulty, root_service, vect_field, correct, key_form, me, me_alone, IsFirstWrongField}
use Rattle.schedule_file.proofs.Spells.{back_fits, Spells}
use Rattle.schedule_file.proofs.HeaderSpells.{master_spells, keys_of, keys_of_spells}
use Rattle.schedule_file.proofs.FaultPlaces.{Named, Names, bind_err as bind_err_of, keys_of_names, master_names}
use Rattle.schedule_file.proofs.FileSpells.{bytes_spells}
use Rattle.schedule_file.proofs.Chunks.{cut_short}

-- ---- what is read at an offset

-- the place at an offset of a file
abbrev pub spot_in : List ℕ → ℕ → Spot
spot_in bytes k = record { at = k; rest = drop k bytes }

-- a reader gives this value of the bytes at an offset, of which it takes so many, and else finds the file too short
pub record Takes {A : Type 0} (read : Spot → Result (A × Spot) FileFault) (bytes : List ℕ) (k w : ℕ) (value : A) : Type 0 where
  pub there : k + w ≤ length bytes → read (spot_in bytes k) ≡ Ok (value, spot_in bytes (k + w))
  pub missing : k ≤ length bytes → length bytes < k + w → (q : ℕ) × (read (spot_in bytes k) ≡ Err (faults.Truncated q))

bytes_take : (bytes : List ℕ) (k w : ℕ) → k + w ≤ limit → Takes (bytes_at w) bytes k w (take w (drop k bytes))
bytes_take bytes k w low = record {
  there = λ le.
      let rest = drop k bytes in
      let long : length (take w rest) ≡ w = omega (arith, length-take w rest, length-drop k bytes) in
      let read = (bytes_spells w).again k (take w rest) (take w rest) (drop w rest) (refl, long) (omega (arith, long)) in
      ap (λ (t : List ℕ). bytes_at w (record { at = k; rest = t })) (sym (take-append-drop w rest)) ∙ read ∙ rw (long, drop-drop w k bytes) refl;
  missing = λ within lt.
      let few : length (drop k bytes) < w = omega (arith, length-drop k bytes) in
      (k + length (drop k bytes), cut_short w k (drop k bytes) few (omega (arith, length-drop k bytes)));
}

byte_takes : (bytes : List ℕ) (k : ℕ) → k + 1 ≤ limit → Takes byte_at bytes k 1 (get_or bytes k 0)
unfolding byte_at
byte_takes bytes k low = record {
  there = λ le.
      let below : k < limit = omega arith in
      let first = drop-cons bytes k 0 (omega arith) in
      let next : suc k ≡ k + 1 = omega arith in
      rw (first, lt-ltb k limit below, next) refl;
  missing = λ within lt.
      let none : drop k bytes ≡ [] = nil_from_length (drop k bytes) (omega (arith, length-drop k bytes)) in
      (k, rw none refl);
}

u32_takes : (bytes : List ℕ) (k : ℕ) → k + 4 ≤ limit → Takes u32_at bytes k 4 (number_at_offset bytes k)
unfolding u32_at
u32_takes bytes k low =
    let four = bytes_take bytes k 4 low in
    record {
      there = λ le. rw (four.there le) refl;
      missing = λ within lt. let m = four.missing within lt in (m.0, rw m.1 refl);
    }

u64_takes : (bytes : List ℕ) (k : ℕ) → k + 8 ≤ limit → Takes u64_at bytes k 8 (from_be_bytes w64 (take 8 (drop k bytes)))
unfolding u64_at
u64_takes bytes k low =
    let eight = bytes_take bytes k 8 low in
    record {
      there = λ le. rw (eight.there le) refl;
      missing = λ within lt. let m = eight.missing within lt in (m.0, rw m.1 refl);
    }

-- ---- the fault of a field

-- the fault of the field at an offset
abbrev pub field_fault : ℕ → FileFault
field_fault p = cond (p == 0) faults.Magic (cond (p == 4) faults.Version (faults.Header p))

-- the fault of a field, and no other
abbrev pub is_of_field : FileFault → Bool
is_of_field faults.Magic = true
is_of_field faults.Version = true
is_of_field (faults.Header p) = true
is_of_field _ = false

-- what is read has the fault of the first wrong field, and else none of a field
pub record Agrees {X : Type 0} (bytes : List ℕ) (fields : List Field) (r : Result X FileFault) : Type 0 where
  pub found : (f : FileFault) → is_of_field f ≡ true → r ≡ Err f → (p : ℕ) × IsFirstWrongField fields bytes p × (f ≡ field_fault p)
  pub only : (p : ℕ) → IsFirstWrongField fields bytes p → r ≡ Err (field_fault p)

-- no field follows
pub no_field : {X : Type 0} (bytes : List ℕ) (r : Result X FileFault) → ((f : FileFault) → is_of_field f ≡ true → r ≡ Err f → ⊥) → Agrees bytes [] r
no_field bytes r none = record { found = λ f is e. absurd (none f is e); only = λ p wrong. absurd wrong }

regrouped : {A B X F : Type 0} (r : Result A F) (f : A → Result B F) (g : B → Result X F) → (r >>= λ x. f x >>= g) ≡ ((r >>= f) >>= g)
regrouped (Ok x) f g = refl
regrouped (Err e) f g = refl

pub one_by_one : {A B X : Type 0} {bytes : List ℕ} {fields : List Field} (r : Result A FileFault) (f : A → Result B FileFault) (g : B → Result X FileFault)
    → Agrees bytes fields (r >>= λ x. f x >>= g) → Agrees bytes fields ((r >>= f) >>= g)
one_by_one {bytes = bytes} {fields = fields} r f g agrees = subst (Agrees bytes fields) (regrouped r f g) agrees

-- the fields end at an offset or behind it
abbrev pub all_reach : ℕ → List Field → Bool
all_reach from [] = true
all_reach from (x ∷ xs) = nat_le from (x.offset + x.width) && all_reach from xs

both_true : (a b : Bool) → (a && b) ≡ true → (a ≡ true) × (b ≡ true)
both_true true b e = (refl, e)
both_true false b e = absurd cc

-- fields that reach far reach less far
reach_less : (from less : ℕ) (fields : List Field) → less ≤ from → all_reach from fields ≡ true → all_reach less fields ≡ true
reach_less from less [] le all = refl
reach_less from less (x ∷ xs) le all =
    let cut = both_true (nat_le from (x.offset + x.width)) (all_reach from xs) all in
    let here : nat_le less (x.offset + x.width) ≡ true = le-leb _ _ (omega (arith, leb-true _ _ cut.0, le)) in
    rw (here, reach_less from less xs le cut.1) refl

reaches : (from : ℕ) (fields : List Field) (bytes : List ℕ) (p : ℕ) → all_reach from fields ≡ true → IsFirstWrongField fields bytes p → from ≤ length bytes
reaches from [] bytes p all wrong = absurd wrong
reaches from (x ∷ xs) bytes p all (inl here) =
    let cut = both_true (nat_le from (x.offset + x.width)) (all_reach from xs) all in
    omega (arith, leb-true _ _ cut.0, here.1, here.2)
reaches from (x ∷ xs) bytes p all (inr later) = reaches from xs bytes p (both_true (nat_le from (x.offset + x.width)) (all_reach from xs) all).1 later.1

err_is : {X : Type 0} (d e : FileFault) → (let r : Result X FileFault = Err d in r) ≡ Err e → d ≡ e
err_is d e h = cc

cut_is_no_field : {X : Type 0} (q : ℕ) (f : FileFault) → is_of_field f ≡ true → (let r : Result X FileFault = Err (faults.Truncated q) in r) ≡ Err f → ⊥
cut_is_no_field q f is e = let no : false ≡ true = ap is_of_field (err_is (faults.Truncated q) f e) ∙ is in cc

bind_err : {A X : Type 0} (r : Result A FileFault) (e : FileFault) (c : A → Result X FileFault) → r ≡ Err e → (r >>= c) ≡ Err e
bind_err r e c is = rw is refl

bind_ok : {A X : Type 0} (r : Result A FileFault) (x : A) (c : A → Result X FileFault) → r ≡ Ok x → (r >>= c) ≡ c x
bind_ok r x c is = rw is refl

-- what comes before the file is cut has no fault of a field
cut : {A X : Type 0} (bytes : List ℕ) (fields : List Field) (k w : ℕ) (read : Spot → Result (A × Spot) FileFault) (value : A) (c : A × Spot → Result X FileFault)
    → Takes read bytes k w value → k ≤ length bytes → length bytes < k + w → ((p : ℕ) → IsFirstWrongField fields bytes p → k + w ≤ length bytes) → Agrees bytes fields (read (spot_in bytes k) >>= c)
cut bytes fields k w read value c takes within lt reach =
    let short = takes.missing within lt in
    let is = bind_err (read (spot_in bytes k)) (faults.Truncated short.0) c short.1 in
    record {
      found = λ f of e. absurd (cut_is_no_field short.0 f of (sym is ∙ e));
      only = λ p wrong. absurd (omega (arith, reach p wrong, lt));
    }

-- a field without a rule is read
skip : {A X : Type 0} (bytes : List ℕ) (fields : List Field) (k w : ℕ) (read : Spot → Result (A × Spot) FileFault) (value : A) (c : A × Spot → Result X FileFault)
    → Takes read bytes k w value → all_reach (k + w) fields ≡ true → k ≤ length bytes → (k + w ≤ length bytes → Agrees bytes fields (c (value, spot_in bytes (k + w)))) → Agrees bytes fields (read (spot_in bytes k) >>= c)
skip bytes fields k w read value c takes all within more =
    elim (cases_lt (length bytes) (k + w)) [
      | inl lt ↦ cut bytes fields k w read value c takes within lt (λ p wrong. reaches (k + w) fields bytes p all wrong)
      | inr le ↦ subst (Agrees bytes fields) (sym (bind_ok (read (spot_in bytes k)) (value, spot_in bytes (k + w)) c (takes.there le))) (more le)
    ]

-- a field is right, and those behind it are looked at, or it is wrong
tested : {X : Type 0} (bytes : List ℕ) (x : Field) (fields : List Field) (r : Result X FileFault) (t : Bool) → x.is_right bytes ≡ t → x.offset + x.width ≤ length bytes
    → is_of_field (field_fault x.offset) ≡ true → (t ≡ false → r ≡ Err (field_fault x.offset)) → (t ≡ true → Agrees bytes fields r) → Agrees bytes (x ∷ fields) r
tested bytes x fields r false is le of wrong right = record {
  found = λ f f_of e. (x.offset, inl (is, refl, le), sym (err_is (field_fault x.offset) f (sym (wrong refl) ∙ e)));
  only = λ p first. elim first [
    | inl here ↦ wrong refl ∙ ap (λ (q : ℕ). Err (field_fault q)) here.1
    | inr later ↦ absurd (let no : false ≡ true = sym is ∙ later.0 in cc)
  ];
}
tested bytes x fields r true is le of wrong right =
    let agrees = right refl in
    record {
      found = λ f f_of e. let y = agrees.found f f_of e in (y.0, inr (is, y.1), y.2);
      only = λ p first. elim first [
        | inl here ↦ absurd (let no : true ≡ false = sym is ∙ here.0 in cc)
        | inr later ↦ agrees.only p later.1
      ];
    }

-- a field with a rule is read
field : {A X : Type 0} (bytes : List ℕ) (x : Field) (fields : List Field) (k w : ℕ) (read : Spot → Result (A × Spot) FileFault) (value : A) (c : A × Spot → Result X FileFault) (t : Bool)
    → Takes read bytes k w value → x.offset ≡ k → x.width ≡ w → is_of_field (field_fault k) ≡ true → x.is_right bytes ≡ t → all_reach (k + w) fields ≡ true → k ≤ length bytes
    → (t ≡ false → c (value, spot_in bytes (k + w)) ≡ Err (field_fault k)) → (t ≡ true → k + w ≤ length bytes → Agrees bytes fields (c (value, spot_in bytes (k + w))))
    → Agrees bytes (x ∷ fields) (read (spot_in bytes k) >>= c)
field bytes x fields k w read value c t takes at wide of is all within wrong right =
    elim (cases_lt (length bytes) (k + w)) [
      | inl lt ↦ cut bytes (x ∷ fields) k w read value c takes within lt (λ p first. elim first [
        | inl here ↦ omega (arith, here.1, here.2, at, wide)
        | inr later ↦ reaches (k + w) fields bytes p all later.1
      ])
      | inr le ↦ subst (Agrees bytes (x ∷ fields)) (sym (bind_ok (read (spot_in bytes k)) (value, spot_in bytes (k + w)) c (takes.there le)))
          (tested bytes x fields (c (value, spot_in bytes (k + w))) t is (omega (arith, le, at, wide)) (rw at of) (λ e. wrong e ∙ ap (λ (q : ℕ). Err (field_fault q)) (sym at)) (λ e. right e le))
    ]

-- a condition that fails, and one that holds
stops : {B X : Type 0} (t : Bool) (f : FileFault) (h : Unit {0} → Result B FileFault) (g : B → Result X FileFault) → t ≡ false → ((test t f >>= h) >>= g) ≡ Err f
stops true f h g e = absurd cc
stops false f h g e = refl

passes : {B X : Type 0} {bytes : List ℕ} {fields : List Field} (t : Bool) (f : FileFault) (h : Unit {0} → Result B FileFault) (g : B → Result X FileFault) → Agrees bytes fields (h tt >>= g) → t ≡ true → Agrees bytes fields ((test t f >>= h) >>= g)
passes true f h g agrees e = agrees
passes false f h g agrees e = absurd cc

-- ---- the parts of a header, each before what follows it

abbrev byte : List ℕ → ℕ → ℕ
byte bytes k = get_or bytes k 0

pub start_agrees : {X : Type 0} (bytes : List ℕ) (fields : List Field) (g : (FrameVersion × ℕ) × Spot → Result X FileFault) → all_reach 13 fields ≡ true
    → (13 ≤ length bytes → Agrees bytes fields (g ((version_by_byte (byte bytes 4), from_be_bytes w64 (take 8 (drop 5 bytes))), spot_in bytes 13))) → Agrees bytes (magic ∷ version ∷ fields) (start_at (spot_in bytes 0) >>= g)
unfolding start_at
start_agrees bytes fields g all more =
    one_by_one (u32_at (spot_in bytes 0)) _ g (field bytes magic (version ∷ fields) 0 4 u32_at (number_at_offset bytes 0) _ (number_at_offset bytes 0 == 0x52495453) (u32_takes bytes 0 (omega arith)) refl refl refl refl
    (reach_less 13 4 fields (omega arith) all) (omega arith)
    (λ e. stops (number_at_offset bytes 0 == 0x52495453) faults.Magic _ g e)
    (λ e le4. passes (number_at_offset bytes 0 == 0x52495453) faults.Magic _ g (one_by_one (byte_at (spot_in bytes 4)) _ g (field bytes version fields 4 1 byte_at (byte bytes 4) _ (is_version (byte bytes 4)) (byte_takes bytes 4 (omega arith)) refl refl refl refl
    (reach_less 13 5 fields (omega arith) all) le4
    (λ e. stops (is_version (byte bytes 4)) faults.Version _ g e)
    (λ e le5. passes (is_version (byte bytes 4)) faults.Version _ g (one_by_one (u64_at (spot_in bytes 5)) _ g (skip bytes fields 5 8 u64_at (from_be_bytes w64 (take 8 (drop 5 bytes))) _ (u64_takes bytes 5 (omega arith)) all le5 more)) e))) e))

pub numbers_agrees : {X : Type 0} (bytes : List ℕ) (fields : List Field) (g : Numbers × Spot → Result X FileFault) → 13 ≤ length bytes → all_reach 15 fields ≡ true
    → (15 ≤ length bytes → Agrees bytes fields (g (record { n = byte bytes 13; f = byte bytes 14 }, spot_in bytes 15))) → Agrees bytes (count ∷ most_faulty ∷ fields) (numbers_at (spot_in bytes 13) >>= g)
unfolding numbers_at
numbers_agrees bytes fields g le13 all more =
    let n = byte bytes 13 in
    let f = byte bytes 14 in
    one_by_one (byte_at (spot_in bytes 13)) _ g (field bytes count (most_faulty ∷ fields) 13 1 byte_at n _ (nat_le 1 n && nat_le n 31) (byte_takes bytes 13 (omega arith)) refl refl refl refl
    (reach_less 15 14 fields (omega arith) all) le13
    (λ e. stops (nat_le 1 n && nat_le n 31) (faults.Header 13) _ g e)
    (λ e le14. passes (nat_le 1 n && nat_le n 31) (faults.Header 13) _ g (one_by_one (byte_at (spot_in bytes 14)) _ g (field bytes most_faulty fields 14 1 byte_at f _ (nat_lt (3 * f) n) (byte_takes bytes 14 (omega arith)) refl refl refl refl all le14
    (λ e. stops (nat_lt (3 * f) n) (faults.Header 14) _ g e)
    (λ e le15. passes (nat_lt (3 * f) n) (faults.Header 14) _ g (more le15) e))) e))

pub root_agrees : {X : Type 0} (bytes : List ℕ) (fields : List Field) (g : ℕ × Spot → Result X FileFault) → 15 ≤ length bytes → all_reach 16 fields ≡ true
    → (16 ≤ length bytes → Agrees bytes fields (g (byte bytes 15, spot_in bytes 16))) → Agrees bytes (root_service ∷ fields) (root_at (spot_in bytes 15) >>= g)
unfolding root_at
root_agrees bytes fields g le15 all more =
    let root = byte bytes 15 in
    one_by_one (byte_at (spot_in bytes 15)) _ g (field bytes root_service fields 15 1 byte_at root _ (is_root root) (byte_takes bytes 15 (omega arith)) refl refl refl refl all le15
    (λ e. stops (is_root root) (faults.Header 15) _ g e)
    (λ e le16. passes (is_root root) (faults.Header 15) _ g (more le16) e))

pub vect_agrees : {X : Type 0} (bytes : List ℕ) (fields : List Field) (g : Vect × Spot → Result X FileFault) → 16 ≤ length bytes → all_reach 17 fields ≡ true
    → (17 ≤ length bytes → Agrees bytes fields (g (vect_by_byte (byte bytes 16), spot_in bytes 17))) → Agrees bytes (vect_field ∷ fields) (vect_at (spot_in bytes 16) >>= g)
unfolding vect_at
vect_agrees bytes fields g le16 all more =
    let b = byte bytes 16 in
    one_by_one (byte_at (spot_in bytes 16)) _ g (field bytes vect_field fields 16 1 byte_at b _ (b == 1 || b == 2) (byte_takes bytes 16 (omega arith)) refl refl refl refl all le16
    (λ e. stops (b == 1 || b == 2) (faults.Header 16) _ g e)
    (λ e le17. passes (b == 1 || b == 2) (faults.Header 16) _ g (more le17) e))

pub mask_agrees : {X : Type 0} (bytes : List ℕ) (fields : List Field) (g : ℕ × Spot → Result X FileFault) → 17 ≤ length bytes → all_reach 21 fields ≡ true
    → (21 ≤ length bytes → Agrees bytes fields (g (number_at_offset bytes 17, spot_in bytes 21))) → Agrees bytes (correct ∷ fields) (mask_at (byte bytes 13) (spot_in bytes 17) >>= g)
unfolding mask_at
mask_agrees bytes fields g le17 all more =
    let mask = number_at_offset bytes 17 in
    let t = nat_lt mask (2 ^ byte bytes 13) in
    one_by_one (u32_at (spot_in bytes 17)) _ g (field bytes correct fields 17 4 u32_at mask _ t (u32_takes bytes 17 (omega arith)) refl refl refl refl all le17
    (λ e. stops t (faults.Header 17) _ g e)
    (λ e le21. passes t (faults.Header 17) _ g (more le21) e))

-- ---- what follows the fields

-- what is read has no fault of a field, from any place on
abbrev pub NoField : {X : Type 0} → (Spot → Result X FileFault) → Type 0
NoField read = (s : Spot) (f : FileFault) → s.at ≤ limit → IsBytes s.rest → is_of_field f ≡ true → read s ≡ Err f → ⊥

abbrev no_own : FileFault → Type 0
no_own f = ⊥

named_no_field : (s : Spot) (f : FileFault) → is_of_field f ≡ true → Named no_own s f → ⊥
named_no_field s faults.Magic of h = h
named_no_field s faults.Version of h = h
named_no_field s (faults.Header k) of h = h
named_no_field s (faults.Event p) of h = h
named_no_field s (faults.Truncated p) of h = cc
named_no_field s (faults.Trailing p) of h = h
named_no_field s faults.TooLong of h = cc
named_no_field s faults.Read of h = h
named_no_field s faults.Mem of h = h

no_field_then : {A X : Type 0} {R : A → List ℕ → Type 0} (first : Spot → Result (A × Spot) FileFault) (second : A × Spot → Result X FileFault)
    → Spells limit first R → Names no_own first → ((a : A) → NoField (λ s. second (a, s))) → NoField (λ s. first s >>= second)
no_field_then first second spells names more s f low fits of e =
    elim (bind_err_of (first s) second f e) [
      | inl h ↦ named_no_field s f of (names.names s f low fits h)
      | inr h ↦
          let one = spells.takes s h.0.0 h.0.1 fits h.1 in
          more h.0.0 h.0.1 f (one.took.below low) (back_fits s.rest one.text h.0.1.rest fits one.took.bytes) of h.2
    ]

-- ---- the keys

-- a field that is right is passed
passed : {X : Type 0} (bytes : List ℕ) (x : Field) (fields : List Field) (r : Result X FileFault) → x.is_right bytes ≡ true → Agrees bytes fields r → Agrees bytes (x ∷ fields) r
passed bytes x fields r is agrees = record {
  found = λ f of e. let y = agrees.found f of e in (y.0, inr (is, y.1), y.2);
  only = λ p first. elim first [
    | inl here ↦ absurd (let no : true ≡ false = sym is ∙ here.0 in cc)
    | inr later ↦ agrees.only p later.1
  ];
}

spot_fits : (bytes : List ℕ) (k : ℕ) → IsBytes bytes → IsBytes (drop k bytes)
spot_fits bytes k fits = back_fits bytes (take k bytes) (drop k bytes) fits (sym (take-append-drop k bytes))

alone_agrees : {X : Type 0} (bytes : List ℕ) (g : HeaderKeys × Spot → Result X FileFault) → IsBytes bytes → 22 ≤ length bytes → (byte bytes 21 == 0) ≡ false
    → ((keys : HeaderKeys) → NoField (λ s. g (keys, s))) → Agrees bytes (me ∷ me_alone ∷ []) (alone_at (byte bytes 13) (number_at_offset bytes 17) (spot_in bytes 22) >>= g)
unfolding alone_at me_at
alone_agrees bytes g fits le22 one more =
    let n = byte bytes 13 in
    let mask = number_at_offset bytes 17 in
    let i = byte bytes 22 in
    let rest : ℕ × Spot → Result (HeaderKeys × Spot) FileFault = λ me. keys_of n me.0 me.1 in
    one_by_one (me_at n mask (spot_in bytes 22)) rest g (one_by_one (byte_at (spot_in bytes 22)) _ (λ me. rest me >>= g) (field bytes me (me_alone ∷ []) 22 1 byte_at i _ (nat_lt i n) (byte_takes bytes 22 (omega arith)) refl refl refl (rw one refl) refl le22
    (λ e. stops (nat_lt i n) (faults.Header 22) _ _ e)
    (λ e le23. passes (nat_lt i n) (faults.Header 22) _ _ (tested bytes me_alone [] _ (mask == 2 ^ i) (rw one refl) le23 refl
    (λ e. stops (mask == 2 ^ i) (faults.Header 17) _ _ e)
    (λ e. passes (mask == 2 ^ i) (faults.Header 17) _ _ (no_field bytes _ (λ f of e. no_field_then (keys_of n i) g (keys_of_spells n i) (keys_of_names n i) more (spot_in bytes 23) f (omega arith) (spot_fits bytes 23 fits) of e)) e)) e)))

either_agrees : {X : Type 0} (bytes : List ℕ) (g : HeaderKeys × Spot → Result X FileFault) (t : Bool) → IsBytes bytes → 22 ≤ length bytes → (byte bytes 21 == 0) ≡ t
    → ((keys : HeaderKeys) → NoField (λ s. g (keys, s))) → Agrees bytes (me ∷ me_alone ∷ []) (cond t (master_at (spot_in bytes 22)) (alone_at (byte bytes 13) (number_at_offset bytes 17) (spot_in bytes 22)) >>= g)
either_agrees bytes g true fits le22 is more =
    passed bytes me (me_alone ∷ []) _ (rw is refl) (passed bytes me_alone [] _ (rw is refl) (no_field bytes _ (λ f of e. no_field_then master_at g master_spells master_names more (spot_in bytes 22) f (omega arith) (spot_fits bytes 22 fits) of e)))
either_agrees bytes g false fits le22 is more = alone_agrees bytes g fits le22 is more

pub keys_agrees : {X : Type 0} (bytes : List ℕ) (g : HeaderKeys × Spot → Result X FileFault) → IsBytes bytes → 21 ≤ length bytes
    → ((keys : HeaderKeys) → NoField (λ s. g (keys, s))) → Agrees bytes (key_form ∷ me ∷ me_alone ∷ []) (keys_at (byte bytes 13) (number_at_offset bytes 17) (spot_in bytes 21) >>= g)
unfolding keys_at
keys_agrees bytes g fits le21 more =
    let form = byte bytes 21 in
    one_by_one (byte_at (spot_in bytes 21)) _ g (field bytes key_form (me ∷ me_alone ∷ []) 21 1 byte_at form _ (form == 0 || form == 1) (byte_takes bytes 21 (omega arith)) refl refl refl refl refl le21
    (λ e. stops (form == 0 || form == 1) (faults.Header 21) _ g e)
    (λ e le22. passes (form == 0 || form == 1) (faults.Header 21) _ g (either_agrees bytes g (form == 0) fits le22 refl more) e))
