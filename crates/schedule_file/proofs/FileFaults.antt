-- The faults of a file, both ways.
use Rattle.std.proofs.Common.{◌≡◌, ℕ, zero, suc, ◌+◌, ◌<◌, ◌≤◌, ◌⊎◌, Bool, true, false, cond, List, [], ◌∷◌, ◌++◌, length, drop, reverse, Result, Ok, Err, refl, sym, ap, subst, ◌∙◌, append_assoc, arith, inl, inr, length-append, length-take}
use Rattle.std.specs.Prelude.{◌↔◌, ◌&&◌, ◌||◌, ◌==◌, nat_lt}
use Rattle.std.specs.List.{flat_map, AllByRecursion}
use Rattle.std.proofs.lemmas.Bool.{lt-ltb, ltb-true, eqb-true, ne_eqb}
use Rattle.std.proofs.lemmas.List.{take-append-drop, length-drop}
use Rattle.std.proofs.lemmas.List.Concat.{flat_map-cons}
use Rattle.ritas_base.specs.declared.event.Event.{Event}
use Rattle.schedule_file.specs.declared.fault.FileFault.{FileFault}
use Rattle.schedule_file.specs.declared.fault.FileFault.TheVariants as faults
use Rattle.schedule_file.specs.declared.scope.Scope.{Scope}
use Rattle.ritas_base.specs.Bytes.{IsBytes}
use Rattle.schedule_file.specs.Reading.{◌>>=◌, Spot}
use Rattle.schedule_file.specs.FileBytes.{limit, end_at}
use Rattle.schedule_file.specs.ReadHeader.{Heading, start_at, numbers_at, root_at, vect_at, mask_at, keys_at, header_at}
use Rattle.schedule_file.specs.Scopes.{scope_of, IsInScope}
use Rattle.schedule_file.specs.ReadEvents.{event_at, events_at}
use Rattle.schedule_file.specs.Schedule.{file_of}
use Rattle.schedule_file.specs.Spelling.{header_text, event_text, FileOf, FrontOf, IsEvent, IsHeading}
use Rattle.schedule_file.specs.Faults.{Field, root_service, vect_field, correct, key_form, me, me_alone, count, most_faulty, header_fields, IsFirstWrongField, IsMagicFault, IsVersionFault, IsHeaderFault, IsEventFault, IsTrailingFault, IsUnfinished, IsTruncated, IsTooLong}
use Rattle.schedule_file.proofs.HeaderSpells.{header_spells}
use Rattle.schedule_file.proofs.FileLaws.{in_scope, file_takes, file_again, event_again, no_more}
use Rattle.schedule_file.proofs.FaultPlaces.{bind_err, err_is}
use Rattle.schedule_file.proofs.FaultLaws.{IsStop, events_stop, file_stop, marked, cut_at, too_long, trailing_at_place, own_fault}
use Rattle.schedule_file.proofs.FieldFaults.{spot_in, field_fault, is_of_field, Agrees, NoField, one_by_one, start_agrees, numbers_agrees, root_agrees, vect_agrees, mask_agrees, keys_agrees}
use Rattle.schedule_file.proofs.EventFaults.{event_wrong, event_fails, first_byte}

-- ---- the header

no_field_stop : (s : Spot) (f : FileFault) → is_of_field f ≡ true → IsStop s f → ⊥
no_field_stop s faults.Magic is h = h
no_field_stop s faults.Version is h = h
no_field_stop s (faults.Header k) is h = h
no_field_stop s (faults.Event p) is h = absurd cc
no_field_stop s (faults.Truncated p) is h = absurd cc
no_field_stop s (faults.Trailing p) is h = absurd cc
no_field_stop s faults.TooLong is h = absurd cc
no_field_stop s faults.Read is h = absurd cc
no_field_stop s faults.Mem is h = absurd cc

abbrev said : Heading → List Event → Result (Heading × List Event) FileFault
said h events = Ok (h, reverse events)

events_no_field : (h : Heading) → NoField (λ s. events_at (limit + 1) (scope_of h) s >>= said h)
events_no_field h s f low fits of e =
    elim (bind_err (events_at (limit + 1) (scope_of h) s) (said h) f e) [
      | inl k ↦ let stop = events_stop (limit + 1) (scope_of h) s f (omega arith) low fits k in no_field_stop stop.mid f of stop.stop
      | inr k ↦ let no = k.2 in cc
    ]

file_agrees : (bytes : List ℕ) → IsBytes bytes → Agrees bytes header_fields (file_of bytes)
unfolding file_of header_at
file_agrees bytes fits =
    let last = key_form ∷ me ∷ me_alone ∷ [] in
    one_by_one (start_at (spot_in bytes 0)) _ _ (start_agrees bytes (count ∷ most_faulty ∷ root_service ∷ vect_field ∷ correct ∷ last) _ refl
    (λ le13. one_by_one (numbers_at (spot_in bytes 13)) _ _ (numbers_agrees bytes (root_service ∷ vect_field ∷ correct ∷ last) _ le13 refl
    (λ le15. one_by_one (root_at (spot_in bytes 15)) _ _ (root_agrees bytes (vect_field ∷ correct ∷ last) _ le15 refl
    (λ le16. one_by_one (vect_at (spot_in bytes 16)) _ _ (vect_agrees bytes (correct ∷ last) _ le16 refl
    (λ le17. one_by_one (mask_at _ (spot_in bytes 17)) _ _ (mask_agrees bytes last _ le17 refl
    (λ le21. one_by_one (keys_at _ _ (spot_in bytes 21)) _ _ (keys_agrees bytes _ fits le21 (λ keys. events_no_field _))))))))))))

-- the offset of a field's fault
abbrev offset_of : FileFault → ℕ
offset_of faults.Magic = 0
offset_of faults.Version = 4
offset_of (faults.Header p) = p
offset_of _ = 0

by_tests : (p : ℕ) (zeroth fourth : Bool) → (p == 0) ≡ zeroth → (p == 4) ≡ fourth → offset_of (cond zeroth faults.Magic (cond fourth faults.Version (faults.Header p))) ≡ p
by_tests p true fourth is other = sym (eqb-true p 0 is)
by_tests p false true is other = sym (eqb-true p 4 other)
by_tests p false false is other = refl

offset_is : (p : ℕ) → offset_of (field_fault p) ≡ p
offset_is p = by_tests p (p == 0) (p == 4) refl refl

found_at : (bytes : List ℕ) (f : FileFault) → IsBytes bytes → is_of_field f ≡ true → file_of bytes ≡ Err f → IsFirstWrongField header_fields bytes (offset_of f)
found_at bytes f fits of e =
    let y = (file_agrees bytes fits).found f of e in
    subst (IsFirstWrongField header_fields bytes) (sym (ap offset_of y.2 ∙ offset_is y.0)) y.1

pub magic_both : (bytes : List ℕ) → IsBytes bytes → (file_of bytes ≡ Err faults.Magic) ↔ IsMagicFault bytes
magic_both bytes fits = (λ e. found_at bytes faults.Magic fits refl e, λ wrong. (file_agrees bytes fits).only 0 wrong)

pub version_both : (bytes : List ℕ) → IsBytes bytes → (file_of bytes ≡ Err faults.Version) ↔ IsVersionFault bytes
version_both bytes fits = (λ e. found_at bytes faults.Version fits refl e, λ wrong. (file_agrees bytes fits).only 4 wrong)

-- an offset passes a test that each field's passes
abbrev all_pass : (ℕ → Bool) → List Field → Bool
all_pass t [] = true
all_pass t (x ∷ xs) = t x.offset && all_pass t xs

both_true : (a b : Bool) → (a && b) ≡ true → (a ≡ true) × (b ≡ true)
both_true true b e = (refl, e)
both_true false b e = absurd cc

passes : (t : ℕ → Bool) (fields : List Field) (bytes : List ℕ) (p : ℕ) → all_pass t fields ≡ true → IsFirstWrongField fields bytes p → t p ≡ true
passes t [] bytes p all wrong = absurd wrong
passes t (x ∷ xs) bytes p all (inl here) = subst (λ (q : ℕ). t q ≡ true) here.1 (both_true (t x.offset) (all_pass t xs) all).0
passes t (x ∷ xs) bytes p all (inr later) = passes t xs bytes p (both_true (t x.offset) (all_pass t xs) all).1 later.1

abbrev is_place : ℕ → Bool
is_place p = (p == 0) || ((p == 4) || nat_lt 4 p)

is_header : (p : ℕ) → 4 < p → field_fault p ≡ faults.Header p
is_header p lt = rw (ne_eqb p 0 (omega arith), ne_eqb p 4 (omega arith)) refl

-- the fault of a field that is neither the magic nor the version is behind them
behind : (p : ℕ) (zeroth fourth past : Bool) → (p == 0) ≡ zeroth → (p == 4) ≡ fourth → nat_lt 4 p ≡ past → (zeroth || (fourth || past)) ≡ true
    → faults.Header p ≡ cond zeroth faults.Magic (cond fourth faults.Version (faults.Header p)) → 4 < p
behind p true fourth past a b c all e = absurd cc
behind p false true past a b c all e = absurd cc
behind p false false true a b c all e = ltb-true 4 p c
behind p false false false a b c all e = absurd cc

pub header_both : (bytes : List ℕ) (p : ℕ) → IsBytes bytes → (file_of bytes ≡ Err (faults.Header p)) ↔ IsHeaderFault bytes p
header_both bytes p fits = (
  λ e.
      let y = (file_agrees bytes fits).found (faults.Header p) refl e in
      let same : p ≡ y.0 = ap offset_of y.2 ∙ offset_is y.0 in
      let fault : faults.Header p ≡ field_fault p = y.2 ∙ ap field_fault (sym same) in
      let wrong = found_at bytes (faults.Header p) fits refl e in
      (behind p (p == 0) (p == 4) (nat_lt 4 p) refl refl refl (passes is_place header_fields bytes p refl wrong) fault, wrong),
  λ wrong. (file_agrees bytes fits).only p wrong.1 ∙ ap (λ (f : FileFault). Err f) (is_header p wrong.0),
)

-- ---- the events

events_fail : (k : ℕ) (scope : Scope) (at : ℕ) (es : List Event) (rest : List ℕ) (f : FileFault) → AllByRecursion (IsInScope scope) es → length es < k → at + length (flat_map event_text es) ≤ limit
    → event_at scope (record { at = at + length (flat_map event_text es); rest = rest }) ≡ Err f → events_at k scope (record { at = at; rest = flat_map event_text es ++ rest }) ≡ Err f
unfolding events_at
events_fail zero scope at es rest f each long le fails = absurd (omega arith)
events_fail (suc k) scope at [] rest f each long le fails =
    let here : at + 0 ≡ at = omega arith in
    let reads = rw here at fails in
    rw reads refl
events_fail (suc k) scope at (e ∷ es) rest f each long le fails =
    let parts : length (flat_map event_text (e ∷ es)) ≡ length (event_text e) + length (flat_map event_text es) = rw flat_map-cons (length-append (event_text e) (flat_map event_text es)) in
    let text : flat_map event_text (e ∷ es) ++ rest ≡ event_text e ++ (flat_map event_text es ++ rest) = rw flat_map-cons (append_assoc (event_text e) (flat_map event_text es) rest) in
    let one = event_again scope at e (flat_map event_text es ++ rest) each.0 (omega (arith, parts, le)) in
    let place : at + length (flat_map event_text (e ∷ es)) ≡ at + length (event_text e) + length (flat_map event_text es) = omega (arith, parts) in
    let later = rw place at fails in
    let more = events_fail k scope (at + length (event_text e)) es rest f each.1 (omega (arith, long)) (omega (arith, parts, le)) later in
    ap (λ (t : List ℕ). events_at (suc k) scope (record { at = at; rest = t })) text ∙ rw (one, more) refl

file_fails : (h : Heading) (es : List Event) (rest : List ℕ) (f : FileFault) → IsHeading h → AllByRecursion (IsEvent h) (reverse es) → length (FrontOf h es) ≤ limit
    → event_at (scope_of h) (record { at = length (FrontOf h es); rest = rest }) ≡ Err f → file_of (FrontOf h es ++ rest) ≡ Err f
unfolding file_of
file_fails h es rest f is each size fails =
    let events = reverse es in
    let parts = length-append (header_text h) (flat_map event_text events) in
    let one = header_spells.again 0 h (header_text h) (flat_map event_text events ++ rest) (refl, is) (omega (arith, parts, size)) in
    let place : length (FrontOf h es) ≡ 0 + length (header_text h) + length (flat_map event_text events) = omega (arith, parts) in
    let later = rw place at fails in
    let more = events_fail (limit + 1) (scope_of h) (0 + length (header_text h)) events rest f (in_scope h events each) (omega (arith, no_more events, parts, size)) (omega (arith, parts, size)) later in
    rw (append_assoc, one, more) refl

pub event_both : (bytes : List ℕ) (p : ℕ) → IsBytes bytes → (file_of bytes ≡ Err (faults.Event p)) ↔ IsEventFault bytes p
event_both bytes p fits = (
  λ e. elim (file_stop bytes (faults.Event p) fits e) [
    | inl h ↦ absurd h
    | inr s ↦
        let b = event_wrong (scope_of s.h) s.mid p s.low s.fits s.reads in
        let place : length (FrontOf s.h s.es) ≡ p = omega (arith, s.stop, s.at) in
        record {
          h = s.h;
          es = s.es;
          before = FrontOf s.h s.es;
          start = b.start;
          after = b.after;
          parts = s.is ∙ ap (λ (t : List ℕ). FrontOf s.h s.es ++ t) b.parts;
          place = place;
          front = record { text = refl; header = s.header; each = s.each };
          wrong = b.wrong;
          low = omega (arith, b.low, s.stop);
        }
  ],
  λ w.
      let place : length (FrontOf w.h w.es) ≡ p = ap length (sym w.front.text) ∙ w.place in
      let whole : bytes ≡ FrontOf w.h w.es ++ (w.start ++ w.after) = w.parts ∙ ap (λ (t : List ℕ). t ++ (w.start ++ w.after)) w.front.text in
      let reads = event_fails (scope_of w.h) (length (FrontOf w.h w.es)) w.start w.after w.wrong (omega (arith, w.low, place)) in
      ap file_of whole
      ∙ (file_fails w.h w.es (w.start ++ w.after) (faults.Event (length (FrontOf w.h w.es))) w.front.header w.front.each (omega (arith, w.low, place)) reads
      ∙ ap (λ (q : ℕ). Err (faults.Event q)) place),
)

-- ---- behind the end mark

end_fails : (at : ℕ) (tail : List ℕ) → 0 < length tail → at < limit → end_at (record { at = at; rest = tail }) ≡ Err (faults.Trailing at)
unfolding end_at
end_fails at [] some low = absurd (omega arith)
end_fails at (b ∷ tail) some low = rw (lt-ltb at limit low) refl

mark_fails : (scope : Scope) (at : ℕ) (tail : List ℕ) → 0 < length tail → at + 1 < limit → event_at scope (record { at = at; rest = 0 ∷ tail }) ≡ Err (faults.Trailing (at + 1))
mark_fails scope at tail some low = first_byte scope at 0 tail (omega (arith, low)) ∙ rw (end_fails (at + 1) tail some low) refl

pub trailing_both : (bytes : List ℕ) (p : ℕ) → IsBytes bytes → (file_of bytes ≡ Err (faults.Trailing p)) ↔ IsTrailingFault bytes p
trailing_both bytes p fits = (
  λ e. trailing_at_place bytes p fits e,
  λ w.
      let h = w.2 in
      let es = w.3 in
      let file = w.4 in
      let tail = drop p bytes in
      let text = header_text h in
      let events = flat_map event_text (reverse es) in
      let whole : bytes ≡ FrontOf h es ++ (0 ∷ tail) =
      sym (take-append-drop p bytes) ∙ ap (λ (t : List ℕ). t ++ tail) file.text ∙ sym (marked text events tail) in
      let long : length (FileOf h es) ≡ p = ap length (sym file.text) ∙ omega (arith, length-take p bytes, w.0) in
      let place : length (FrontOf h es) + 1 ≡ p =
      omega (arith, long, length-append text events, length-append text (events ++ 0 ∷ []), length-append events (0 ∷ [])) in
      let some : 0 < length tail = omega (arith, length-drop p bytes, w.0) in
      let reads = mark_fails (scope_of h) (length (FrontOf h es)) tail some (omega (arith, place, w.1)) in
      ap file_of whole
      ∙ (file_fails h es (0 ∷ tail) (faults.Trailing (length (FrontOf h es) + 1)) file.header file.each (omega (arith, place, w.1)) reads
      ∙ ap (λ (q : ℕ). Err (faults.Trailing q)) place),
)

-- ---- where the bytes end

one_answer : {X : Type 0} (r : Result X FileFault) (f g : FileFault) → r ≡ Err f → r ≡ Err g → f ≡ g
one_answer r f g a b = err_is f g (sym a ∙ b)

no_answer : {X : Type 0} (r : Result X FileFault) (x : X) (f : FileFault) → r ≡ Ok x → r ≡ Err f → ⊥
no_answer r x f a b = let both = sym a ∙ b in cc

-- the bytes are cut, or too many
abbrev is_end : FileFault → Bool
is_end (faults.Truncated p) = true
is_end faults.TooLong = true
is_end _ = false

differs : {X : Type 0} (r : Result X FileFault) (f g : FileFault) → is_end f ≡ true → is_end g ≡ false → r ≡ Err f → r ≡ Err g → ⊥
differs r f g ends goes a b = let both : true ≡ false = sym ends ∙ (ap is_end (one_answer r f g a b) ∙ goes) in cc

goes_on : (bytes : List ℕ) (f : FileFault) → IsBytes bytes → is_end f ≡ true → file_of bytes ≡ Err f → IsUnfinished bytes
goes_on bytes f fits end e = record {
  magic_right = λ w. differs (file_of bytes) f faults.Magic end refl e ((magic_both bytes fits).1 w);
  version_right = λ w. differs (file_of bytes) f faults.Version end refl e ((version_both bytes fits).1 w);
  header_right = λ p w. differs (file_of bytes) f (faults.Header p) end refl e ((header_both bytes p fits).1 w);
  events_right = λ p w. differs (file_of bytes) f (faults.Event p) end refl e ((event_both bytes p fits).1 w);
  not_past_the_end = λ p w. differs (file_of bytes) f (faults.Trailing p) end refl e ((trailing_both bytes p fits).1 w);
  not_whole = λ h es w. no_answer (file_of bytes) (h, es) f (ap file_of w.text ∙ file_again h es w.header w.each (rw w.text at w.size)) e;
}

ends : (bytes : List ℕ) (r : Result (Heading × List Event) FileFault) → IsBytes bytes → IsUnfinished bytes → file_of bytes ≡ r
    → ((p : ℕ) × (file_of bytes ≡ Err (faults.Truncated p))) ⊎ (file_of bytes ≡ Err faults.TooLong)
ends bytes (Ok x) fits goes e = absurd (goes.not_whole x.0 x.1 (file_takes bytes x.0 x.1 fits e))
ends bytes (Err faults.Magic) fits goes e = absurd (goes.magic_right ((magic_both bytes fits).0 e))
ends bytes (Err faults.Version) fits goes e = absurd (goes.version_right ((version_both bytes fits).0 e))
ends bytes (Err (faults.Header p)) fits goes e = absurd (goes.header_right p ((header_both bytes p fits).0 e))
ends bytes (Err (faults.Event p)) fits goes e = absurd (goes.events_right p ((event_both bytes p fits).0 e))
ends bytes (Err (faults.Trailing p)) fits goes e = absurd (goes.not_past_the_end p ((trailing_both bytes p fits).0 e))
ends bytes (Err (faults.Truncated p)) fits goes e = inl (p, e)
ends bytes (Err faults.TooLong) fits goes e = inr e
ends bytes (Err faults.Read) fits goes e = absurd (let own = own_fault bytes faults.Read fits e in cc)
ends bytes (Err faults.Mem) fits goes e = absurd (let own = own_fault bytes faults.Mem fits e in cc)

pub truncated_both : (bytes : List ℕ) (p : ℕ) → IsBytes bytes → (file_of bytes ≡ Err (faults.Truncated p)) ↔ IsTruncated bytes p
truncated_both bytes p fits = (
  λ e.
      let place = cut_at bytes p fits e in
      (place.0, omega (arith, place.0, place.1), goes_on bytes (faults.Truncated p) fits refl e),
  λ w. elim (ends bytes (file_of bytes) fits w.2 refl) [
    | inl x ↦
        let same : x.0 ≡ p = omega (arith, (cut_at bytes x.0 fits x.1).0, w.0) in
        x.1 ∙ ap (λ (q : ℕ). Err (faults.Truncated q)) same
    | inr e ↦ absurd (omega (arith, too_long bytes fits e, w.1))
  ],
)

pub too_long_both : (bytes : List ℕ) → IsBytes bytes → (file_of bytes ≡ Err faults.TooLong) ↔ IsTooLong bytes
too_long_both bytes fits = (
  λ e. (too_long bytes fits e, goes_on bytes faults.TooLong fits refl e),
  λ w. elim (ends bytes (file_of bytes) fits w.1 refl) [
    | inl x ↦ let place = cut_at bytes x.0 fits x.1 in absurd (omega (arith, place.0, place.1, w.0))
    | inr e ↦ e
  ],
)
