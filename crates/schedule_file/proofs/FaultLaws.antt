-- Where the fault of a file is.
use Rattle.std.proofs.Common.{◌≡◌, ℕ, zero, suc, ◌+◌, ◌≤◌, ◌<◌, ◌⊎◌, Bool, true, false, cond, List, [], ◌∷◌, ◌++◌, length, take, reverse, Option, Some, None, Result, Ok, Err, refl, sym, ap, subst, ◌∙◌, append_assoc, arith, inl, inr, length-append}
use Rattle.std.specs.Prelude.{◌==◌, nat_lt}
use Rattle.std.specs.List.{flat_map, AllByRecursion}
use Rattle.std.proofs.lemmas.Bool.{eqb-true, ltb-true, ltb-false}
use Rattle.std.proofs.lemmas.List.{reverse-reverse, take_at}
use Rattle.std.proofs.lemmas.List.Concat.{flat_map-cons}
use Rattle.ritas_base.specs.declared.event.Event.{Event}
use Rattle.schedule_file.specs.declared.fault.FileFault.{FileFault}
use Rattle.schedule_file.specs.declared.fault.FileFault.TheVariants as faults
use Rattle.schedule_file.specs.declared.scope.Scope.{Scope}
use Rattle.ritas_base.specs.Bytes.{IsBytes}
use Rattle.schedule_file.specs.Reading.{◌>>=◌, Spot, text_start}
use Rattle.schedule_file.specs.FileBytes.{limit, is_outside, byte_at, end_from, end_at}
use Rattle.schedule_file.specs.ReadHeader.{Heading, header_at}
use Rattle.schedule_file.specs.Scopes.{scope_of, IsInScope}
use Rattle.schedule_file.specs.ReadEvents.{kind_at, some_event, no_event, event_of, event_at, events_then, events_at}
use Rattle.schedule_file.specs.Schedule.{file_of}
use Rattle.schedule_file.specs.Spelling.{header_text, event_text, FileOf, FrontOf, IsEvent, IsHeading}
use Rattle.schedule_file.specs.Faults.{IsTrailingFault}
use Rattle.schedule_file.proofs.Spells.{back_fits, Took}
use Rattle.schedule_file.proofs.FileSpells.{byte_spells}
use Rattle.schedule_file.proofs.HeaderSpells.{header_spells}
use Rattle.schedule_file.proofs.FaultPlaces.{Named, Names, bind_err, err_is, moved, byte_names, IsOfHeader, header_names, IsOfEvent, kind_names}
use Rattle.schedule_file.proofs.FileLaws.{IsThere, event_there, event_some, behind_header}

-- ---- one event

-- an end mark is there, and bytes behind it
pub record AfterEnd (s : Spot) (p : ℕ) : Type 0 where
  pub tail : List ℕ
  pub is : s.rest ≡ 0 ∷ tail
  pub some : 0 < length tail
  pub at : p ≡ s.at + 1
  pub low : p < limit

abbrev pub IsStop : Spot → FileFault → Type 0
IsStop s (faults.Trailing p) = AfterEnd s p
IsStop s f = Named (IsOfEvent s.at) s f

stop_of : (s : Spot) (f : FileFault) → Named (IsOfEvent s.at) s f → IsStop s f
stop_of s faults.Magic h = h
stop_of s faults.Version h = h
stop_of s (faults.Header k) h = h
stop_of s (faults.Event p) h = h
stop_of s (faults.Truncated p) h = h
stop_of s (faults.Trailing p) h = absurd h
stop_of s faults.TooLong h = h
stop_of s faults.Read h = h
stop_of s faults.Mem h = h

mark_stop : (s : Spot) (at b : ℕ) (rest : List ℕ) (t : Bool) (f : FileFault) → s.rest ≡ 0 ∷ b ∷ rest → at ≡ s.at + 1 → nat_lt at limit ≡ t
    → (let r : Result (Unit {0} × Spot) FileFault = cond t (Err (faults.Trailing at)) (Err faults.TooLong) in r) ≡ Err f → IsStop s f
mark_stop s at b rest true f is place test e =
    let made : AfterEnd s at = record { tail = b ∷ rest; is = is; some = omega arith; at = place; low = ltb-true at limit test } in
    subst (λ (x : FileFault). IsStop s x) (err_is (faults.Trailing at) f e) made
mark_stop s at b rest false f is place test e =
    let past : limit ≤ at = ltb-false at limit test in
    let made : limit < s.at + length s.rest = omega (arith, past, place, ap length is) in
    subst (λ (x : FileFault). IsStop s x) (err_is faults.TooLong f e) made

end_stop : (s : Spot) (at : ℕ) (bytes : List ℕ) (f : FileFault) → s.rest ≡ 0 ∷ bytes → at ≡ s.at + 1 → end_from at bytes ≡ Err f → IsStop s f
end_stop s at [] f is place e = absurd cc
end_stop s at (b ∷ rest) f is place e = mark_stop s at b rest (nat_lt at limit) f is place refl e

of_stop : (scope : Scope) (s mid : Spot) (kind : ℕ) (t : Bool) (f : FileFault) → s.at ≤ limit → IsBytes mid.rest → Took limit s (kind ∷ []) mid → (kind == 0) ≡ t
    → (let r : Result (Option Event × Spot) FileFault = cond t (end_at mid >>= λ x. Ok (no_event x)) (kind_at scope s.at kind mid >>= λ x. Ok (some_event x)) in r) ≡ Err f → IsStop s f
unfolding end_at
of_stop scope s mid kind true f low fits took is e =
    elim (bind_err (end_at mid) (λ x. Ok (no_event x)) f e) [
      | inl h ↦
          let mark : kind ≡ 0 = eqb-true _ _ is in
          end_stop s mid.at mid.rest f (took.bytes ∙ ap (λ (k : ℕ). k ∷ mid.rest) mark) took.at h
      | inr h ↦ absurd (let no = h.2 in cc)
    ]
of_stop scope s mid kind false f low fits took is e =
    elim (bind_err (kind_at scope s.at kind mid) (λ x. Ok (some_event x)) f e) [
      | inl h ↦ stop_of s f (moved (IsOfEvent s.at) s mid (kind ∷ []) f took ((kind_names scope s.at kind).names mid f (took.below low) fits h))
      | inr h ↦ absurd (let no = h.2 in cc)
    ]

event_stop : (scope : Scope) (s : Spot) (f : FileFault) → s.at ≤ limit → IsBytes s.rest → event_at scope s ≡ Err f → IsStop s f
unfolding event_at
event_stop scope s f low fits e =
    elim (bind_err (byte_at s) (λ kind. event_of scope s.at kind.0 kind.1) f e) [
      | inl h ↦ stop_of s f (let read : Names (IsOfEvent s.at) byte_at = byte_names in read.names s f low fits h)
      | inr h ↦
          let one = byte_spells.takes s h.0.0 h.0.1 fits h.1 in
          of_stop scope s h.0.1 h.0.0 (h.0.0 == 0) f low (back_fits s.rest one.text h.0.1.rest fits one.took.bytes) (subst (λ (t : List ℕ). Took limit s t h.0.1) one.is one.took) refl h.2
    ]

-- ---- all events

-- events were read, and then a fault was met
pub record StopsAt (scope : Scope) (s : Spot) (f : FileFault) : Type 0 where
  pub es : List Event
  pub mid : Spot
  pub bytes : s.rest ≡ flat_map event_text es ++ mid.rest
  pub each : AllByRecursion (IsInScope scope) es
  pub at : mid.at ≡ s.at + length (flat_map event_text es)
  pub stop : IsStop mid f
  pub reads : event_at scope mid ≡ Err f
  pub fits : IsBytes mid.rest
  pub low : mid.at ≤ limit

stops_then : (k : ℕ) (scope : Scope) (s next : Spot) (o : Option Event) (f : FileFault)
    → ((t : Spot) → limit < k + t.at → t.at ≤ limit → IsBytes t.rest → events_at k scope t ≡ Err f → StopsAt scope t f)
    → limit < suc k + s.at → s.at ≤ limit → IsBytes s.rest → IsThere scope s o next → events_then o (events_at k scope next) ≡ Err f → StopsAt scope s f
stops_then k scope s next None f ih fuel low fits there e = absurd cc
stops_then k scope s next (Some x) f ih fuel low fits there e =
    let some : 1 ≤ length (event_text x) = event_some x in
    elim (bind_err (events_at k scope next) (λ es. Ok (x ∷ es)) f e) [
      | inl h ↦
          let more = ih next (omega (arith, there.0.at, some)) (there.0.below low) (back_fits s.rest (event_text x) next.rest fits there.0.bytes) h in
          record {
            es = x ∷ more.es;
            mid = more.mid;
            bytes = there.0.bytes ∙ ap (λ (t : List ℕ). event_text x ++ t) more.bytes ∙ rw flat_map-cons (sym (append_assoc (event_text x) (flat_map event_text more.es) more.mid.rest));
            each = (there.1, more.each);
            at = rw flat_map-cons (omega (arith, more.at, there.0.at, length-append (event_text x) (flat_map event_text more.es)));
            stop = more.stop;
            reads = more.reads;
            fits = more.fits;
            low = more.low;
          }
      | inr h ↦ absurd (let no = h.2 in cc)
    ]

pub events_stop : (k : ℕ) (scope : Scope) (s : Spot) (f : FileFault) → limit < k + s.at → s.at ≤ limit → IsBytes s.rest → events_at k scope s ≡ Err f → StopsAt scope s f
unfolding events_at
events_stop zero scope s f fuel low fits e = absurd (omega arith)
events_stop (suc k) scope s f fuel low fits e =
    elim (bind_err (event_at scope s) (λ event. events_then event.0 (events_at k scope event.1)) f e) [
      | inl h ↦ record { es = []; mid = s; bytes = refl; each = tt; at = omega arith; stop = event_stop scope s f low fits h; reads = h; fits = fits; low = low }
      | inr h ↦ stops_then k scope s h.0.1 h.0.0 f (λ t. events_stop k scope t f) fuel low fits (event_there scope s h.0.0 h.0.1 low fits h.1) h.2
    ]

-- ---- the file

joined : (bytes text rest head events mid : List ℕ) → bytes ≡ text ++ rest → text ≡ head → rest ≡ events ++ mid → bytes ≡ (head ++ events) ++ mid
joined bytes text rest head events mid p q r = p ∙ rw (q, r) (sym (append_assoc head events mid))

pub marked : (head events tail : List ℕ) → (head ++ events) ++ (0 ∷ tail) ≡ (head ++ (events ++ 0 ∷ [])) ++ tail
marked head events tail = simp append_assoc

-- a header and events were read, and then a fault was met
pub record FileStop (bytes : List ℕ) (f : FileFault) : Type 0 where
  pub h : Heading
  pub es : List Event
  pub mid : Spot
  pub is : bytes ≡ FrontOf h es ++ mid.rest
  pub header : IsHeading h
  pub each : AllByRecursion (IsEvent h) (reverse es)
  pub at : mid.at ≡ length (FrontOf h es)
  pub stop : IsStop mid f
  pub reads : event_at (scope_of h) mid ≡ Err f
  pub fits : IsBytes mid.rest
  pub low : mid.at ≤ limit

pub file_stop : (bytes : List ℕ) (f : FileFault) → IsBytes bytes → file_of bytes ≡ Err f → Named IsOfHeader (text_start bytes) f ⊎ FileStop bytes f
unfolding file_of
file_stop bytes f fits e =
    elim (bind_err (header_at (text_start bytes)) (λ header. events_at (limit + 1) (scope_of header.0) header.1 >>= λ events. Ok (header.0, reverse events)) f e) [
      | inl h ↦ inl (header_names.names (text_start bytes) f (omega arith) fits h)
      | inr h ↦ elim (bind_err (events_at (limit + 1) (scope_of h.0.0) h.0.1) (λ events. Ok (h.0.0, reverse events)) f h.2) [
        | inl k ↦
            let head = header_spells.takes (text_start bytes) h.0.0 h.0.1 fits h.1 in
            let more = events_stop (limit + 1) (scope_of h.0.0) h.0.1 f (omega arith) (head.took.below (omega arith)) (back_fits bytes head.text h.0.1.rest fits head.took.bytes) k in
            let back = reverse-reverse more.es in
            inr (record {
              h = h.0.0;
              es = reverse more.es;
              mid = more.mid;
              is = joined bytes head.text h.0.1.rest (header_text h.0.0) (flat_map event_text (reverse (reverse more.es))) more.mid.rest head.took.bytes head.is.0 (more.bytes ∙ ap (λ (l : List Event). flat_map event_text l ++ more.mid.rest) (sym back));
              header = head.is.1;
              each = rw back (behind_header h.0.0 more.es more.each);
              at = rw back (omega (arith, more.at, head.took.at, ap length head.is.0, length-append (header_text h.0.0) (flat_map event_text more.es)));
              stop = more.stop;
              reads = more.reads;
              fits = more.fits;
              low = more.low;
            })
        | inr k ↦ absurd (let no = k.2 in cc)
      ]
    ]

whole_length : (bytes : List ℕ) (f : FileFault) (s : FileStop bytes f) → length bytes ≡ s.mid.at + length s.mid.rest
whole_length bytes f s = ap length s.is ∙ omega (arith, s.at, length-append (FrontOf s.h s.es) s.mid.rest)

pub cut_at : (bytes : List ℕ) (p : ℕ) → IsBytes bytes → file_of bytes ≡ Err (faults.Truncated p) → (p ≡ length bytes) × (p ≤ limit)
cut_at bytes p fits e =
    elim (file_stop bytes (faults.Truncated p) fits e) [
      | inl h ↦ (omega (arith, h.0), h.1)
      | inr s ↦ (omega (arith, s.stop.0, whole_length bytes (faults.Truncated p) s), s.stop.1)
    ]

pub too_long : (bytes : List ℕ) → IsBytes bytes → file_of bytes ≡ Err faults.TooLong → limit < length bytes
too_long bytes fits e =
    elim (file_stop bytes faults.TooLong fits e) [
      | inl h ↦ omega (arith, h)
      | inr s ↦ omega (arith, s.stop, whole_length bytes faults.TooLong s)
    ]

pub trailing_at_place : (bytes : List ℕ) (p : ℕ) → IsBytes bytes → file_of bytes ≡ Err (faults.Trailing p) → IsTrailingFault bytes p
trailing_at_place bytes p fits e =
    elim (file_stop bytes (faults.Trailing p) fits e) [
      | inl h ↦ absurd h
      | inr s ↦
          let tail = s.stop.tail in
          let text = header_text s.h in
          let events = flat_map event_text (reverse s.es) in
          let whole : bytes ≡ FileOf s.h s.es ++ tail = s.is ∙ ap (λ (t : List ℕ). FrontOf s.h s.es ++ t) s.stop.is ∙ marked text events tail in
          let long : length (FileOf s.h s.es) ≡ p = omega (arith, s.stop.at, s.at, length-append text events, length-append text (events ++ 0 ∷ []), length-append events (0 ∷ [])) in
          let front : take p bytes ≡ FileOf s.h s.es = ap (take p) whole ∙ take_at (FileOf s.h s.es) tail p long in (
            omega (arith, ap length whole, length-append (FileOf s.h s.es) tail, long, s.stop.some),
            s.stop.low,
            s.h,
            s.es,
            record { text = front; header = s.header; each = s.each; size = rw front (omega (arith, long, s.stop.low)) },
          )
    ]

pub own_fault : (bytes : List ℕ) (f : FileFault) → IsBytes bytes → file_of bytes ≡ Err f → is_outside f ≡ false
own_fault bytes faults.Magic fits e = refl
own_fault bytes faults.Version fits e = refl
own_fault bytes (faults.Header k) fits e = refl
own_fault bytes (faults.Event p) fits e = refl
own_fault bytes (faults.Truncated p) fits e = refl
own_fault bytes (faults.Trailing p) fits e = refl
own_fault bytes faults.TooLong fits e = refl
own_fault bytes faults.Read fits e = absurd (elim (file_stop bytes faults.Read fits e) [ inl h ↦ h | inr s ↦ s.stop ])
own_fault bytes faults.Mem fits e = absurd (elim (file_stop bytes faults.Mem fits e) [ inl h ↦ h | inr s ↦ s.stop ])
