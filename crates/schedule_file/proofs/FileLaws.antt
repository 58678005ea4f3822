-- What is read as a file is spelled so, and what is spelled so is read.
use Rattle.std.proofs.Common.{◌≡◌, ℕ, zero, suc, ◌+◌, ◌≤◌, ◌<◌, ◌⊎◌, Bool, true, false, cond, List, [], ◌∷◌, ◌++◌, length, reverse, Option, Some, None, Result, Ok, Err, refl, sym, ap, subst, ◌∙◌, append_assoc, arith, inl, inr, length-append}
use Rattle.std.specs.Prelude.{◌==◌}
use Rattle.std.specs.List.{flat_map, AllByRecursion}
use Rattle.std.proofs.lemmas.Bool.{eqb-true}
use Rattle.std.proofs.lemmas.List.{reverse-reverse}
use Rattle.std.proofs.lemmas.List.Concat.{flat_map-cons}
use Rattle.ritas_base.specs.declared.event.Event.{Event}
use Rattle.ritas_base.specs.declared.event.Event.TheVariants.{Frame, Input, Turn, Pass, Sealed}
use Rattle.schedule_file.specs.declared.fault.FileFault.{FileFault}
use Rattle.schedule_file.specs.declared.fault.FileFault.TheVariants as faults
use Rattle.schedule_file.specs.declared.scope.Scope.{Scope}
use Rattle.ritas_base.specs.Bytes.{IsBytes}
use Rattle.schedule_file.specs.Reading.{◌>>=◌, Spot, text_start}
use Rattle.schedule_file.specs.FileBytes.{limit, byte_at, end_from, end_at}
use Rattle.schedule_file.specs.ReadHeader.{Heading, header_at}
use Rattle.schedule_file.specs.ReadEvents.{kind_at, some_event, no_event, event_of, event_at, events_then, events_at}
use Rattle.schedule_file.specs.Schedule.{file_of}
use Rattle.schedule_file.specs.Spelling.{header_text, event_text, FileOf, IsEvent, IsHeading, IsFile}
use Rattle.schedule_file.specs.Scopes.{scope_of, IsInScope}
use Rattle.schedule_file.specs.SpellingLaws.{of_scope}
use Rattle.schedule_file.proofs.Spells.{back_fits, Took, Reads, bind_ok, took_both, ok_is}
use Rattle.schedule_file.proofs.FileSpells.{byte_spells}
use Rattle.schedule_file.proofs.HeaderSpells.{header_spells}
use Rattle.schedule_file.proofs.EventSpells.{kind_of, body_of, text_is, IsBody, kind_spells}

-- ---- one event

-- what is there where an event, or the end, is read
abbrev pub IsThere : Scope → Spot → Option Event → Spot → Type 0
IsThere scope s None next = (s.rest ≡ 0 ∷ []) × (s.at + 1 ≤ limit)
IsThere scope s (Some e) next = Took limit s (event_text e) next × IsInScope scope e

chosen : {A F : Type 0} (b : Bool) (x y : Result A F) (z : A) → cond b x y ≡ Ok z → ((b ≡ true) × (x ≡ Ok z)) ⊎ ((b ≡ false) × (y ≡ Ok z))
chosen true x y z e = inl (refl, e)
chosen false x y z e = inr (refl, e)

no_choice : {A : Type 0} (t : Bool) (f g : FileFault) (x : A) → cond t (Err f) (Err g) ≡ Ok x → ⊥
no_choice true f g x e = cc
no_choice false f g x e = cc

end_there : (at : ℕ) (bytes : List ℕ) (x : Unit {0} × Spot) → end_from at bytes ≡ Ok x → bytes ≡ []
end_there at [] x e = refl
end_there at (b ∷ bytes) x e = absurd (no_choice _ (faults.Trailing at) faults.TooLong x e)

none_there : (scope : Scope) (s mid : Spot) (kind : ℕ) → s.at ≤ limit → Took limit s (kind ∷ []) mid → kind ≡ 0 → mid.rest ≡ [] → (next : Spot) → IsThere scope s None next
none_there scope s mid kind low took zero-kind ended next = (took.bytes ∙ rw (zero-kind, ended) refl, omega (arith, took.at, took.below low))

some_there : (scope : Scope) (s mid next : Spot) (kind : ℕ) (e : Event) → Took limit s (kind ∷ []) mid → Reads limit (IsBody scope kind) mid e next → IsThere scope s (Some e) next
some_there scope s mid next kind e took r =
    let whole = took_both limit s mid next (kind ∷ []) r.text took r.took in
    let text : kind ∷ r.text ≡ event_text e = rw (text_is e, r.is.is_kind, r.is.is_text) refl in
    (subst (λ (t : List ℕ). Took limit s t next) text whole, r.is.is_event)

of_there : (scope : Scope) (p : ℕ) (s mid : Spot) (kind : ℕ) (o : Option Event) (next : Spot) → s.at ≤ limit → IsBytes mid.rest → Took limit s (kind ∷ []) mid → event_of scope p kind mid ≡ Ok (o, next) → IsThere scope s o next
unfolding end_at
of_there scope p s mid kind o next low fits took e =
    elim (chosen (kind == 0) (end_at mid >>= λ x. Ok (no_event x)) (kind_at scope p kind mid >>= λ x. Ok (some_event x)) (o, next) e) [
      | inl h ↦
          let cut = bind_ok (end_at mid) (λ x. Ok (no_event x)) (o, next) h.1 in
          subst (λ (y : Option Event × Spot). IsThere scope s y.0 y.1) (ok_is {F = FileFault} (no_event cut.0) (o, next) cut.2) (none_there scope s mid kind low took (eqb-true _ _ h.0) (end_there mid.at mid.rest cut.0 cut.1) cut.0.1)
      | inr h ↦
          let cut = bind_ok (kind_at scope p kind mid) (λ x. Ok (some_event x)) (o, next) h.1 in
          subst (λ (y : Option Event × Spot). IsThere scope s y.0 y.1) (ok_is {F = FileFault} (some_event cut.0) (o, next) cut.2) (some_there scope s mid cut.0.1 kind cut.0.0 took ((kind_spells scope p kind).takes mid cut.0.0 cut.0.1 fits cut.1))
    ]

pub event_there : (scope : Scope) (s : Spot) (o : Option Event) (next : Spot) → s.at ≤ limit → IsBytes s.rest → event_at scope s ≡ Ok (o, next) → IsThere scope s o next
unfolding event_at
event_there scope s o next low fits e =
    let cut = bind_ok (byte_at s) (λ kind. event_of scope s.at kind.0 kind.1) (o, next) e in
    let one = byte_spells.takes s cut.0.0 cut.0.1 fits cut.1 in
    of_there scope s.at s cut.0.1 cut.0.0 o next low (back_fits s.rest one.text cut.0.1.rest fits one.took.bytes) (subst (λ (t : List ℕ). Took limit s t cut.0.1) one.is one.took) cut.2

some_kind : (e : Event) → (kind_of e == 0) ≡ false
some_kind (Frame to bytes) = refl
some_kind (Input at bytes) = refl
some_kind (Turn at) = refl
some_kind (Pass from to m) = refl
some_kind (Sealed from to body) = refl

pub event_again : (scope : Scope) (at : ℕ) (e : Event) (rest : List ℕ) → IsInScope scope e → at + length (event_text e) ≤ limit → event_at scope (record { at = at; rest = event_text e ++ rest }) ≡ Ok (Some e, record { at = at + length (event_text e); rest = rest })
unfolding event_at
event_again scope at e rest is le =
    let kind = kind_of e in
    let body = body_of e in
    let long : length (event_text e) ≡ suc (length body) = ap length (text_is e) in
    let one = byte_spells.again at kind (kind ∷ []) (body ++ rest) refl (omega (arith, le, long)) in
    let two = (kind_spells scope at kind).again (at + 1) e body rest (record { is_kind = refl; is_text = refl; is_event = is }) (omega (arith, le, long)) in
    let place : (at + 1) + length body ≡ at + length (event_text e) = omega (arith, long) in
    let text : event_text e ++ rest ≡ kind ∷ [] ++ (body ++ rest) = ap (λ (t : List ℕ). t ++ rest) (text_is e) in
    ap (λ (t : List ℕ). event_at scope (record { at = at; rest = t })) text ∙ rw (one, some_kind e, two, place) refl

end_again : (scope : Scope) (at : ℕ) → at + 1 ≤ limit → event_at scope (record { at = at; rest = 0 ∷ [] }) ≡ Ok (None, record { at = at + 1; rest = [] })
unfolding event_at end_at
end_again scope at le =
    let one = byte_spells.again at 0 (0 ∷ []) [] refl le in
    rw one refl

-- ---- all events

pub event_some : (e : Event) → 1 ≤ length (event_text e)
event_some e = omega (arith, ap length (text_is e))

record AreThere (scope : Scope) (s : Spot) (es : List Event) : Type 0 where
  pub bytes : s.rest ≡ flat_map event_text es ++ 0 ∷ []
  pub each : AllByRecursion (IsInScope scope) es
  pub below : s.at + length s.rest ≤ limit

grouped : (e : Event) (es : List Event) → flat_map event_text (e ∷ es) ++ 0 ∷ [] ≡ event_text e ++ (flat_map event_text es ++ 0 ∷ [])
grouped e es = rw flat_map-cons (append_assoc (event_text e) (flat_map event_text es) (0 ∷ []))

rest_take : (k : ℕ) (scope : Scope) (s : Spot) (o : Option Event) (next : Spot) (es : List Event)
    → ((t : Spot) (xs : List Event) → t.at ≤ limit → IsBytes t.rest → events_at k scope t ≡ Ok xs → AreThere scope t xs)
    → s.at ≤ limit → IsBytes s.rest → IsThere scope s o next → events_then o (events_at k scope next) ≡ Ok es → AreThere scope s es
rest_take k scope s None next es ih low fits there e =
    subst (λ (x : List Event). AreThere scope s x) (ok_is {F = FileFault} [] es e) (record { bytes = there.0; each = tt; below = rw there.0 there.1 })
rest_take k scope s (Some x) next es ih low fits there e =
    let cut = bind_ok (events_at k scope next) (λ more. Ok (x ∷ more)) es e in
    let more = ih next cut.0 (there.0.below low) (back_fits s.rest (event_text x) next.rest fits there.0.bytes) cut.1 in
    subst (λ (y : List Event). AreThere scope s y) (ok_is {F = FileFault} (x ∷ cut.0) es cut.2) (record {
      bytes = there.0.bytes ∙ ap (λ (t : List ℕ). event_text x ++ t) more.bytes ∙ sym (grouped x cut.0);
      each = (there.1, more.each);
      below = omega (arith, there.0.at, more.below, ap length there.0.bytes, length-append (event_text x) next.rest);
    })

events_take : (k : ℕ) (scope : Scope) (s : Spot) (es : List Event) → s.at ≤ limit → IsBytes s.rest → events_at k scope s ≡ Ok es → AreThere scope s es
unfolding events_at
events_take zero scope s es low fits e = absurd cc
events_take (suc k) scope s es low fits e =
    let cut = bind_ok (event_at scope s) (λ event. events_then event.0 (events_at k scope event.1)) es e in
    rest_take k scope s cut.0.0 cut.0.1 es (events_take k scope) low fits (event_there scope s cut.0.0 cut.0.1 low fits cut.1) cut.2

events_again : (k : ℕ) (scope : Scope) (at : ℕ) (es : List Event) → AllByRecursion (IsInScope scope) es → length es < k → at + length (flat_map event_text es ++ 0 ∷ []) ≤ limit → events_at k scope (record { at = at; rest = flat_map event_text es ++ 0 ∷ [] }) ≡ Ok es
unfolding events_at
events_again zero scope at es each long le = absurd (omega arith)
events_again (suc k) scope at [] each long le = rw (end_again scope at le) refl
events_again (suc k) scope at (e ∷ es) each long le =
    let size = ap length (grouped e es) in
    let parts = length-append (event_text e) (flat_map event_text es ++ 0 ∷ []) in
    let one = event_again scope at e (flat_map event_text es ++ 0 ∷ []) each.0 (omega arith) in
    let more = events_again k scope (at + length (event_text e)) es each.1 (omega arith) (omega arith) in
    ap (λ (t : List ℕ). events_at (suc k) scope (record { at = at; rest = t })) (grouped e es) ∙ rw (one, more) refl

pub no_more : (es : List Event) → length es ≤ length (flat_map event_text es)
no_more [] = omega arith
no_more (e ∷ es) = rw flat_map-cons (omega (arith, length-append (event_text e) (flat_map event_text es), ap length (text_is e), no_more es))

-- ---- the file

all_by : {X : Type 0} (P Q : X → Type 0) → ((x : X) → P x → Q x) → (xs : List X) → AllByRecursion P xs → AllByRecursion Q xs
all_by P Q to [] all = tt
all_by P Q to (x ∷ xs) all = (to x all.0, all_by P Q to xs all.1)

-- events of a header's scope are those that may stand behind it
pub behind_header : (h : Heading) (es : List Event) → AllByRecursion (IsInScope (scope_of h)) es → AllByRecursion (IsEvent h) es
behind_header h es each = all_by (IsInScope (scope_of h)) (IsEvent h) (λ e. (of_scope h e).0) es each

pub in_scope : (h : Heading) (es : List Event) → AllByRecursion (IsEvent h) es → AllByRecursion (IsInScope (scope_of h)) es
in_scope h es each = all_by (IsEvent h) (IsInScope (scope_of h)) (λ e. (of_scope h e).1) es each

pub file_takes : (bytes : List ℕ) (h : Heading) (es : List Event) → IsBytes bytes → file_of bytes ≡ Ok (h, es) → IsFile bytes h es
unfolding file_of
file_takes bytes h es fits e =
    let cut = bind_ok (header_at (text_start bytes)) (λ header. events_at (limit + 1) (scope_of header.0) header.1 >>= λ events. Ok (header.0, reverse events)) (h, es) e in
    let cut2 = bind_ok (events_at (limit + 1) (scope_of cut.0.0) cut.0.1) (λ events. Ok (cut.0.0, reverse events)) (h, es) cut.2 in
    let head = header_spells.takes (text_start bytes) cut.0.0 cut.0.1 fits cut.1 in
    let more = events_take (limit + 1) (scope_of cut.0.0) cut.0.1 cut2.0 (head.took.below (omega arith)) (back_fits bytes head.text cut.0.1.rest fits head.took.bytes) cut2.1 in
    let back = reverse-reverse cut2.0 in
    let made : IsFile bytes cut.0.0 (reverse cut2.0) = record {
      text = head.took.bytes ∙ rw (head.is.0, more.bytes, back) refl;
      header = head.is.1;
      each = rw back (behind_header cut.0.0 cut2.0 more.each);
      size = omega (arith, head.took.at, more.below, ap length head.took.bytes, length-append head.text cut.0.1.rest);
    } in
    subst (λ (x : Heading × List Event). IsFile bytes x.0 x.1) (ok_is {F = FileFault} (cut.0.0, reverse cut2.0) (h, es) cut2.2) made

pub file_again : (h : Heading) (es : List Event) → IsHeading h → AllByRecursion (IsEvent h) (reverse es) → length (FileOf h es) ≤ limit → file_of (FileOf h es) ≡ Ok (h, es)
unfolding file_of
file_again h es is each size =
    let events = reverse es in
    let parts = length-append (header_text h) (flat_map event_text events ++ 0 ∷ []) in
    let parts2 = length-append (flat_map event_text events) (0 ∷ []) in
    let one = header_spells.again 0 h (header_text h) (flat_map event_text events ++ 0 ∷ []) (refl, is) (omega arith) in
    let more = events_again (limit + 1) (scope_of h) (0 + length (header_text h)) events (in_scope h events each) (omega (arith, no_more events)) (omega arith) in
    rw (one, more, reverse-reverse) refl
