-- What a file is so far, as its parts are written one after the other.
use Rattle.std.specs.Prelude.{◌≡◌, ◌↔◌, ℕ, zero, suc, ◌+◌, ◌*◌, ◌≤◌, List, [], ◌∷◌, ◌++◌, length, take, reverse, Some, None, refl}
use Rattle.std.specs.List.{concat, flat_map, AllByRecursion}
use Rattle.std.proofs.Common.{sym, ap, ◌∙◌, append_assoc, arith, length-append}
use Rattle.std.proofs.lemmas.List.{append-nil, reverse-append, length-take-le}
use Rattle.std.proofs.lemmas.List.Concat.{flat_map-append}
use Rattle.ritas_base.specs.declared.event.Event.{Event}
use Rattle.ritas_base.specs.declared.event.Event.TheVariants.{Frame, Input, Turn, Pass, Sealed}
use Rattle.schedule_file.specs.declared.header.HeaderKeys.{HeaderKeys}
use Rattle.schedule_file.specs.declared.header.HeaderKeys.TheVariants.{Master, Row}
use Rattle.schedule_file.specs.ReadHeader.{Heading}
use Rattle.schedule_file.specs.Spelling.{IsAlone, MayStand, IsSized, IsEvent, IsKey, AreHeaderKeys, IsHeading, size_with, header_size, keys_text, header_text, event_text, FileOf, FrontOf}
use Rattle.schedule_file.specs.Scopes.{only_of, scope_of, KeepsTo, IsInScope}

-- the texts of events, of which the newest is the last
event_added : (e : Event) (es : List Event) → flat_map event_text (reverse (e ∷ es)) ≡ flat_map event_text (reverse es) ++ event_text e
event_added e es =
    ap (flat_map event_text) (reverse-append (e ∷ []) es) ∙ flat_map-append event_text (reverse es) (e ∷ []) ∙ ap (λ (t : List ℕ). flat_map event_text (reverse es) ++ t) (append-nil (event_text e))

-- before the first event it is the header
pub front_first : (h : Heading) → FrontOf h [] ≡ header_text h
front_first h = append-nil (header_text h)

-- each event adds its text
pub front_next : (h : Heading) (e : Event) (es : List Event) → FrontOf h (e ∷ es) ≡ FrontOf h es ++ event_text e
front_next h e es =
    ap (λ (t : List ℕ). header_text h ++ t) (event_added e es) ∙ sym (append_assoc (header_text h) (flat_map event_text (reverse es)) (event_text e))

-- and the end mark ends it
pub file_ends : (h : Heading) (es : List Event) → FileOf h es ≡ FrontOf h es ++ 0 ∷ []
file_ends h es = sym (append_assoc (header_text h) (flat_map event_text (reverse es)) (0 ∷ []))

pub file_ends_after : (h : Heading) (e : Event) (es : List Event) → FileOf h (e ∷ es) ≡ FrontOf h es ++ event_text e ++ 0 ∷ []
file_ends_after h e es = file_ends h (e ∷ es) ∙ ap (λ (t : List ℕ). t ++ 0 ∷ []) (front_next h e es)

-- ---- how many bytes these are

pub front_next_length : (h : Heading) (e : Event) (es : List Event) → length (FrontOf h (e ∷ es)) ≡ length (FrontOf h es) + length (event_text e)
front_next_length h e es = ap length (front_next h e es) ∙ length-append (FrontOf h es) (event_text e)

pub file_length : (h : Heading) (es : List Event) → length (FileOf h es) ≡ length (FrontOf h es) + 1
file_length h es = ap length (file_ends h es) ∙ length-append (FrontOf h es) (0 ∷ [])

-- a fact of all keys is one of the first of them
pub all_taken : {X : Type 0} (P : X → Type 0) (n : ℕ) (xs : List X) → AllByRecursion P xs → AllByRecursion P (take n xs)
all_taken P zero xs all = tt
all_taken P (suc n) [] all = tt
all_taken P (suc n) (x ∷ xs) all = (all.0, all_taken P n xs all.1)

pub keys_joined : (keys : List (List ℕ)) → AllByRecursion IsKey keys → length (concat keys) ≡ 32 * length keys
keys_joined [] all = refl
keys_joined (key ∷ keys) all = omega (arith, length-append key (concat keys), all.0, keys_joined keys all.1)

keys_length : (n mask : ℕ) (keys : HeaderKeys) → n ≤ 31 → AreHeaderKeys n mask keys → 21 + length (keys_text n keys) ≡ size_with keys n
keys_length n mask (Master master) most are = omega (arith, are)
keys_length n mask (Row me row coin) most are =
    let long : length (take n row) ≡ n = length-take-le n row (omega (arith, are.2.places)) in
    let joined = keys_joined (take n row) (all_taken IsKey n row are.2.each) in
    omega (arith, are.3, long, joined, length-append (concat (take n row)) coin)

pub header_length : (h : Heading) → IsHeading h → length (header_text h) ≡ header_size h
header_length h is = omega (arith, keys_length h.p.n h.correct h.keys is.numbers.most is.keys)

pub front_first_length : (h : Heading) → IsHeading h → length (FrontOf h []) ≡ header_size h
front_first_length h is = ap length (front_first h) ∙ header_length h is

-- ---- which events these may be

kept_to : (me : ℕ) (e : Event) → KeepsTo (Some me) e ↔ IsAlone me e
kept_to me (Frame to bytes) = (λ h. h, λ h. h)
kept_to me (Input at bytes) = (λ h. h, λ h. h)
kept_to me (Turn at) = (λ h. h, λ h. h)
kept_to me (Pass from to m) = (λ h. cc, λ h. absurd h)
kept_to me (Sealed from to body) = (λ h. cc, λ h. absurd h)

kept_free : (e : Event) → KeepsTo None e
kept_free (Frame to bytes) = tt
kept_free (Input at bytes) = tt
kept_free (Turn at) = tt
kept_free (Pass from to m) = refl
kept_free (Sealed from to body) = refl

-- an event that a reader gives is one that may stand behind the header, and the other way round
may_stand : (n : ℕ) (keys : HeaderKeys) (e : Event) → IsInScope (record { n = n; only = only_of keys }) e ↔ (MayStand keys n e × IsSized e)
may_stand n (Master master) e = (λ h. (h.0, h.2), λ h. (h.0, kept_free e, h.1))
may_stand n (Row me row coin) e = (λ h. ((h.0, (kept_to me e).0 h.1), h.2), λ h. (h.0.0, (kept_to me e).1 h.0.1, h.1))

pub of_scope : (h : Heading) (e : Event) → IsInScope (scope_of h) e ↔ IsEvent h e
of_scope h e = may_stand h.p.n h.keys e
