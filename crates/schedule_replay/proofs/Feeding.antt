-- Events that a loop takes one after the other, the newest first: what it has so far, and what reading on gives.
use Rattle.std.proofs.Common.{◌≡◌, ℕ, suc, ◌-◌, ◌+◌, ◌≤◌, ◌<◌, ◌==◌, Bool, true, false, List, [], ◌∷◌, ◌++◌, reverse, Option, Some, None, Result, Ok, Err, refl, sym, ap, ◌∙◌, append_assoc, arith}
use Rattle.std.specs.Prelude.{nat_lt, if◌then◌else◌}
use Rattle.std.proofs.lemmas.List.{append-nil, reverse-append}
use Rattle.ritas_base.specs.declared.event.Event.{Event}
use Rattle.schedule_file.specs.declared.fault.FileFault.{FileFault}
use Rattle.schedule_file.specs.declared.fault.FileFault.TheVariants.{TooLong, Trailing}
use Rattle.schedule_file.specs.declared.scope.Scope.{Scope}
use Rattle.schedule_file.specs.Reading.{◌>>=◌, Spot, text_start}
use Rattle.schedule_file.specs.FileBytes.{limit, Fails, byte_at, end_at, end_from}
use Rattle.schedule_file.specs.Place.{Unread, spot}
use Rattle.schedule_file.specs.ReadHeader.{Heading, header_at}
use Rattle.schedule_file.specs.ReadEvents.{event_at, event_of, events_at, kind_at, no_event, some_event}
use Rattle.schedule_file.specs.Schedule.{file_of}
use Rattle.schedule_file.specs.Scopes.{scope_of}
use Rattle.schedule_replay.specs.Onto.{read_onto}
use Rattle.schedule_replay.proofs.Files.{heading_in, events_in}

regroup : (h : List Event) (e : Event) (read : Result (List Event) FileFault) → read_onto h (read >>= λ es. Ok (e ∷ es)) ≡ read_onto (e ∷ h) read
regroup h e (Ok es) = ap (λ (l : List Event). Ok l) (ap (λ (l : List Event). l ++ h) (reverse-append (e ∷ []) es) ∙ append_assoc (reverse es) (e ∷ []) h)
regroup h e (Err f) = refl

-- an event was taken
pub goes_on : (h : List Event) (most i : ℕ) (scope : Scope) (s : Spot) (e : Event) (next : Spot) (total : Result (List Event) FileFault) → i < most → event_at scope s ≡ Ok (Some e, next)
    → read_onto h (events_at (most - i) scope s) ≡ total → read_onto (e ∷ h) (events_at (most - (i + 1)) scope next) ≡ total
unfolding events_at
goes_on h most i scope s e next total lt read so_far =
    let k : most - i ≡ suc (most - (i + 1)) = omega arith in
    let one : read_onto h (events_at (most - i) scope s) ≡ read_onto (e ∷ h) (events_at (most - (i + 1)) scope next) = rw (k, read) (regroup h e (events_at (most - (i + 1)) scope next)) in
    sym one ∙ so_far

-- a fault was met
pub fails : (x : FileFault) (h : List Event) (most i : ℕ) (scope : Scope) (s : Spot) (total : Result (List Event) FileFault) → i < most → Fails x (event_at scope s)
    → read_onto h (events_at (most - i) scope s) ≡ total → Fails x total
unfolding events_at
fails x h most i scope s total lt read so_far = λ own.
    let k : most - i ≡ suc (most - (i + 1)) = omega arith in
    let one : read_onto h (events_at (most - i) scope s) ≡ Err x = rw (k, read own) refl in
    sym so_far ∙ one

-- the end was met
pub ends : (h : List Event) (most i : ℕ) (scope : Scope) (s next : Spot) (total : Result (List Event) FileFault) → i < most → event_at scope s ≡ Ok (None, next)
    → read_onto h (events_at (most - i) scope s) ≡ total → total ≡ Ok h
unfolding events_at
ends h most i scope s next total lt read so_far =
    let k : most - i ≡ suc (most - (i + 1)) = omega arith in
    let one : read_onto h (events_at (most - i) scope s) ≡ Ok h = rw (k, read) refl in
    sym so_far ∙ one

-- as many events were taken as no file has
pub too_many : (h : List Event) (most i : ℕ) (scope : Scope) (s : Spot) (total : Result (List Event) FileFault) → most ≤ i → read_onto h (events_at (most - i) scope s) ≡ total → total ≡ Err TooLong
unfolding events_at
too_many h most i scope s total le so_far =
    let k : most - i ≡ 0 = omega arith in
    let one : read_onto h (events_at (most - i) scope s) ≡ Err TooLong = rw k refl in
    sym so_far ∙ one

-- ---- the end

abbrev rest_in : Result (Option Event × Spot) FileFault → List ℕ
rest_in (Ok x) = x.1.rest
rest_in (Err x) = []

abbrev event_in : Result (Option Event × Spot) FileFault → Option Event
event_in (Ok x) = x.0
event_in (Err x) = None

not_there : {A : Type 0} (b : Bool) (x y : FileFault) (next : Spot) → ((if b then Err x else Err y) >>= λ u. Ok (no_event u)) ≡ Ok (None, next) → A
not_there true x y next e = absurd cc
not_there false x y next e = absurd cc

no_byte : (at : ℕ) (rest : List ℕ) (next : Spot) → (end_from at rest >>= λ x. Ok (no_event x)) ≡ Ok (None, next) → next.rest ≡ []
no_byte at [] next e = ap rest_in (sym e)
no_byte at (b ∷ rest) next e = not_there (nat_lt at limit) (Trailing at) TooLong next e

some_more : {A : Type 0} (read : Result (Event × Spot) FileFault) (next : Spot) → (read >>= λ x. Ok (some_event x)) ≡ Ok (None, next) → A
some_more (Ok x) next e = absurd (let both : Some x.0 ≡ None = ap event_in e in cc)
some_more (Err x) next e = absurd cc

by_kind : (b : Bool) (s : Spot) (more : Result (Event × Spot) FileFault) (next : Spot)
    → (if b then (end_at s >>= λ x. Ok (no_event x)) else (more >>= λ x. Ok (some_event x))) ≡ Ok (None, next) → next.rest ≡ []
unfolding end_at
by_kind true s more next e = no_byte s.at s.rest next e
by_kind false s more next e = some_more more next e

by_byte : (scope : Scope) (at : ℕ) (read : Result (ℕ × Spot) FileFault) (next : Spot) → (read >>= λ kind. event_of scope at kind.0 kind.1) ≡ Ok (None, next) → next.rest ≡ []
by_byte scope at (Ok kind) next e = by_kind (kind.0 == 0) kind.1 (kind_at scope at kind.0 kind.1) next e
by_byte scope at (Err x) next e = absurd cc

-- no byte follows the end mark
at_end : (scope : Scope) (s next : Spot) → event_at scope s ≡ Ok (None, next) → next.rest ≡ []
unfolding event_at
at_end scope s next e = by_byte scope s.at (byte_at s) next e

tail_none : (xs ys : List ℕ) → xs ++ ys ≡ [] → ys ≡ []
tail_none [] ys e = e
tail_none (x ∷ xs) ys e = absurd cc

-- so the source has none left
pub all_read : (scope : Scope) (s : Spot) (held : Unread) (left : List ℕ) → event_at scope s ≡ Ok (None, spot held left) → left ≡ []
all_read scope s held left e = tail_none held.bytes left (at_end scope s (spot held left) e)

-- ---- the file

-- events behind a header
abbrev pub behind : Heading → Result (List Event) FileFault → Result (Heading × List Event) FileFault
behind h read = read >>= λ es. Ok (h, es)

abbrev reversed : Heading → Result (List Event) FileFault → Result (Heading × List Event) FileFault
reversed h read = read >>= λ es. Ok (h, reverse es)

all_onto : (h : Heading) (read : Result (List Event) FileFault) → reversed h read ≡ behind h (read_onto [] read)
all_onto h (Ok es) = ap (λ (l : List Event). Ok (h, l)) (sym (append-nil (reverse es)))
all_onto h (Err f) = refl

-- what a file says, once its header was read
pub file_from : (bytes : List ℕ) (h : Heading) (next : Spot) → header_at (text_start bytes) ≡ Ok (h, next) → file_of bytes ≡ behind h (read_onto [] (events_at (limit + 1) (scope_of h) next))
unfolding file_of
file_from bytes h next read = rw read (all_onto h (events_at (limit + 1) (scope_of h) next))

-- a fault of the header is one of the file
pub file_fails : (bytes : List ℕ) (x : FileFault) → Fails x (header_at (text_start bytes)) → Fails x (file_of bytes)
unfolding file_of
file_fails bytes x read = λ own. rw (read own) refl

abbrev pub events_of : List Event → Result (List Event) FileFault → List Event
events_of d (Ok es) = es
events_of d (Err x) = d

-- a list that isn't read has one fault
pub list_fault : (read : Result (List Event) FileFault) (x y : FileFault) → read ≡ Err x → read ≡ Err y → x ≡ y
list_fault (Ok es) x y a b = absurd cc
list_fault (Err z) x y a b = cc

-- a file has one fault
pub fault_of : (read : Result (Heading × List Event) FileFault) (x y : FileFault) → read ≡ Err x → read ≡ Err y → x ≡ y
fault_of (Ok h) x y a b = absurd cc
fault_of (Err z) x y a b = cc

-- what a header and the events behind it give

pub header_behind : (k h : Heading) (read : Result (List Event) FileFault) (es : List Event) → behind k read ≡ Ok (h, es) → k ≡ h
header_behind k h (Ok ds) es e = ap (heading_in k) e
header_behind k h (Err x) es e = absurd cc

pub events_behind : (k h : Heading) (read : Result (List Event) FileFault) (es : List Event) → behind k read ≡ Ok (h, es) → read ≡ Ok es
events_behind k h (Ok ds) es e = ap (λ (l : List Event). Ok l) (ap (events_in []) e)
events_behind k h (Err x) es e = absurd cc

pub fault_behind : (k : Heading) (read : Result (List Event) FileFault) (x : FileFault) → behind k read ≡ Err x → read ≡ Err x
fault_behind k (Ok ds) x e = absurd cc
fault_behind k (Err y) x e = cc
