-- What becomes of a log with one command more.
use Rattle.std.specs.Prelude.{◌≡◌, ℕ, zero, suc, ◌+◌, ◌/◌, ◌%◌, ◌<◌, slice_index_or, replicate, ◌≤◌, Bool, true, false, ◌==◌, ◌&&◌, ◌||◌, if◌then◌else◌, List, [], ◌∷◌, ◌++◌, length, drop, Option, None, Some, Result, Ok, Err, IfOk, OnOk, OnErr, refl}
use Rattle.std.specs.Str.{bytes_eq}
use Rattle.std.proofs.Common.{sym, ◌∙◌, ap, ap₂, subst, inl, inr, arith}
use Rattle.std.proofs.lemmas.Bool.{cases_Bool, cases_lt, and_parts, and_from, both_ways, false_from_ne_true, eq-eqb, eqb-true, ne_eqb, leb-true, le-leb}
use Rattle.std.proofs.lemmas.Nat.Bits.{bit_at-zero}
use Rattle.std.proofs.lemmas.Slice.Eq.{bytes_eq-Decides}
use Rattle.ritas_base.specs.Members.{has_member}
use Rattle.command_log.specs.declared.waiting.Waiting.{Waiting}
use Rattle.command_log.specs.Rows.{CommandEntry, Row, Start, client_of, request_of, row_of, has_row, is_same_command, is_origin, origins, has_ended, is_entered, own_rows, rows_over, entered}
use Rattle.command_log.specs.declared.origins.OriginSet.{OriginSet}
use Rattle.command_log.specs.Index.{row_key}
use Rattle.command_log.specs.Origins.{has_origin, origin_count, no_origins}
use Rattle.command_log.specs.Standing.{Ledger, own_of, StandsFor, HasEntered, WaitsWith, IsEntryLost, payloads_at, origins_of, origins_at}
use Rattle.command_log.specs.Laws.{has_its, enters, enters_from, one_from, same_origin, own_covers}
use Rattle.command_log.proofs.OriginSets.{counts_below}
use Rattle.command_log.proofs.Places.{key_eq}
use Rattle.command_log.proofs.Bases.{own_of_stands}

-- the key of an entry's client and request
abbrev pub key_in : CommandEntry → ℕ
key_in e = row_key (client_of e.command) (request_of e.command)

-- ---- origins

-- a set with these members has so many origins
pub counted : (mask : OriginSet) (es : List CommandEntry) (r : Row) → ((k : ℕ) → k < 256 → has_origin mask k ≡ is_origin es r k) → origin_count mask ≡ origins es r
counted mask es r alike = counts_below (has_origin mask) (is_origin es r) alike

-- a command is one with itself
same_itself : (r : Row) → is_same_command r r ≡ true
same_itself r =
    and_from (r.client == r.client) (r.request == r.request && bytes_eq r.payload r.payload) (eq-eqb r.client r.client refl)
    (and_from (r.request == r.request) (bytes_eq r.payload r.payload) (eq-eqb r.request r.request refl) ((bytes_eq-Decides r.payload r.payload).1 refl))

-- a set with the newest entry's origin too
more_origin : (e : CommandEntry) (es : List CommandEntry) (mask set : OriginSet) → ((k : ℕ) → k < 256 → has_origin mask k ≡ is_origin es (row_of e) k)
    → ((k : ℕ) → has_origin set k ≡ (has_origin mask k || (k == e.id.origin))) → (k : ℕ) → k < 256 → has_origin set k ≡ is_origin (e ∷ es) (row_of e) k
more_origin e es mask set old new k l =
    new k
    ∙ (ap₂ (λ a b. a || b) (old k l) (turn k e.id.origin)
    ∙ (swap (is_origin es (row_of e) k) (e.id.origin == k)
    ∙ ap (λ b. (b && e.id.origin == k) || is_origin es (row_of e) k) (sym (same_itself (row_of e)))))
  where
    turn : (a b : ℕ) → (a == b) ≡ (b == a)
    turn a b =
        elim (cases_Bool (a == b)) [
          | inl is ↦ is ∙ sym (eq-eqb b a (sym (eqb-true a b is)))
          | inr isnt ↦ isnt ∙ sym (ne_eqb b a (λ s. both_ways (a == b) isnt (eq-eqb a b (sym s))))
        ]

    swap : (a b : Bool) → (a || b) ≡ ((true && b) || a)
    swap true true = refl
    swap true false = refl
    swap false true = refl
    swap false false = refl

-- ---- one that enters nothing

-- an entry that adds no origin to its command
nothing_new : (s : Start) (f : ℕ) (e : CommandEntry) (es : List CommandEntry) → ((k : ℕ) → k < 256 → is_origin (e ∷ es) (row_of e) k ≡ is_origin es (row_of e) k)
    → is_entered s f e es (own_rows s f es) ≡ false
nothing_new s f e es alike =
    false_from_ne_true (is_entered s f e es (own_rows s f es)) (λ is.
    let it = enters s f e es (own_rows s f es) is in
    let many = leb-true (f + 1) (origins (e ∷ es) (row_of e)) it.confirmed in
    let before = counts_below (is_origin (e ∷ es) (row_of e)) (is_origin es (row_of e)) alike in
    elim (own_covers s f es (row_of e) (omega (arith, many, before))) [
      | inl has ↦ both_ways (has_its e (rows_over s f es)) it.none has
      | inr ended ↦ both_ways (has_ended s (own_rows s f es)) it.lasts ended
    ])

-- one that comes when the log is over
nothing_over : (s : Start) (f : ℕ) (e : CommandEntry) (es : List CommandEntry) (rs : List Row) → has_ended s rs ≡ true → is_entered s f e es rs ≡ false
nothing_over s f e es rs ended = false_from_ne_true (is_entered s f e es rs) (λ is. both_ways (has_ended s rs) (enters s f e es rs is).lasts ended)

-- an entry whose client and request have a row
nothing_again : (s : Start) (f : ℕ) (e : CommandEntry) (es : List CommandEntry) (rs : List Row) → has_its e (rs ++ s.base) ≡ true → is_entered s f e es rs ≡ false
nothing_again s f e es rs has = false_from_ne_true (is_entered s f e es rs) (λ is. both_ways (has_its e (rs ++ s.base)) (enters s f e es rs is).none has)

-- and one whose command has too few origins
too_few : (s : Start) (f : ℕ) (e : CommandEntry) (es : List CommandEntry) (rs : List Row) → origins (e ∷ es) (row_of e) ≤ f → is_entered s f e es rs ≡ false
too_few s f e es rs few =
    false_from_ne_true (is_entered s f e es rs) (λ is.
    let many = leb-true (f + 1) (origins (e ∷ es) (row_of e)) (enters s f e es rs is).confirmed in absurd (omega (arith, many, few)))

-- ---- what the log stands for then

-- whether a log that stands for some entries enters the row of one more
abbrev enters_in : Ledger → CommandEntry → List CommandEntry → Bool
enters_in l e es = is_entered l.start l.f e es (own_rows l.start l.f es)

-- what is answered
answer_none : (l : Ledger) (e : CommandEntry) (es : List CommandEntry) → enters_in l e es ≡ false → None ≡ entered l.start l.f e es
answer_none l e es unentered = ap (λ (b : Bool). if b then Some (length (rows_over l.start l.f es)) else None) (sym unentered)

answer_some : (l : Ledger) (e : CommandEntry) (es : List CommandEntry) → StandsFor l es → enters_in l e es ≡ true → Some (length l.rows) ≡ entered l.start l.f e es
answer_some l e es s entering =
    ap (λ (rs : List Row). Some (length rs)) s.rows ∙ ap (λ (b : Bool). if b then Some (length (rows_over l.start l.f es)) else None) (sym entering)

-- the rows stay
own_stay : (l : Ledger) (e : CommandEntry) (es : List CommandEntry) → enters_in l e es ≡ false → own_rows l.start l.f (e ∷ es) ≡ own_rows l.start l.f es
own_stay l e es unentered = ap (λ (b : Bool). if b then row_of e ∷ own_rows l.start l.f es else own_rows l.start l.f es) unentered

rows_stay : (l : Ledger) (e : CommandEntry) (es : List CommandEntry) → StandsFor l es → enters_in l e es ≡ false → l.rows ≡ rows_over l.start l.f (e ∷ es)
rows_stay l e es s unentered = s.rows ∙ ap (λ (rs : List Row). rs ++ l.start.base) (sym (own_stay l e es unentered))

-- so the log wasn't over, where it isn't now
lasts_before : (l : Ledger) (e : CommandEntry) (es : List CommandEntry) → enters_in l e es ≡ false → has_ended l.start (own_rows l.start l.f (e ∷ es)) ≡ false
    → has_ended l.start (own_rows l.start l.f es) ≡ false
lasts_before l e es unentered lasts = ap (has_ended l.start) (sym (own_stay l e es unentered)) ∙ lasts

-- a log that is over
pub stays_over : (l : Ledger) (e : CommandEntry) (es : List CommandEntry) → has_ended l.start (own_of l) ≡ true → StandsFor l es
    → (None ≡ entered l.start l.f e es) × StandsFor l (e ∷ es)
stays_over l e es ended s = (
  answer_none l e es unentered,
  record {
    rows = rows_stay l e es s unentered;
    waiting = λ lasts r client request none k small. absurd (both_ways (has_ended l.start (own_rows l.start l.f es)) (lasts_before l e es unentered lasts) over);
    gone = s.gone;
  },
)
  where
    over : has_ended l.start (own_rows l.start l.f es) ≡ true
    over = ap (has_ended l.start) (sym (own_of_stands l es s)) ∙ ended

    unentered : enters_in l e es ≡ false
    unentered = nothing_over l.start l.f e es (own_rows l.start l.f es) over

-- a log that is as it was
stays : (l : Ledger) (e : CommandEntry) (es : List CommandEntry) → StandsFor l es → enters_in l e es ≡ false
    → ((r : Row) → has_row l.rows r.client r.request ≡ false → (k : ℕ) → k < 256 → is_origin es r k ≡ is_origin (e ∷ es) r k)
    → (None ≡ entered l.start l.f e es) × StandsFor l (e ∷ es)
stays l e es s unentered alike = (
  answer_none l e es unentered,
  record {
    rows = rows_stay l e es s unentered;
    waiting = λ lasts r client request none k small. s.waiting (lasts_before l e es unentered lasts) r client request none k small ∙ alike r none k small;
    gone = s.gone;
  },
)

-- commands of other clients and requests are others
other_command : (e : CommandEntry) (rs : List Row) (r : Row) → has_its e rs ≡ true → has_row rs r.client r.request ≡ false → is_same_command (row_of e) r ≡ false
other_command e rs r has none =
    false_from_ne_true (is_same_command (row_of e) r) (λ is.
    let one = one_from (row_of e) r is in
    both_ways (has_row rs r.client r.request) none (sym (ap₂ (has_row rs) one.client one.request) ∙ has))

no_origin : (e : CommandEntry) (es : List CommandEntry) (r : Row) (k : ℕ) → is_same_command (row_of e) r ≡ false → is_origin es r k ≡ is_origin (e ∷ es) r k
no_origin e es r k other = ap (λ b. (b && e.id.origin == k) || is_origin es r k) (sym other)

-- where the client and request have a row
pub stays_again : (l : Ledger) (e : CommandEntry) (es : List CommandEntry) → has_its e l.rows ≡ true → StandsFor l es
    → (None ≡ entered l.start l.f e es) × StandsFor l (e ∷ es)
stays_again l e es has s =
    stays l e es s (nothing_again l.start l.f e es (own_rows l.start l.f es) (ap (has_its e) (sym s.rows) ∙ has))
    (λ r none k small. no_origin e es r k (other_command e l.rows r has none))

-- where the origin was one already
pub known_origin : (e : CommandEntry) (es : List CommandEntry) → is_origin es (row_of e) e.id.origin ≡ true → (r : Row) (k : ℕ) → k < 256 → is_origin (e ∷ es) r k ≡ is_origin es r k
known_origin e es known r k small = go (is_same_command (row_of e) r && e.id.origin == k) refl
  where
    there : is_origin es (row_of e) e.id.origin ≡ true → e.id.origin ≡ k → is_same_command (row_of e) r ≡ true → is_origin es r k ≡ true
    there old is same = sym (same_origin es (row_of e) r (one_from (row_of e) r same) k) ∙ (ap (is_origin es (row_of e)) (sym is) ∙ old)

    go : (b : Bool) → (is_same_command (row_of e) r && e.id.origin == k) ≡ b → (b || is_origin es r k) ≡ is_origin es r k
    go true is =
        let parts = and_parts (is_same_command (row_of e) r) (e.id.origin == k) is in
        sym (there known (eqb-true e.id.origin k parts.1) parts.0)
    go false is = refl

stays_known : (l : Ledger) (e : CommandEntry) (es : List CommandEntry) → is_origin es (row_of e) e.id.origin ≡ true → StandsFor l es
    → (None ≡ entered l.start l.f e es) × StandsFor l (e ∷ es)
stays_known l e es known s =
    stays l e es s (nothing_new l.start l.f e es (known_origin e es known (row_of e))) (λ r none k small. sym (known_origin e es known r k small))

-- ---- what a call finds

-- the log isn't over, the client and request of an entry have no row, and these are the origins of its command
pub record Found (l : Ledger) (e : CommandEntry) (mask : OriginSet) : Type 0 where
  pub lasts : has_ended l.start (own_of l) ≡ false
  pub client : client_of e.command < 4294967296
  pub request : request_of e.command < 4294967296
  pub none : has_its e l.rows ≡ false
  pub mask_is : mask ≡ origins_at l.waiting (key_in e) (drop 8 e.command)

pub found_from : (l : Ledger) (e : CommandEntry) (client request key : ℕ) (mask : OriginSet) (payload : List ℕ) (waiting : Waiting) → client ≡ client_of e.command → request ≡ request_of e.command
    → client < 4294967296 → request < 4294967296 → key ≡ row_key client request → payload ≡ drop 8 e.command → mask ≡ origins_at waiting key payload → waiting ≡ l.waiting
    → has_ended l.start (own_of l) ≡ false → has_its e l.rows ≡ false → Found l e mask
found_from l e client request key mask payload waiting client_is request_is client_small request_small key_is payload_is mask_is waiting_is lasts none = record {
  lasts = lasts;
  client = subst (λ (n : ℕ). n < 4294967296) client_is client_small;
  request = subst (λ (n : ℕ). n < 4294967296) request_is request_small;
  none = none;
  mask_is = mask_is ∙ (ap (λ w. origins_at w key payload) waiting_is ∙ ap₂ (origins_at l.waiting) (key_is ∙ ap₂ row_key client_is request_is) payload_is);
}

-- so no row that the log has closes it
lasts_in : (l : Ledger) (e : CommandEntry) (es : List CommandEntry) (mask : OriginSet) → Found l e mask → StandsFor l es → has_ended l.start (own_rows l.start l.f es) ≡ false
lasts_in l e es mask found s = ap (has_ended l.start) (sym (own_of_stands l es s)) ∙ found.lasts

members : (l : Ledger) (e : CommandEntry) (es : List CommandEntry) (mask : OriginSet) → Found l e mask → StandsFor l es → (k : ℕ) → k < 256 → has_origin mask k ≡ is_origin es (row_of e) k
members l e es mask found s k small =
    ap (λ m. has_origin m k) found.mask_is ∙ s.waiting (lasts_in l e es mask found s) (row_of e) found.client found.request found.none k small

-- its origin was one already
pub knows : (l : Ledger) (e : CommandEntry) (es : List CommandEntry) (mask : OriginSet) → Found l e mask → e.id.origin < 256 → has_origin mask e.id.origin ≡ true → StandsFor l es
    → (None ≡ entered l.start l.f e es) × StandsFor l (e ∷ es)
knows l e es mask found small old s = stays_known l e es (sym (members l e es mask found s e.id.origin small) ∙ old) s

-- or it is a new one
pub is_first : (l : Ledger) (e : CommandEntry) (es : List CommandEntry) (mask : OriginSet) → Found l e mask → e.id.origin < 256 → has_origin mask e.id.origin ≡ false → StandsFor l es
    → is_origin es (row_of e) e.id.origin ≡ false
is_first l e es mask found small new s = sym (members l e es mask found s e.id.origin small) ∙ new

-- the origins with that one
pub record Joined (mask set : OriginSet) (origin : ℕ) : Type 0 where
  pub is : (k : ℕ) → has_origin set k ≡ (has_origin mask k || (k == origin))

joined : (l : Ledger) (e : CommandEntry) (es : List CommandEntry) (mask set : OriginSet) → Found l e mask → Joined mask set e.id.origin → StandsFor l es
    → (k : ℕ) → k < 256 → has_origin set k ≡ is_origin (e ∷ es) (row_of e) k
joined l e es mask set found join s = more_origin e es mask set (members l e es mask found s) join.is

is_few : (l : Ledger) (e : CommandEntry) (es : List CommandEntry) (mask set : OriginSet) → Found l e mask → Joined mask set e.id.origin → origin_count set ≤ l.f → StandsFor l es
    → enters_in l e es ≡ false
is_few l e es mask set found join few s =
    let count = counted set (e ∷ es) (row_of e) (joined l e es mask set found join s) in
    too_few l.start l.f e es (own_rows l.start l.f es) (omega (arith, count, few))

is_enough : (l : Ledger) (e : CommandEntry) (es : List CommandEntry) (mask set : OriginSet) → Found l e mask → Joined mask set e.id.origin → l.f < origin_count set → StandsFor l es
    → enters_in l e es ≡ true
is_enough l e es mask set found join many s =
    let count = counted set (e ∷ es) (row_of e) (joined l e es mask set found join s) in
    enters_from l.start l.f e es (own_rows l.start l.f es)
    (record {
      lasts = lasts_in l e es mask found s;
      none = ap (has_its e) (sym s.rows) ∙ found.none;
      confirmed = le-leb (l.f + 1) (origins (e ∷ es) (row_of e)) (omega (arith, count, many));
    })

-- ---- its origin is kept

-- the command of an entry is one of a row, by key and payload
same_test : (e : CommandEntry) (r : Row) → request_of e.command < 4294967296 → r.request < 4294967296
    → (row_key (client_of e.command) (request_of e.command) == row_key r.client r.request && bytes_eq (drop 8 e.command) r.payload) ≡ is_same_command (row_of e) r
same_test e r small other =
    ap (λ b. b && bytes_eq (drop 8 e.command) r.payload) (key_eq (client_of e.command) (request_of e.command) r.client r.request small other)
    ∙ both (client_of e.command == r.client) (request_of e.command == r.request) (bytes_eq (drop 8 e.command) r.payload)
  where
    both : (a b c : Bool) → ((a && b) && c) ≡ (a && (b && c))
    both true b c = refl
    both false b c = refl

-- the key of a row's client and request is another than that of one without a row
other_key : (e : CommandEntry) (rs : List Row) (client request : ℕ) → request_of e.command < 4294967296 → request < 4294967296
    → has_its e rs ≡ false → has_row rs client request ≡ true → (row_key (client_of e.command) (request_of e.command) == row_key client request) ≡ false
other_key e rs client request small other none has =
    key_eq (client_of e.command) (request_of e.command) client request small other
    ∙ false_from_ne_true (client_of e.command == client && request_of e.command == request) (λ is.
    let parts = and_parts (client_of e.command == client) (request_of e.command == request) is in
    both_ways (has_its e rs) none (ap₂ (has_row rs) (eqb-true (client_of e.command) client parts.0) (eqb-true (request_of e.command) request parts.1) ∙ has))

stays_kept : (old new : Ledger) (e : CommandEntry) (es : List CommandEntry) (mask set : OriginSet) → Found old e mask → Joined mask set e.id.origin → WaitsWith old new (row_of e) set
    → enters_in old e es ≡ false → StandsFor old es → StandsFor new (e ∷ es)
stays_kept old new e es mask set found join keeps unentered s = record {
  rows = keeps.rows ∙ (rows_stay old e es s unentered ∙ ap₂ (λ t f. rows_over t f (e ∷ es)) (sym keeps.start) (sym keeps.f));
  waiting = λ lasts r client request free k l.
      ap (λ m. has_origin m k) (keeps.waiting (row_key r.client r.request) r.payload ∙ ap (λ (b : Bool). if b then set else origins_at old.waiting (row_key r.client r.request) r.payload) (same_test e r found.request request))
      ∙ now r (origins_at old.waiting (row_key r.client r.request) r.payload) k l (s.waiting (lasts_in old e es mask found s) r client request (ap (λ rs. has_row rs r.client r.request) (sym keeps.rows) ∙ free) k l) (is_same_command (row_of e) r) refl;
  gone = λ client request a b has.
      let there = ap (λ rs. has_row rs client request) (sym keeps.rows) ∙ has in
      keeps.others (row_key client request) (other_key e old.rows client request found.request b found.none there) ∙ s.gone client request a b there;
}
  where
    now : (r : Row) (m : OriginSet) (k : ℕ) → k < 256 → has_origin m k ≡ is_origin es r k → (b : Bool) → is_same_command (row_of e) r ≡ b → has_origin (if b then set else m) k ≡ is_origin (e ∷ es) r k
    now r m k l before true is = joined old e es mask set found join s k l ∙ same_origin (e ∷ es) (row_of e) r (one_from (row_of e) r is) k
    now r m k l before false is = before ∙ no_origin e es r k is

-- ---- its row is entered

abbrev is_its : CommandEntry → ℕ → ℕ → Bool
is_its e client request = client_of e.command == client && request_of e.command == request

stays_entered : (old new : Ledger) (e : CommandEntry) (es : List CommandEntry) → HasEntered old new (row_of e) → request_of e.command < 4294967296
    → enters_in old e es ≡ true → StandsFor old es → StandsFor new (e ∷ es)
stays_entered old new e es now small entering s = record {
  rows = rows_now;
  waiting = λ lasts r client request free k l. wait r client request (is_its e r.client r.request) refl (ap (λ rs. has_row rs r.client r.request) (sym now.rows) ∙ free) k l;
  gone = λ client request a b has. leave client request a b (is_its e client request) refl (ap (λ rs. has_row rs client request) (sym now.rows) ∙ has);
}
  where
    own : List Row
    own = own_rows old.start old.f es

    rows_now : new.rows ≡ rows_over new.start new.f (e ∷ es)
    rows_now =
        now.rows
        ∙ (ap (λ rs. row_of e ∷ rs) s.rows
        ∙ (ap (λ (b : Bool). (if b then row_of e ∷ own else own) ++ old.start.base) (sym entering)
        ∙ ap₂ (λ t f. rows_over t f (e ∷ es)) (sym now.start) (sym now.f)))

    -- the log wasn't over
    lasted : has_ended old.start own ≡ false
    lasted = (enters old.start old.f e es own entering).lasts

    payloads : (client request : ℕ) (b : Bool) → request < 4294967296 → is_its e client request ≡ b
        → payloads_at new.waiting (row_key client request) ≡ (if b then None else payloads_at old.waiting (row_key client request))
    payloads client request b other is =
        now.waiting (row_key client request)
        ∙ ap (λ (t : Bool). if t then None else payloads_at old.waiting (row_key client request)) (key_eq (client_of e.command) (request_of e.command) client request small other ∙ is)

    wait : (r : Row) → r.client < 4294967296 → r.request < 4294967296 → (b : Bool) → is_its e r.client r.request ≡ b → (b || has_row old.rows r.client r.request) ≡ false
        → (k : ℕ) → k < 256 → has_origin (origins_at new.waiting (row_key r.client r.request) r.payload) k ≡ is_origin (e ∷ es) r k
    wait r client request true is free k l = absurd (both_ways true free refl)
    wait r client request false is free k l =
        ap (λ o. has_origin (origins_of o r.payload) k) (payloads r.client r.request false request is)
        ∙ (s.waiting lasted r client request free k l
        ∙ no_origin e es r k
        (false_from_ne_true (is_same_command (row_of e) r) (λ same.
        let one = one_from (row_of e) r same in
        both_ways (is_its e r.client r.request) is
        (and_from (client_of e.command == r.client) (request_of e.command == r.request) (eq-eqb (client_of e.command) r.client one.client) (eq-eqb (request_of e.command) r.request one.request)))))

    leave : (client request : ℕ) → client < 4294967296 → request < 4294967296 → (b : Bool) → is_its e client request ≡ b → (b || has_row old.rows client request) ≡ true
        → payloads_at new.waiting (row_key client request) ≡ None
    leave client request a b true is has = payloads client request true b is
    leave client request a b false is has = payloads client request false b is ∙ s.gone client request a b has

-- ---- want of memory

stays_wanting : (old new : Ledger) (e : CommandEntry) (es : List CommandEntry) (mask : OriginSet) → Found old e mask → IsEntryLost old new (row_of e) → StandsFor old es → StandsFor new es
stays_wanting old new e es mask found keeps s = record {
  rows = keeps.rows ∙ (s.rows ∙ ap₂ (λ t f. rows_over t f es) (sym keeps.start) (sym keeps.f));
  waiting = λ lasts r client request free k l.
      ap (λ m. has_origin m k) (keeps.waiting (row_key r.client r.request) r.payload)
      ∙ s.waiting (lasts_in old e es mask found s) r client request (ap (λ rs. has_row rs r.client r.request) (sym keeps.rows) ∙ free) k l;
  gone = λ client request a b has.
      let there = ap (λ rs. has_row rs client request) (sym keeps.rows) ∙ has in
      keeps.others (row_key client request) (other_key e old.rows client request found.request b found.none there) ∙ s.gone client request a b there;
}

-- ---- what a call leaves

-- what `settle` ensures
pub record Settles {M : Type 0} (old new : Ledger) (r : Row) (set : OriginSet) (result : Result (Option ℕ) M) : Type 0 where
  pub many : old.f < origin_count set → IfOk result (λ position. position ≡ Some (length old.rows)) × OnOk result (HasEntered old new r)
  pub few : origin_count set ≤ old.f → IfOk result (λ position. position ≡ None) × OnOk result (WaitsWith old new r set)
  pub err : OnErr result (IsEntryLost old new r)

if_ok : {A M : Type 0} {P Q : A → Type 0} (result : Result A M) → ((x : A) → P x → Q x) → IfOk result P → IfOk result Q
if_ok (Ok x) more p = more x p
if_ok (Err fault) more p = p

on_ok : {A M P Q : Type 0} (result : Result A M) → (P → Q) → OnOk result P → OnOk result Q
on_ok (Ok x) more p = more p
on_ok (Err fault) more p = p

on_err : {A M P Q : Type 0} (result : Result A M) → (P → Q) → OnErr result P → OnErr result Q
on_err (Ok x) more p = p
on_err (Err fault) more p = more p

module _ {M : Type 0} (old new : Ledger) (e : CommandEntry) (es : List CommandEntry) (mask set : OriginSet) (result : Result (Option ℕ) M) where
  pub settled_position : Found old e mask → Joined mask set e.id.origin → Settles old new (row_of e) set result → StandsFor old es → IfOk result (λ position. position ≡ entered old.start old.f e es)
  settled_position found join settles s =
      elim (cases_lt old.f (origin_count set)) [
        | inl many ↦ if_ok result (λ position is. is ∙ answer_some old e es s (is_enough old e es mask set found join many s)) (settles.many many).0
        | inr few ↦ if_ok result (λ position is. is ∙ answer_none old e es (is_few old e es mask set found join few s)) (settles.few few).0
      ]

  pub settled_ok : Found old e mask → Joined mask set e.id.origin → Settles old new (row_of e) set result → StandsFor old es → OnOk result (StandsFor new (e ∷ es))
  settled_ok found join settles s =
      elim (cases_lt old.f (origin_count set)) [
        | inl many ↦ on_ok result (λ now. stays_entered old new e es now found.request (is_enough old e es mask set found join many s) s) (settles.many many).1
        | inr few ↦ on_ok result (λ waits. stays_kept old new e es mask set found join waits (is_few old e es mask set found join few s) s) (settles.few few).1
      ]

  pub settled_err : Found old e mask → Settles old new (row_of e) set result → StandsFor old es → OnErr result (StandsFor new es)
  settled_err found settles s = on_err result (λ left. stays_wanting old new e es mask found left s) settles.err

-- ---- at first

zero_in : (n q : ℕ) → ◌≡◌ {A = ℕ} (slice_index_or (replicate n 0) q 0) 0
zero_in zero q = refl
zero_in (suc n) zero = refl
zero_in (suc n) (suc q) = zero_in n q

zero_member : (k : ℕ) → has_origin no_origins k ≡ false
unfolding has_member
zero_member k = ap (λ (m : ℕ). has_member m (k % 32)) (zero_in 8 (k / 32)) ∙ ap (λ (b : ℕ). b == 1) (bit_at-zero (k % 32))

-- a log that has its base alone, and of which nothing else is known
pub stands_begun : (l : Ledger) → l.rows ≡ l.start.base → ((key : ℕ) → payloads_at l.waiting key ≡ None) → StandsFor l []
stands_begun l rows nothing = record {
  rows = rows;
  waiting = λ lasts r client request free k l2. ap (λ o. has_origin (origins_of o r.payload) k) (nothing (row_key r.client r.request)) ∙ zero_member k;
  gone = λ client request a b has. nothing (row_key client request);
}
