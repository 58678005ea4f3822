-- Each client and request has one row; the rows of a part of a log are a part of its rows; each row is that of an entry, and its
-- command has f + 1 origins; and a command that has so many has a row of its client and request, or the log is over. Each law is of a
-- log over any base, and then of a session by itself.
use Rattle.std.specs.Prelude.{◌≡◌, ℕ, ◌+◌, ◌<◌, ◌≤◌, Bool, true, false, not, ◌==◌, ◌&&◌, ◌||◌, if◌then◌else◌, List, [], ◌∷◌, ◌++◌, Option, unwrap_or, refl, ◌⊎◌}
use Rattle.std.specs.Str.{bytes_eq}
use Rattle.std.proofs.Common.{sym, ◌∙◌, ap, ap₂, subst, inl, inr, append_assoc, append-nil, arith}
use Rattle.std.proofs.lemmas.Bool.{cases_Bool, cases_lt, and_parts, and_from, not-true, not_from_false, or_cases, both_ways, eq-eqb, eqb-true, leb-true, le-leb, or_left, or_right}
use Rattle.std.proofs.lemmas.Slice.Eq.{bytes_eq-Decides}
use Rattle.ritas_base.specs.declared.id.Id.{Id}
use Rattle.ritas_base.specs.History.{replicas}
use Rattle.ritas_base.specs.Quorums.{count_more, count_none, count_same}
use Rattle.layer_api.specs.Service.{IsPart}
use Rattle.command_log.specs.Rows.{CommandEntry, Row, Start, client_of, request_of, row_of, has_row, is_same_command, is_origin, count_origins, origins, is_confirmed, alone, has_ended, is_entered, rows_with, own_rows, rows_over, rows_of, entry_of_id, entries_of_log, command_rows, chain_rows, AreOnce, IsIn, HasRow}

-- ---- what becomes of an entry

-- whether the client and request of an entry have a row
abbrev pub has_its : CommandEntry → List Row → Bool
has_its e rs = has_row rs (client_of e.command) (request_of e.command)

-- it is entered, where the log isn't over, they have none and its command is confirmed
pub record Enters (s : Start) (f : ℕ) (e : CommandEntry) (es : List CommandEntry) (rs : List Row) : Type 0 where
  pub lasts : has_ended s rs ≡ false
  pub none : has_its e (rs ++ s.base) ≡ false
  pub confirmed : is_confirmed f (e ∷ es) (row_of e) ≡ true

pub enters : (s : Start) (f : ℕ) (e : CommandEntry) (es : List CommandEntry) (rs : List Row) → is_entered s f e es rs ≡ true → Enters s f e es rs
enters s f e es rs is =
    let parts = and_parts (not (has_ended s rs)) (not (has_its e (rs ++ s.base)) && is_confirmed f (e ∷ es) (row_of e)) is in
    let rest = and_parts (not (has_its e (rs ++ s.base))) (is_confirmed f (e ∷ es) (row_of e)) parts.1 in
    record { lasts = not-true (has_ended s rs) parts.0; none = not-true (has_its e (rs ++ s.base)) rest.0; confirmed = rest.1 }

pub enters_from : (s : Start) (f : ℕ) (e : CommandEntry) (es : List CommandEntry) (rs : List Row) → Enters s f e es rs → is_entered s f e es rs ≡ true
enters_from s f e es rs it =
    and_from (not (has_ended s rs)) (not (has_its e (rs ++ s.base)) && is_confirmed f (e ∷ es) (row_of e)) (not_from_false (has_ended s rs) it.lasts)
    (and_from (not (has_its e (rs ++ s.base))) (is_confirmed f (e ∷ es) (row_of e)) (not_from_false (has_its e (rs ++ s.base)) it.none) it.confirmed)

-- a property of the rows after an entry: of those of before, and of these with its row
pub by_entry : (P : List Row → Type 0) (s : Start) (f : ℕ) (e : CommandEntry) (es : List CommandEntry) (rs : List Row) → P rs → (Enters s f e es rs → P (row_of e ∷ rs)) → P (rows_with s f e es rs)
by_entry P s f e es rs stays more = go (is_entered s f e es rs) refl
  where
    go : (b : Bool) → is_entered s f e es rs ≡ b → P (if b then row_of e ∷ rs else rs)
    go true is = more (enters s f e es rs is)
    go false is = stays

-- a log that is over stays as it is
pub ended_stays : (s : Start) (f : ℕ) (e : CommandEntry) (es : List CommandEntry) (rs : List Row) → has_ended s rs ≡ true → rows_with s f e es rs ≡ rs
ended_stays s f e es rs ended = by_entry (λ qs. qs ≡ rs) s f e es rs refl (λ it. absurd (both_ways (has_ended s rs) it.lasts ended))

-- a session by itself has no base
pub alone_rows : (f : ℕ) (es : List CommandEntry) → rows_over alone f es ≡ rows_of f es
alone_rows f es = append-nil (rows_of f es)

-- ---- each client and request has one row

-- so it is in the rows of any entries, where it is so in the base
pub chain_once : (s : Start) (f : ℕ) (es : List CommandEntry) → AreOnce s.base → AreOnce (rows_over s f es)
chain_once s f [] once = once
chain_once s f (e ∷ es) once =
    let h = chain_once s f es once in by_entry (λ rs. AreOnce (rs ++ s.base)) s f e es (own_rows s f es) h (λ it. (it.none, h))

pub rows_once : (f : ℕ) (es : List CommandEntry) → AreOnce (rows_of f es)
rows_once f es = subst (λ (rs : List Row). AreOnce rs) (alone_rows f es) (chain_once alone f es tt)

-- ---- a part's rows are a part

-- parts with the same list behind them
pub part_before : {X : Type 0} (xs ys rest : List X) → IsPart xs ys → IsPart (xs ++ rest) (ys ++ rest)
part_before xs ys rest part = (part.0, sym (append_assoc part.0 xs rest) ∙ ap (λ (l : List _). l ++ rest) part.1)

own_more : (s : Start) (f : ℕ) (ms es : List CommandEntry) → IsPart (own_rows s f es) (own_rows s f (ms ++ es))
own_more s f [] es = ([], refl)
own_more s f (m ∷ ms) es =
    let h = own_more s f ms es in
    by_entry (λ rs. IsPart (own_rows s f es) rs) s f m (ms ++ es) (own_rows s f (ms ++ es)) h (λ it. (row_of m ∷ h.0, ap (λ t. row_of m ∷ t) h.1))

-- entries of which some are a part have rows of which theirs are a part
pub own_part : (s : Start) (f : ℕ) (es fs : List CommandEntry) → IsPart es fs → IsPart (own_rows s f es) (own_rows s f fs)
own_part s f es fs h = subst (λ (t : List CommandEntry). IsPart (own_rows s f es) (own_rows s f t)) h.1 (own_more s f h.0 es)

pub rows_part : (f : ℕ) (es fs : List CommandEntry) → IsPart es fs → IsPart (rows_of f es) (rows_of f fs)
rows_part = own_part alone

-- entries of one identifier log by what two replicas delivered, where that is equal
pub same_entries : (a b : Id → Option (List ℕ)) (xs : List Id) → ((x : Id) → IsIn x xs → a x ≡ b x) → entries_of_log a xs ≡ entries_of_log b xs
same_entries a b [] same = refl
same_entries a b (x ∷ xs) same =
    ap₂ (λ (e : CommandEntry) (es : List CommandEntry). e ∷ es) (ap (λ o. record { id = x; command = unwrap_or o [] }) (same x (inl refl)))
    (same_entries a b xs (λ y h. same y (inr h)))

entries_more : (a : Id → Option (List ℕ)) (ms xs : List Id) → entries_of_log a (ms ++ xs) ≡ entries_of_log a ms ++ entries_of_log a xs
entries_more a [] xs = refl
entries_more a (m ∷ ms) xs = ap (λ es. entry_of_id a m ∷ es) (entries_more a ms xs)

-- of two logs of which one is a part of the other, where the replicas delivered the same commands, the entries of the one are a part
entries_part : (a b : Id → Option (List ℕ)) (xs ys : List Id) → IsPart xs ys → ((x : Id) → IsIn x xs → a x ≡ b x)
    → IsPart (entries_of_log a xs) (entries_of_log b ys)
entries_part a b xs ys h same =
    (entries_of_log b h.0, ap (λ es. entries_of_log b h.0 ++ es) (same_entries a b xs same) ∙ (sym (entries_more b h.0 xs) ∙ ap (entries_of_log b) h.1))

-- and so are the rows
pub command_part : (f : ℕ) (a b : Id → Option (List ℕ)) (xs ys : List Id) → IsPart xs ys → ((x : Id) → IsIn x xs → a x ≡ b x)
    → IsPart (command_rows f a xs) (command_rows f b ys)
command_part f a b xs ys h same = rows_part f (entries_of_log a xs) (entries_of_log b ys) (entries_part a b xs ys h same)

-- over one base too
pub chain_part : (s : Start) (f : ℕ) (a b : Id → Option (List ℕ)) (xs ys : List Id) → IsPart xs ys → ((x : Id) → IsIn x xs → a x ≡ b x)
    → IsPart (chain_rows s f a xs) (chain_rows s f b ys)
chain_part s f a b xs ys h same =
    part_before (own_rows s f (entries_of_log a xs)) (own_rows s f (entries_of_log b ys)) s.base
    (own_part s f (entries_of_log a xs) (entries_of_log b ys) (entries_part a b xs ys h same))

-- of which the base is a part
pub base_part : (s : Start) (f : ℕ) (es : List CommandEntry) → IsPart s.base (rows_over s f es)
base_part s f es = (own_rows s f es, refl)

-- ---- a row is that of an entry

-- the row is that of an identifier of the list
pub record IsRowOf (a : Id → Option (List ℕ)) (xs : List Id) (r : Row) : Type 0 where
  pub id : Id
  pub listed : IsIn id xs
  pub row : row_of (entry_of_id a id) ≡ r

-- it was there, or it is that of the newest entry
row_now : (s : Start) (f : ℕ) (e : CommandEntry) (es : List CommandEntry) (rs : List Row) (r : Row) → HasRow (rows_with s f e es rs) r → HasRow rs r ⊎ (Enters s f e es rs × (row_of e ≡ r))
row_now s f e es rs r h =
    by_entry (λ qs. HasRow qs r → HasRow rs r ⊎ (Enters s f e es rs × (row_of e ≡ r))) s f e es rs (λ there. inl there)
    (λ it now. elim now [ inl e ↦ inr (it, e) | inr there ↦ inl there ]) h

-- each row above the base is that of an identifier
pub own_is : (s : Start) (f : ℕ) (a : Id → Option (List ℕ)) (xs : List Id) (r : Row) → HasRow (own_rows s f (entries_of_log a xs)) r → IsRowOf a xs r
own_is s f a [] r h = absurd h
own_is s f a (x ∷ xs) r h =
    elim (row_now s f (entry_of_id a x) (entries_of_log a xs) (own_rows s f (entries_of_log a xs)) r h) [
      | inl there ↦ let i = own_is s f a xs r there in record { id = i.id; listed = inr i.listed; row = i.row }
      | inr here ↦ record { id = x; listed = inl refl; row = here.1 }
    ]

pub row_is : (f : ℕ) (a : Id → Option (List ℕ)) (xs : List Id) (r : Row) → HasRow (command_rows f a xs) r → IsRowOf a xs r
row_is = own_is alone

-- ---- its command is confirmed

counts_more : (p q : ℕ → Bool) → ((k : ℕ) → p k ≡ true → q k ≡ true) → count_origins p ≤ count_origins q
unfolding count_origins
counts_more p q more = count_more p q more (replicas 256)

counts_none : (p : ℕ → Bool) → ((k : ℕ) → p k ≡ true → ⊥) → count_origins p ≡ 0
unfolding count_origins
counts_none p none = count_none p (replicas 256) none

counts_same : (p q : ℕ → Bool) → ((k : ℕ) → p k ≡ q k) → count_origins p ≡ count_origins q
unfolding count_origins
counts_same p q alike = count_same p q alike (replicas 256)

-- more entries have no fewer origins
origins_more : (e : CommandEntry) (es : List CommandEntry) (r : Row) → origins es r ≤ origins (e ∷ es) r
origins_more e es r =
    counts_more (is_origin es r) (is_origin (e ∷ es) r) (λ k there. or_right (is_same_command (row_of e) r && e.id.origin == k) (is_origin es r k) there)

-- the command of each row above the base has f + 1 origins
pub own_confirmed : (s : Start) (f : ℕ) (es : List CommandEntry) (r : Row) → HasRow (own_rows s f es) r → f < origins es r
own_confirmed s f [] r h = absurd h
own_confirmed s f (e ∷ es) r h =
    elim (row_now s f e es (own_rows s f es) r h) [
      | inl there ↦ let before = own_confirmed s f es r there in let more = origins_more e es r in omega (arith, before, more)
      | inr here ↦
          let enough = leb-true (f + 1) (origins (e ∷ es) (row_of e)) here.0.confirmed in
          subst (λ (q : Row). f < origins (e ∷ es) q) here.1 (omega (arith, enough))
    ]

pub row_confirmed : (f : ℕ) (es : List CommandEntry) (r : Row) → HasRow (rows_of f es) r → f < origins es r
row_confirmed = own_confirmed alone

-- ---- a command that is confirmed has a row

-- two commands that are one
pub record AreOne (q r : Row) : Type 0 where
  pub client : q.client ≡ r.client
  pub request : q.request ≡ r.request
  pub payload : q.payload ≡ r.payload

pub one_from : (q r : Row) → is_same_command q r ≡ true → AreOne q r
one_from q r is =
    let client = and_parts (q.client == r.client) (q.request == r.request && bytes_eq q.payload r.payload) is in
    let rest = and_parts (q.request == r.request) (bytes_eq q.payload r.payload) client.1 in
    record {
      client = eqb-true q.client r.client client.0;
      request = eqb-true q.request r.request rest.0;
      payload = (bytes_eq-Decides q.payload r.payload).0 rest.1;
    }

-- have the same origins
pub same_origin : (es : List CommandEntry) (q r : Row) → AreOne q r → (k : ℕ) → is_origin es q k ≡ is_origin es r k
same_origin [] q r one k = refl
same_origin (e ∷ es) q r one k =
    let same : is_same_command (row_of e) q ≡ is_same_command (row_of e) r =
    ap₂ (λ c n. (row_of e).client == c && ((row_of e).request == n && bytes_eq (row_of e).payload q.payload)) one.client one.request
    ∙ ap (λ p. (row_of e).client == r.client && ((row_of e).request == r.request && bytes_eq (row_of e).payload p)) one.payload in
    ap₂ (λ a b. (a && e.id.origin == k) || b) same (same_origin es q r one k)

-- the row of its client and request stays
row_stays : (s : Start) (f : ℕ) (e : CommandEntry) (es : List CommandEntry) (rs : List Row) (client request : ℕ) → has_row (rs ++ s.base) client request ≡ true
    → has_row (rows_with s f e es rs ++ s.base) client request ≡ true
row_stays s f e es rs client request has =
    by_entry (λ qs. has_row (qs ++ s.base) client request ≡ true) s f e es rs has
    (λ it. or_right (client_of e.command == client && request_of e.command == request) (has_row (rs ++ s.base) client request) has)

-- and one that is confirmed has one, where the log isn't over
row_here : (s : Start) (f : ℕ) (e : CommandEntry) (es : List CommandEntry) (rs : List Row) → has_ended s rs ≡ false → is_confirmed f (e ∷ es) (row_of e) ≡ true
    → has_its e (rows_with s f e es rs ++ s.base) ≡ true
row_here s f e es rs lasts confirmed = go (has_its e (rs ++ s.base)) refl
  where
    go : (b : Bool) → has_its e (rs ++ s.base) ≡ b → has_its e (rows_with s f e es rs ++ s.base) ≡ true
    go true has = row_stays s f e es rs (client_of e.command) (request_of e.command) has
    go false none =
        let is = enters_from s f e es rs (record { lasts = lasts; none = none; confirmed = confirmed }) in
        ap (λ (b : Bool). has_its e ((if b then row_of e ∷ rs else rs) ++ s.base)) is
        ∙ or_left (client_of e.command == client_of e.command && request_of e.command == request_of e.command) (has_its e (rs ++ s.base))
        (and_from (client_of e.command == client_of e.command) (request_of e.command == request_of e.command) (eq-eqb _ _ refl) (eq-eqb _ _ refl))

-- a command has a row of its client and request, or the log is over
abbrev pub IsCovered : Start → List Row → Row → Type 0
IsCovered s rs r = (has_row (rs ++ s.base) r.client r.request ≡ true) ⊎ (has_ended s rs ≡ true)

-- it stays so
covered_stays : (s : Start) (f : ℕ) (e : CommandEntry) (es : List CommandEntry) (rs : List Row) (r : Row) → IsCovered s rs r → IsCovered s (rows_with s f e es rs) r
covered_stays s f e es rs r (inl has) = inl (row_stays s f e es rs r.client r.request has)
covered_stays s f e es rs r (inr ended) = inr (ap (has_ended s) (ended_stays s f e es rs ended) ∙ ended)

-- and becomes so with the origin that confirms it
covered_here : (s : Start) (f : ℕ) (e : CommandEntry) (es : List CommandEntry) (rs : List Row) → is_confirmed f (e ∷ es) (row_of e) ≡ true → IsCovered s (rows_with s f e es rs) (row_of e)
covered_here s f e es rs confirmed =
    elim (cases_Bool (has_ended s rs)) [
      | inl ended ↦ covered_stays s f e es rs (row_of e) (inr ended)
      | inr lasts ↦ inl (row_here s f e es rs lasts confirmed)
    ]

-- so each command with f + 1 origins
pub own_covers : (s : Start) (f : ℕ) (es : List CommandEntry) (r : Row) → f < origins es r → IsCovered s (own_rows s f es) r
own_covers s f [] r many = let none = counts_none (is_origin [] r) (λ k is. both_ways false refl is) in absurd (omega (arith, many, none))
own_covers s f (e ∷ es) r many =
    elim (cases_lt f (origins es r)) [
      | inl before ↦ covered_stays s f e es (own_rows s f es) r (own_covers s f es r before)
      | inr few ↦
          elim (cases_Bool (is_same_command (row_of e) r)) [
            | inl same ↦
                let one = one_from (row_of e) r same in
                let alike = counts_same (is_origin (e ∷ es) (row_of e)) (is_origin (e ∷ es) r) (same_origin (e ∷ es) (row_of e) r one) in
                let here = covered_here s f e es (own_rows s f es) (le-leb (f + 1) (origins (e ∷ es) (row_of e)) (omega (arith, alike, many))) in
                covered_alike s (own_rows s f (e ∷ es)) (row_of e) r one here
            | inr other ↦
                let alike = counts_same (is_origin (e ∷ es) r) (is_origin es r) (λ k. ap (λ (b : Bool). (b && e.id.origin == k) || is_origin es r k) other) in
                absurd (omega (arith, alike, many, few))
          ]
    ]
  where
    covered_alike : (s : Start) (rs : List Row) (q r : Row) → AreOne q r → IsCovered s rs q → IsCovered s rs r
    covered_alike s rs q r one (inl has) = inl (sym (ap₂ (λ c n. has_row (rs ++ s.base) c n) one.client one.request) ∙ has)
    covered_alike s rs q r one (inr ended) = inr ended

pub row_covers : (f : ℕ) (es : List CommandEntry) (r : Row) → f < origins es r → has_row (rows_of f es) r.client r.request ≡ true
row_covers f es r many =
    elim (own_covers alone f es r many) [
      | inl has ↦ ap (λ (rs : List Row). has_row rs r.client r.request) (sym (alone_rows f es)) ∙ has
      | inr ended ↦ absurd (both_ways false refl ended)
    ]

-- ---- an origin is that of an identifier

-- an identifier of the list is of this replica and of the command of r
pub record IsOriginOf (a : Id → Option (List ℕ)) (xs : List Id) (r : Row) (k : ℕ) : Type 0 where
  pub id : Id
  pub listed : IsIn id xs
  pub origin : id.origin ≡ k
  pub same : is_same_command (row_of (entry_of_id a id)) r ≡ true

pub origin_is : (a : Id → Option (List ℕ)) (xs : List Id) (r : Row) (k : ℕ) → is_origin (entries_of_log a xs) r k ≡ true → IsOriginOf a xs r k
origin_is a [] r k is = absurd (both_ways false refl is)
origin_is a (x ∷ xs) r k is =
    elim (or_cases (is_same_command (row_of (entry_of_id a x)) r && x.origin == k) (is_origin (entries_of_log a xs) r k) is) [
      | inl here ↦
          let parts = and_parts (is_same_command (row_of (entry_of_id a x)) r) (x.origin == k) here in
          record { id = x; listed = inl refl; origin = eqb-true x.origin k parts.1; same = parts.0 }
      | inr there ↦ let i = origin_is a xs r k there in record { id = i.id; listed = inr i.listed; origin = i.origin; same = i.same }
    ]
