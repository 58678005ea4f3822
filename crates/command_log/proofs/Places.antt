-- Where rows stand: a position is that of a row exactly where the row stands there.
use Rattle.std.specs.Prelude.{◌≡◌, ℕ, zero, suc, ◌<◌, Bool, true, false, ◌==◌, ◌&&◌, ◌||◌, if◌then◌else◌, List, [], ◌∷◌, ◌++◌, length, drop, reverse, slice_get, Option, Some, is_some, Result, Ok, Err, OnErr, refl, ◌⊎◌}
use Rattle.std.proofs.Common.{sym, ◌∙◌, ap, ap₂, subst, inl, inr, eqb-true, arith}
use mathlib.Core.List.{reverse-cons}
use Rattle.std.proofs.lemmas.List.{length-reverse, reverse-append}
use Rattle.std.proofs.lemmas.Bool.{and_parts, and_from, eq-eqb, or_left, or_right, both_ways, false_from_ne_true}
use Rattle.std.specs.Ordering.{nat_cmp, is_eq}
use Rattle.std.specs.BTreeMap.{is_at}
use Rattle.std.proofs.lemmas.Map.Lookups.{exact_unsigned}
use Rattle.std.specs.Cmp.{nat_cmp_total}
use Rattle.std.proofs.lemmas.Cmp.{tied_itself}
use Rattle.ritas_base.specs.SlotOrder.{equal_from}
use Rattle.command_log.specs.Rows.{CommandEntry, Row, client_of, request_of, row_of, has_row, row_at, position_of, AreOnce, HasPlace}
use Rattle.command_log.specs.Index.{row_key}

-- ---- the last of a list

-- what is at a place of a list with one more behind: it was there, or it is that one
abbrev Got : {X : Type 0} → List X → X → ℕ → X → Type 0
Got xs x i y = (slice_get xs i ≡ Some y) ⊎ ((i ≡ length xs) × (x ≡ y))

some_is : {X : Type 0} (x y : X) → Some x ≡ Some y → x ≡ y
some_is x y e = cc

got_last : {X : Type 0} (xs : List X) (x y : X) (i : ℕ) → slice_get (xs ++ x ∷ []) i ≡ Some y → Got xs x i y
got_last [] x y zero h = inr (refl, some_is x y h)
got_last [] x y (suc i) h = absurd (cc)
got_last (z ∷ xs) x y zero h = inl h
got_last (z ∷ xs) x y (suc i) h =
    elim (got_last xs x y i h) [
      | inl there ↦ inl there
      | inr last ↦ inr (ap suc last.0, last.1)
    ]

get_more : {X : Type 0} (xs : List X) (x y : X) (i : ℕ) → slice_get xs i ≡ Some y → slice_get (xs ++ x ∷ []) i ≡ Some y
get_more [] x y i h = absurd (cc)
get_more (z ∷ xs) x y zero h = h
get_more (z ∷ xs) x y (suc i) h = get_more xs x y i h

get_last : {X : Type 0} (xs : List X) (x : X) → slice_get (xs ++ x ∷ []) (length xs) ≡ Some x
get_last [] x = refl
get_last (z ∷ xs) x = get_last xs x

-- ---- what holds where there is an error

pub on_err : {A E : Type 0} {P : Type 0} (r : Result A E) → P → OnErr r P
on_err (Ok value) p = tt
on_err (Err fault) p = p

-- ---- rows

-- whether the row is of this client and request
abbrev is_of : Row → ℕ → ℕ → Bool
is_of r client request = r.client == client && r.request == request

row_last : (r : Row) (rs : List Row) (p : ℕ) (y : Row) → row_at (r ∷ rs) p ≡ Some y → (row_at rs p ≡ Some y) ⊎ ((p ≡ length rs) × (r ≡ y))
row_last r rs p y h =
    elim (got_last (reverse rs) r y p (ap (λ (l : List Row). slice_get l p) (sym (reverse-cons r rs)) ∙ h)) [
      | inl there ↦ inl there
      | inr last ↦ inr (last.0 ∙ length-reverse rs, last.1)
    ]

row_more : (r : Row) (rs : List Row) (p : ℕ) (y : Row) → row_at rs p ≡ Some y → row_at (r ∷ rs) p ≡ Some y
row_more r rs p y h = ap (λ (l : List Row). slice_get l p) (reverse-cons r rs) ∙ get_more (reverse rs) r y p h

row_here : (r : Row) (rs : List Row) → row_at (r ∷ rs) (length rs) ≡ Some r
row_here r rs =
    ap (λ (l : List Row). slice_get l (length rs)) (reverse-cons r rs)
    ∙ (ap (λ (n : ℕ). slice_get (reverse rs ++ r ∷ []) n) (sym (length-reverse rs)) ∙ get_last (reverse rs) r)

has_at : (rs : List Row) (p : ℕ) (y : Row) (client request : ℕ) → row_at rs p ≡ Some y → y.client ≡ client → y.request ≡ request → has_row rs client request ≡ true
has_at [] p y client request h c q = absurd (cc)
has_at (r ∷ rs) p y client request h c q =
    elim (row_last r rs p y h) [
      | inl there ↦ or_right (is_of r client request) (has_row rs client request) (has_at rs p y client request there c q)
      | inr last ↦
          or_left (is_of r client request) (has_row rs client request)
          (and_from (r.client == client) (r.request == request) (eq-eqb r.client client (ap (λ (x : Row). x.client) last.1 ∙ c)) (eq-eqb r.request request (ap (λ (x : Row). x.request) last.1 ∙ q)))
    ]

-- what has a position has a row there
pub place_from : (rs : List Row) (p client request : ℕ) → position_of rs client request ≡ Some p → HasPlace rs p client request
place_from [] p client request h = absurd (cc)
place_from (r ∷ rs) p client request h = go (λ e. place_from rs p client request e) (is_of r client request) refl h
  where
    go : (position_of rs client request ≡ Some p → HasPlace rs p client request) → (b : Bool) → is_of r client request ≡ b → (if b then Some (length rs) else position_of rs client request) ≡ Some p → HasPlace (r ∷ rs) p client request
    go below true is h =
        let parts = and_parts (r.client == client) (r.request == request) is in
        record {
          row = r;
          stands = subst (λ (n : ℕ). row_at (r ∷ rs) n ≡ Some r) (some_is (length rs) p h) (row_here r rs);
          of_client = eqb-true r.client client parts.0;
          of_request = eqb-true r.request request parts.1;
        }
    go below false is h =
        let there = below h in
        record { row = there.row; stands = row_more r rs p there.row there.stands; of_client = there.of_client; of_request = there.of_request }

-- and a row that stands somewhere has that position
pub place_to : (rs : List Row) (p client request : ℕ) → AreOnce rs → HasPlace rs p client request → position_of rs client request ≡ Some p
place_to [] p client request once h = let no = h.stands in absurd (cc)
place_to (r ∷ rs) p client request once h =
    elim (row_last r rs p h.row h.stands) [
      | inl there ↦
          let rest = place_to rs p client request once.1 (record { row = h.row; stands = there; of_client = h.of_client; of_request = h.of_request }) in
          let other : is_of r client request ≡ false =
          false_from_ne_true (is_of r client request) (λ is.
          let parts = and_parts (r.client == client) (r.request == request) is in
          both_ways (has_row rs r.client r.request) once.0
          (has_at rs p h.row r.client r.request there (h.of_client ∙ sym (eqb-true r.client client parts.0)) (h.of_request ∙ sym (eqb-true r.request request parts.1)))) in
          ap (λ (b : Bool). if b then Some (length rs) else position_of rs client request) other ∙ rest
      | inr last ↦
          let is : is_of r client request ≡ true =
          and_from (r.client == client) (r.request == request) (eq-eqb r.client client (ap (λ (x : Row). x.client) last.1 ∙ h.of_client)) (eq-eqb r.request request (ap (λ (x : Row). x.request) last.1 ∙ h.of_request)) in
          ap (λ (b : Bool). if b then Some (length rs) else position_of rs client request) is ∙ ap Some (sym last.0)
    ]

-- there is a position exactly where there is a row
pub has_position : (rs : List Row) (client request : ℕ) → is_some (position_of rs client request) ≡ has_row rs client request
has_position [] client request = refl
has_position (r ∷ rs) client request = go (has_position rs client request) (is_of r client request)
  where
    go : is_some (position_of rs client request) ≡ has_row rs client request → (b : Bool) → is_some (if b then Some (length rs) else position_of rs client request) ≡ (b || has_row rs client request)
    go below true = refl
    go below false = below

-- a row from an entry's parts
pub row_from : (e : CommandEntry) (client request : ℕ) (payload : List ℕ) → client ≡ client_of e.command → request ≡ request_of e.command → payload ≡ drop 8 e.command
    → record { id = e.id; client = client; request = request; payload = payload } ≡ row_of e
row_from e client request payload a b p =
    ap₂ (λ m n. record { id = e.id; client = m; request = n; payload = payload }) a b ∙ ap (λ l. record { id = e.id; client = client_of e.command; request = request_of e.command; payload = l }) p

-- what was found tells whether there is a row
pub found_has : (rs : List Row) (o : Option ℕ) (a b client request : ℕ) (t : Bool) → a ≡ client → b ≡ request → o ≡ position_of rs a b → is_some o ≡ t → has_row rs client request ≡ t
found_has rs o a b client request t client_is request_is found is =
    sym (has_position rs client request) ∙ (sym (ap₂ (λ x y. is_some (position_of rs x y)) client_is request_is) ∙ (sym (ap is_some found) ∙ is))

-- rows with one more behind, read from the newest
pub pushed : (xs ys rs : List Row) (r : Row) → ys ≡ xs ++ r ∷ [] → reverse xs ≡ rs → reverse ys ≡ r ∷ rs
pushed xs ys rs r is view = ap reverse is ∙ (reverse-append xs (r ∷ []) ∙ ap (λ l. r ∷ l) view)

-- as many rows are kept as the log has
pub row_length : (xs rs : List Row) → reverse xs ≡ rs → length xs ≡ length rs
row_length xs rs view = sym (length-reverse xs) ∙ ap length view

-- ---- the index

keys_are : (a b c q : ℕ) → b < 4294967296 → q < 4294967296 → row_key a b ≡ row_key c q → (a ≡ c) × (b ≡ q)
keys_are a b c q small other e = (omega (arith, small, other, e), omega (arith, small, other, e))

same_test : (a b : Bool) → (a ≡ true → b ≡ true) → (b ≡ true → a ≡ true) → a ≡ b
same_test true b to from = sym (to refl)
same_test false true to from = from refl
same_test false false to from = refl

-- keys are equal exactly where both numbers are
pub key_eq : (a b c q : ℕ) → b < 4294967296 → q < 4294967296 → (row_key a b == row_key c q) ≡ (a == c && b == q)
key_eq a b c q small other =
    same_test _ _
    (λ alike.
    let same = keys_are a b c q small other (eqb-true (row_key a b) (row_key c q) alike) in
    and_from (a == c) (b == q) (eq-eqb a c same.0) (eq-eqb b q same.1))
    (λ both.
    let parts = and_parts (a == c) (b == q) both in
    eq-eqb (row_key a b) (row_key c q) (ap₂ row_key (eqb-true a c parts.0) (eqb-true b q parts.1)))

pub key_test : (a b c q : ℕ) → b < 4294967296 → q < 4294967296 → is_at (nat_cmp (row_key a b)) (row_key c q) ≡ (a == c && b == q)
key_test a b c q small other =
    same_test _ _
    (λ alike.
    let same = keys_are a b c q small other (exact_unsigned (row_key a b) (row_key c q) (equal_from _ alike)) in
    and_from (a == c) (b == q) (eq-eqb a c same.0) (eq-eqb b q same.1))
    (λ both.
    let parts = and_parts (a == c) (b == q) both in
    let same : row_key c q ≡ row_key a b = ap₂ row_key (sym (eqb-true a c parts.0)) (sym (eqb-true b q parts.1)) in
    ap (λ (k : ℕ). is_eq (nat_cmp (row_key a b) k)) same ∙ ap is_eq (tied_itself nat_cmp_total (row_key a b)))
