-- Where the rows that replicas gave are kept.
use Rattle.std.specs.Prelude.{◌≡◌, ℕ, zero, suc, ◌+◌, ◌-◌, ◌%◌, ◌<◌, ◌≤◌, ◌≢◌, ◌==◌, Bool, true, false, ◌&&◌, nat_le, nat_lt, List, [], ◌∷◌, ◌++◌, length, slice_get, slice_index_or, Option, Some, None, if◌then◌else◌, refl}
use Rattle.std.proofs.Common.{sym, ◌∙◌, ap, ap₂, arith}
use Rattle.std.specs.Option.{option_or}
use Rattle.std.proofs.lemmas.Bool.{and_parts, and_from, leb-true, ltb-true, le-leb, lt-ltb, eq-eqb, eqb-true, ne_eqb, cond-true, cond-false, both_ways}
use Rattle.std.proofs.lemmas.Option.{slice_get_past}
use Rattle.ritas_base.specs.Shortest.{option_or_none}
use Rattle.command_log.specs.Rows.{Row}
use Rattle.observer.specs.Giving.{row_from, is_near, window}
use Rattle.observer.specs.Places.{first_place, placed, each, Keeps}

-- a position is near
pub record Near (len at : ℕ) : Type 0 where
  pub least : len ≤ at
  pub most : at < len + 64

pub near : (len at : ℕ) → is_near len at ≡ true → Near len at
near len at is =
    let parts = and_parts (nat_le len at) (nat_lt at (len + window)) is in
    record { least = leb-true len at parts.0; most = ltb-true at (len + window) parts.1 }

pub near_from : (len at : ℕ) → len ≤ at → at < len + 64 → is_near len at ≡ true
near_from len at least most = and_from (nat_le len at) (nat_lt at (len + window)) (le-leb len at least) (lt-ltb at (len + window) most)

-- two near positions have different places
pub record SamePlace (at bt k j : ℕ) : Type 0 where
  pub position : at ≡ bt
  pub replica : k ≡ j

pub one_place : (len at bt k j : ℕ) → Near len at → Near len bt → k < each → j < each → first_place at + k ≡ first_place bt + j → SamePlace at bt k j
one_place len at bt k j a b kl jl e =
    let same : at % 64 ≡ bt % 64 = omega (arith, e, kl, jl) in
    record { position = omega (arith, same, a.least, a.most, b.least, b.most); replica = omega (arith, e, kl, jl) }

-- ---- the last of some rows

slice_last : (xs : List Row) (x : Row) → slice_get (xs ++ x ∷ []) (length xs) ≡ Some x
slice_last [] x = refl
slice_last (y ∷ xs) x = slice_last xs x

slice_other : (xs : List Row) (x : Row) (i : ℕ) → i ≢ length xs → slice_get (xs ++ x ∷ []) i ≡ slice_get xs i
slice_other [] x zero ne = absurd (ne refl)
slice_other [] x (suc i) ne = refl
slice_other (y ∷ xs) x zero ne = refl
slice_other (y ∷ xs) x (suc i) ne = slice_other xs x i (λ e. ne (ap suc e))

last_row : (first : ℕ) (front : List Row) (r : Row) (at : ℕ) → first + length front ≡ at → row_from first (front ++ r ∷ []) at ≡ Some r
last_row first front r at e =
    let place : at - first ≡ length front = omega (arith, e) in
    cond-true (nat_le first at) _ _ (le-leb first at (omega (arith, e))) ∙ (ap (slice_get (front ++ r ∷ [])) place ∙ slice_last front r)

before_last : (first : ℕ) (front : List Row) (at : ℕ) → first + length front ≡ at → row_from first front at ≡ None
before_last first front at e =
    cond-true (nat_le first at) _ _ (le-leb first at (omega (arith, e))) ∙ slice_get_past front (at - first) (omega (arith, e))

other_row : (first : ℕ) (front : List Row) (r : Row) (at : ℕ) → (first + length front ≡ at → ⊥) → row_from first (front ++ r ∷ []) at ≡ row_from first front at
other_row first front r at ne = go (nat_le first at) refl
  where
    go : (b : Bool) → nat_le first at ≡ b → (if b then slice_get (front ++ r ∷ []) (at - first) else None) ≡ (if b then slice_get front (at - first) else None)
    go true is = let above = leb-true first at is in slice_other front r (at - first) (λ e. ne (omega (arith, above, e)))
    go false is = refl

pub no_row_from : (first at : ℕ) → row_from first [] at ≡ None
no_row_from first at = go (nat_le first at)
  where
    go : (b : Bool) → (if b then slice_get {X = Row} [] (at - first) else None) ≡ None
    go true = refl
    go false = refl

-- ---- one row is kept

-- where the row of replica from at this position is kept, and nothing else changes
abbrev pub KeepsOne : ℕ → List (Option Row) → List (Option Row) → ℕ → ℕ → Row → Type 0
KeepsOne len old new from bt r = (k at : ℕ) → k < each → is_near len at ≡ true
    → placed new k at ≡ (if from == k && bt == at then option_or (placed old k at) (Some r) else placed old k at)

chosen : (b e : Bool) (m o x y : Option Row) (r : Row) → m ≡ (if b && e then option_or o (Some r) else o)
    → (e ≡ true → (x ≡ None) × (y ≡ Some r)) → (e ≡ false → y ≡ x) → option_or m (if b then x else None) ≡ option_or o (if b then y else None)
chosen false e m o x y r is last other = ap (λ z. option_or z None) is
chosen true true m o x y r is last other =
    let parts = last refl in
    ap₂ option_or is parts.0 ∙ (option_or_none (option_or o (Some r)) ∙ ap (option_or o) (sym parts.1))
chosen true false m o x y r is last other = ap₂ option_or is (sym (other refl))

-- the last of these rows is kept, and then the others
pub keeps_more : (len : ℕ) (old mid new : List (Option Row)) (from first : ℕ) (front rows : List Row) (r : Row) → rows ≡ front ++ r ∷ []
    → KeepsOne len old mid from (first + length front) r → Keeps len mid new from first front → Keeps len old new from first rows
keeps_more len old mid new from first front rows r all one rest = λ k at small is.
    rest k at small is
    ∙ (chosen (from == k) (first + length front == at) (placed mid k at) (placed old k at) (row_from first front at) (row_from first (front ++ r ∷ []) at) r (one k at small is)
    (λ same. let e = eqb-true (first + length front) at same in (before_last first front at e, last_row first front r at e))
    (λ differ. other_row first front r at (λ e. both_ways (first + length front == at) differ (eq-eqb (first + length front) at e)))
    ∙ ap (λ l. option_or (placed old k at) (if from == k then row_from first l at else None)) (sym all))

-- a row whose position the log has passed isn't kept
pub keeps_none : (len : ℕ) (old new : List (Option Row)) (from bt : ℕ) (r : Row) → bt < len → new ≡ old → KeepsOne len old new from bt r
keeps_none len old new from bt r past same = λ k at small is.
    let above = (near len at is).least in
    let differ : (bt == at) ≡ false = ne_eqb bt at (λ e. omega (arith, above, past, e)) in
    ap (λ l. placed l k at) same ∙ sym (cond-false (from == k && bt == at) _ _ (both_false (from == k) (bt == at) differ))
  where
    both_false : (a b : Bool) → b ≡ false → (a && b) ≡ false
    both_false true b e = e
    both_false false b e = refl

-- and one in a near place is
pub keeps_placed : (len : ℕ) (old new : List (Option Row)) (from bt place : ℕ) (r : Row) → from < each → Near len bt → place ≡ first_place bt + from
    → ((i : ℕ) → slice_index_or new i None ≡ (if place == i then option_or (slice_index_or old i None) (Some r) else slice_index_or old i None))
    → KeepsOne len old new from bt r
keeps_placed len old new from bt place r within bt_near is_place each_is = λ k at small is.
    each_is (first_place at + k)
    ∙ ap (λ (b : Bool). if b then option_or (placed old k at) (Some r) else placed old k at)
    (same_test (place == first_place at + k) (from == k && bt == at)
    (λ yes.
    let same = one_place len bt at from k bt_near (near len at is) within small (sym is_place ∙ eqb-true place (first_place at + k) yes) in
    and_from (from == k) (bt == at) (eq-eqb from k same.replica) (eq-eqb bt at same.position))
    (λ yes.
    let parts = and_parts (from == k) (bt == at) yes in
    eq-eqb place (first_place at + k) (is_place ∙ ap₂ (λ x y. first_place x + y) (eqb-true bt at parts.1) (eqb-true from k parts.0))))
  where
    same_test : (a b : Bool) → (a ≡ true → b ≡ true) → (b ≡ true → a ≡ true) → a ≡ b
    same_test true b to back = sym (to refl)
    same_test false true to back = back refl
    same_test false false to back = refl

-- where there is no row, nothing is kept
pub keeps_nothing : (len : ℕ) (old : List (Option Row)) (from first : ℕ) (rows : List Row) → rows ≡ [] → Keeps len old old from first rows
keeps_nothing len old from first rows none = λ k at small is. sym (go (from == k) k at)
  where
    go : (b : Bool) (k at : ℕ) → option_or (placed old k at) (if b then row_from first rows at else None) ≡ placed old k at
    go true k at = ap (option_or (placed old k at)) (ap (λ l. row_from first l at) none ∙ no_row_from first at) ∙ option_or_none (placed old k at)
    go false k at = option_or_none (placed old k at)
