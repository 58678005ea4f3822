-- Which identifiers stand in lists that are put in order, that pass, or that are put together.
use Rattle.std.specs.Prelude.{◌≡◌, ℕ, ◌+◌, ◌<◌, ◌≤◌, Bool, true, false, ◌==◌, ◌&&◌, ◌||◌, nat_le, if◌then◌else◌, List, [], ◌∷◌, ◌++◌, refl, ◌⊎◌}
use Rattle.std.proofs.Common.{sym, ◌∙◌, ap, ap₂, subst, inl, inr, arith}
use Rattle.std.proofs.lemmas.Bool.{cases_Bool, cases_order, and_parts, and_from, or_cases, or_left, or_right, eqb-true, eq-eqb, both_ways, leb-true}
use Rattle.ritas_base.specs.declared.id.Id.{Id}
use Rattle.ritas_base.specs.Numbers.{Numbers}
use Rattle.ritas_base.specs.Quorums.{count_no}
use Rattle.frame_codec.specs.Values.{ids_of}
use Rattle.layer_api.specs.Service.{has_id}
use Rattle.layer_api.specs.Proposals.{backers}
use Rattle.ordered_rounds.specs.Identifiers.{is_below, insert_id, in_order, passing_ids, append_ids}
use Rattle.ordered_rounds.specs.Rounds.{entry_ids, backed}
use Rattle.ordered_rounds.specs.Laws.Ordered.{below_from}

abbrev pub is_same : Id → Id → Bool
is_same x y = x.origin == y.origin && x.num == y.num

pub same_id : (x y : Id) → is_same x y ≡ true → x ≡ y
same_id x y h =
    let parts = and_parts (x.origin == y.origin) (x.num == y.num) h in
    ap₂ (λ (o : ℕ) (k : ℕ). record { origin = o; num = k }) (eqb-true x.origin y.origin parts.0) (eqb-true x.num y.num parts.1)

pub itself : (x : Id) → is_same x x ≡ true
itself x = and_from (x.origin == x.origin) (x.num == x.num) (eq-eqb x.origin x.origin refl) (eq-eqb x.num x.num refl)

-- ---- to put a list in order keeps its members

order_cases : (a b : ℕ) → (a < b) ⊎ ((a ≡ b) ⊎ (b < a))
order_cases a b =
    elim (cases_order a b) [
      | inl e ↦ inr (inl e)
      | inr (inl l) ↦ inl l
      | inr (inr l) ↦ inr (inr l)
    ]

-- of two identifiers neither of which is below the other there is one
neither : (x y : Id) → is_below x y ≡ false → is_below y x ≡ false → x ≡ y
neither x y e f =
    elim (order_cases x.origin y.origin) [
      | inl l ↦ absurd (both_ways _ e (below_from x y (inl l)))
      | inr (inr l) ↦ absurd (both_ways _ f (below_from y x (inl l)))
      | inr (inl o) ↦
          elim (order_cases x.num y.num) [
            | inl l ↦ absurd (both_ways _ e (below_from x y (inr (sym o, l))))
            | inr (inr l) ↦ absurd (both_ways _ f (below_from y x (inr (o, l))))
            | inr (inl k) ↦ ap₂ (λ (a : ℕ) (b : ℕ). record { origin = a; num = b }) o k
          ]
    ]

insert_has : (x : Id) (ys : List Id) (z : Id) → has_id (insert_id x ys) z ≡ (is_same x z || has_id ys z)
insert_has x [] z = refl
insert_has x (y ∷ ys) z = go (is_below x y) (is_below y x) refl refl (insert_has x ys z)
  where
    swap : (a b c : Bool) → (b || (a || c)) ≡ (a || (b || c))
    swap true true c = refl
    swap true false c = refl
    swap false true c = refl
    swap false false c = refl

    twice : (a b c : Bool) → (a ≡ true → b ≡ true) → (b || c) ≡ (a || (b || c))
    twice true b c to = ap (λ t. t || c) (to refl)
    twice false b c to = refl

    go : (a b : Bool) → is_below x y ≡ a → is_below y x ≡ b → has_id (insert_id x ys) z ≡ (is_same x z || has_id ys z)
        → has_id (if a then x ∷ y ∷ ys else if b then y ∷ insert_id x ys else y ∷ ys) z ≡ (is_same x z || (is_same y z || has_id ys z))
    go true b e f ih = refl
    go false true e f ih = ap (λ t. is_same y z || t) ih ∙ swap (is_same x z) (is_same y z) (has_id ys z)
    go false false e f ih =
        twice (is_same x z) (is_same y z) (has_id ys z) (λ h. subst (λ (q : Id). is_same q z ≡ true) (neither x y e f) h)

pub in_order_has : (xs : List Id) (z : Id) → has_id (in_order xs) z ≡ has_id xs z
in_order_has [] z = refl
in_order_has (x ∷ xs) z = insert_has x (in_order xs) z ∙ ap (λ t. is_same x z || t) (in_order_has xs z)

-- ---- those that pass

-- those kept are those that pass
pub kept_has : (test : Id → Bool) (xs : List Id) (z : Id) → has_id (passing_ids test xs) z ≡ (test z && has_id xs z)
kept_has test [] z = none (test z)
  where
    none : (t : Bool) → false ≡ (t && false)
    none true = refl
    none false = refl
kept_has test (x ∷ xs) z = go (test x) (test z) (is_same x z) refl refl refl (kept_has test xs z)
  where
    go : (a t s : Bool) → test x ≡ a → test z ≡ t → is_same x z ≡ s → has_id (passing_ids test xs) z ≡ (t && has_id xs z)
        → has_id (if a then x ∷ passing_ids test xs else passing_ids test xs) z ≡ (t && (s || has_id xs z))
    go true true true p q e ih = ap (λ b. b || has_id (passing_ids test xs) z) e
    go true false true p q e ih = absurd (both_ways (test z) q (subst (λ (y : Id). test y ≡ true) (same_id x z e) p))
    go true t false p q e ih = ap (λ b. b || has_id (passing_ids test xs) z) e ∙ ih
    go false true true p q e ih = absurd (both_ways (test z) (subst (λ (y : Id). test y ≡ false) (same_id x z e) p) q)
    go false false true p q e ih = ih
    go false t false p q e ih = ih

-- ---- who is in some list is among the identifiers

has_front : (xs ys : List Id) (x : Id) → has_id xs x ≡ true → has_id (xs ++ ys) x ≡ true
has_front (z ∷ xs) ys x h =
    elim (or_cases (z.origin == x.origin && z.num == x.num) (has_id xs x) h) [
      | inl here ↦ or_left (z.origin == x.origin && z.num == x.num) (has_id (xs ++ ys) x) here
      | inr there ↦ or_right (z.origin == x.origin && z.num == x.num) (has_id (xs ++ ys) x) (has_front xs ys x there)
    ]
has_front [] ys x h = absurd cc

pub has_behind : (xs ys : List Id) (x : Id) → has_id ys x ≡ true → has_id (xs ++ ys) x ≡ true
has_behind [] ys x h = h
has_behind (z ∷ xs) ys x h = or_right (z.origin == x.origin && z.num == x.num) (has_id (xs ++ ys) x) (has_behind xs ys x h)

pub backed_stands : (lists : List (List ℕ)) (x : Id) → 1 ≤ backers lists x → has_id (entry_ids lists) x ≡ true
backed_stands [] x some = absurd (omega (arith, some))
backed_stands (e ∷ lists) x some =
    elim (cases_Bool (has_id (ids_of e) x)) [
      | inl here ↦ has_front (ids_of e) (entry_ids lists) x here
      | inr out ↦
          let rest = count_no (λ (l : List ℕ). has_id (ids_of l) x) e lists out in
          has_behind (ids_of e) (entry_ids lists) x (backed_stands lists x (omega (arith, rest, some)))
    ]

-- who stands in f + 1 lists is backed, and nobody else
pub backed_has : (p : Numbers) (lists : List (List ℕ)) (x : Id)
    → has_id (backed p lists) x ≡ nat_le (p.f + 1) (backers lists x)
backed_has p lists x =
    kept_has (λ z. nat_le (p.f + 1) (backers lists z)) (in_order (entry_ids lists)) x
    ∙ go (nat_le (p.f + 1) (backers lists x)) refl
  where
    go : (b : Bool) → nat_le (p.f + 1) (backers lists x) ≡ b → (b && has_id (in_order (entry_ids lists)) x) ≡ b
    go true many =
        let l = leb-true (p.f + 1) (backers lists x) many in
        in_order_has (entry_ids lists) x ∙ backed_stands lists x (omega (arith, l))
    go false few = refl

pub backed_many : (p : Numbers) (lists : List (List ℕ)) (x : Id) → has_id (backed p lists) x ≡ true
    → p.f + 1 ≤ backers lists x
backed_many p lists x there = leb-true (p.f + 1) (backers lists x) (sym (backed_has p lists x) ∙ there)

-- ---- a log with more appended

-- who stands in a log stands in it with more
pub append_still : (xs log : List Id) (x : Id) → has_id log x ≡ true → has_id (append_ids xs log) x ≡ true
append_still [] log x h = h
append_still (y ∷ xs) log x h = append_still xs (y ∷ log) x (or_right (is_same y x) (has_id log x) h)

-- and so does who is appended
pub append_has : (xs log : List Id) (x : Id) → has_id xs x ≡ true → has_id (append_ids xs log) x ≡ true
append_has [] log x h = absurd cc
append_has (y ∷ xs) log x h =
    elim (or_cases (is_same y x) (has_id xs x) h) [
      | inl here ↦ append_still xs (y ∷ log) x (or_left (is_same y x) (has_id log x) here)
      | inr there ↦ append_has xs (y ∷ log) x there
    ]
