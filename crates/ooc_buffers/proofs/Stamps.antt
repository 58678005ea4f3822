-- Lists in the order of their stamps.
use Rattle.std.specs.Prelude.{◌≡◌, ℕ, ◌+◌, ◌<◌, ◌≤◌, nat_lt, Bool, true, false, ◌||◌, cond, List, [], ◌∷◌, ◌++◌, filter, sum_by, refl}
use Rattle.std.proofs.Common.{sym, ◌∙◌, ap, inl, inr, arith}
use Rattle.std.specs.List.{AllByRecursion, list_any}
use Rattle.std.proofs.lemmas.Bool.{cases_Bool, cond-true, cond-false, ltb-true, ltb-false, lt-ltb, le-ltb}
use Rattle.std.proofs.lemmas.List.Sums.{sum_by-cons}
use Rattle.ooc_buffers.specs.Lists.{HeldItem}
use Rattle.ooc_buffers.specs.Spots.{Spotted, held_in, put, put_all}

-- each stamp is no later than those behind it
abbrev pub IsUp : List Spotted → Type 0
IsUp [] = Unit {0}
IsUp (x ∷ xs) = AllByRecursion (λ y. x.0.stamp ≤ y.0.stamp) xs × IsUp xs

pub put_low : (e x : Spotted) (xs : List Spotted) → e.0.stamp < x.0.stamp → put e (x ∷ xs) ≡ e ∷ x ∷ xs
put_low e x xs less = cond-true (nat_lt e.0.stamp x.0.stamp) (e ∷ x ∷ xs) (x ∷ put e xs) (lt-ltb e.0.stamp x.0.stamp less)

pub put_high : (e x : Spotted) (xs : List Spotted) → x.0.stamp ≤ e.0.stamp → put e (x ∷ xs) ≡ x ∷ put e xs
put_high e x xs more = cond-false (nat_lt e.0.stamp x.0.stamp) (e ∷ x ∷ xs) (x ∷ put e xs) (le-ltb e.0.stamp x.0.stamp more)

-- what is said of an item and of a list is said of the list with it
put_in : (P : Spotted → Type 0) (e x : Spotted) (xs there : List Spotted) (b : Bool) → P e → P x → AllByRecursion P xs → AllByRecursion P there
    → AllByRecursion P (cond b (e ∷ x ∷ xs) (x ∷ there))
put_in P e x xs there true one first all more = (one, (first, all))
put_in P e x xs there false one first all more = (first, more)

pub all_put : (P : Spotted → Type 0) (e : Spotted) (xs : List Spotted) → P e → AllByRecursion P xs → AllByRecursion P (put e xs)
all_put P e [] one all = (one, tt)
all_put P e (x ∷ xs) one all = put_in P e x xs (put e xs) (nat_lt e.0.stamp x.0.stamp) one all.0 all.1 (all_put P e xs one all.1)

above : (a b : ℕ) (xs : List Spotted) → a ≤ b → AllByRecursion (λ y. b ≤ y.0.stamp) xs → AllByRecursion (λ y. a ≤ y.0.stamp) xs
above a b [] less all = tt
above a b (x ∷ xs) less all = let one = all.0 in (omega (arith, less, one), above a b xs less all.1)

up_in : (e x : Spotted) (xs : List Spotted) (b : Bool) → nat_lt e.0.stamp x.0.stamp ≡ b → IsUp (x ∷ xs) → IsUp (put e xs) → IsUp (cond b (e ∷ x ∷ xs) (x ∷ put e xs))
up_in e x xs true is up more =
    let less = ltb-true e.0.stamp x.0.stamp is in
    let low : e.0.stamp ≤ x.0.stamp = omega (arith, less) in
    ((low, above e.0.stamp x.0.stamp xs low up.0), up)
up_in e x xs false is up more =
    let most = ltb-false e.0.stamp x.0.stamp is in
    (all_put (λ y. x.0.stamp ≤ y.0.stamp) e xs (omega (arith, most)) up.0, more)

pub up_put : (e : Spotted) (xs : List Spotted) → IsUp xs → IsUp (put e xs)
up_put e [] up = (tt, tt)
up_put e (x ∷ xs) up = up_in e x xs (nat_lt e.0.stamp x.0.stamp) refl up (up_put e xs up.1)

-- ---- filters

all_if : (P : Spotted → Type 0) (x : Spotted) (xs : List Spotted) (b : Bool) → P x → AllByRecursion P xs → AllByRecursion P (cond b (x ∷ xs) xs)
all_if P x xs true one all = (one, all)
all_if P x xs false one all = all

pub all_filter : (P : Spotted → Type 0) (p : Spotted → Bool) (xs : List Spotted) → AllByRecursion P xs → AllByRecursion P (filter p xs)
all_filter P p [] all = tt
all_filter P p (x ∷ xs) all = all_if P x (filter p xs) (p x) all.0 (all_filter P p xs all.1)

put_front : (e : Spotted) (xs : List Spotted) → AllByRecursion (λ y. e.0.stamp < y.0.stamp) xs → put e xs ≡ e ∷ xs
put_front e [] all = refl
put_front e (x ∷ xs) all = put_low e x xs all.0

pub over : (a b : ℕ) (xs : List Spotted) → a < b → AllByRecursion (λ y. b ≤ y.0.stamp) xs → AllByRecursion (λ y. a < y.0.stamp) xs
over a b [] less all = tt
over a b (x ∷ xs) less all = let one = all.0 in (omega (arith, less, one), over a b xs less all.1)

filter_in : (p : Spotted → Bool) (e x : Spotted) (xs : List Spotted) (b c : Bool) → x.0.stamp ≤ e.0.stamp → filter p (put e xs) ≡ cond c (put e (filter p xs)) (filter p xs)
    → cond b (x ∷ filter p (put e xs)) (filter p (put e xs)) ≡ cond c (put e (cond b (x ∷ filter p xs) (filter p xs))) (cond b (x ∷ filter p xs) (filter p xs))
filter_in p e x xs true true more is = ap (λ (l : List Spotted). x ∷ l) is ∙ sym (put_high e x (filter p xs) more)
filter_in p e x xs true false more is = ap (λ (l : List Spotted). x ∷ l) is
filter_in p e x xs false true more is = is
filter_in p e x xs false false more is = is

-- an item that is put in passes with those that passed
filter_put : (p : Spotted → Bool) (e : Spotted) (xs : List Spotted) → IsUp xs → filter p (put e xs) ≡ cond (p e) (put e (filter p xs)) (filter p xs)
filter_put p e [] up = refl
filter_put p e (x ∷ xs) up =
    let rest = filter_put p e xs up.1 in
    elim (cases_Bool (nat_lt e.0.stamp x.0.stamp)) [
      | inl low ↦
          let less = ltb-true e.0.stamp x.0.stamp low in
          let behind : AllByRecursion (λ y. e.0.stamp < y.0.stamp) (filter p (x ∷ xs)) =
          all_filter (λ y. e.0.stamp < y.0.stamp) p (x ∷ xs) (less, over e.0.stamp x.0.stamp xs less up.0) in
          ap (filter p) (put_low e x xs less)
          ∙ ap (λ (l : List Spotted). cond (p e) l (filter p (x ∷ xs))) (sym (put_front e (filter p (x ∷ xs)) behind))
      | inr high ↦
          let most = ltb-false e.0.stamp x.0.stamp high in
          let more : x.0.stamp ≤ e.0.stamp = omega (arith, most) in
          ap (filter p) (put_high e x xs more) ∙ filter_in p e x xs (p x) (p e) more rest
    ]

pub up_put_all : (xs es : List Spotted) → IsUp xs → IsUp (put_all xs es)
up_put_all xs [] up = up
up_put_all xs (e ∷ es) up = up_put_all (put e xs) es (up_put e xs up)

-- what passes of items that were put in is what passes, put in
passes_in : (e : Spotted) (xs es : List Spotted) (b : Bool) → put_all (cond b (put e xs) xs) es ≡ put_all xs (cond b (e ∷ es) es)
passes_in e xs es true = refl
passes_in e xs es false = refl

pub filter_put_all : (p : Spotted → Bool) (xs es : List Spotted) → IsUp xs → filter p (put_all xs es) ≡ put_all (filter p xs) (filter p es)
filter_put_all p xs [] up = refl
filter_put_all p xs (e ∷ es) up =
    filter_put_all p (put e xs) es (up_put e xs up)
    ∙ (ap (λ (l : List Spotted). put_all l (filter p es)) (filter_put p e xs up) ∙ passes_in e (filter p xs) (filter p es) (p e))

-- ---- one more, of the greatest stamp

put_last : (e : Spotted) (xs : List Spotted) → AllByRecursion (λ y. y.0.stamp < e.0.stamp) xs → put e xs ≡ xs ++ e ∷ []
put_last e [] all = refl
put_last e (x ∷ xs) all =
    let less = all.0 in
    put_high e x xs (omega (arith, less)) ∙ ap (λ (l : List Spotted). x ∷ l) (put_last e xs all.1)

before_in : (y e x : Spotted) (xs : List Spotted) (b : Bool) → put y (xs ++ e ∷ []) ≡ put y xs ++ e ∷ []
    → cond b (y ∷ x ∷ (xs ++ e ∷ [])) (x ∷ put y (xs ++ e ∷ [])) ≡ cond b (y ∷ x ∷ xs) (x ∷ put y xs) ++ e ∷ []
before_in y e x xs true is = refl
before_in y e x xs false is = ap (λ (l : List Spotted). x ∷ l) is

put_before : (y e : Spotted) (xs : List Spotted) → y.0.stamp < e.0.stamp → put y (xs ++ e ∷ []) ≡ put y xs ++ e ∷ []
put_before y e [] less = put_low y e [] less
put_before y e (x ∷ xs) less = before_in y e x xs (nat_lt y.0.stamp x.0.stamp) (put_before y e xs less)

put_all_before : (e : Spotted) (xs es : List Spotted) → AllByRecursion (λ y. y.0.stamp < e.0.stamp) es → put_all (xs ++ e ∷ []) es ≡ put_all xs es ++ e ∷ []
put_all_before e xs [] all = refl
put_all_before e xs (y ∷ es) all =
    ap (λ (l : List Spotted). put_all l es) (put_before y e xs all.0) ∙ put_all_before e (put y xs) es all.1

all_put_all : (P : Spotted → Type 0) (xs es : List Spotted) → AllByRecursion P xs → AllByRecursion P es → AllByRecursion P (put_all xs es)
all_put_all P xs [] all more = all
all_put_all P xs (e ∷ es) all more = all_put_all P (put e xs) es (all_put P e xs more.0 all) more.1

-- wherever it stands among the others
pub put_all_more : (e : Spotted) (acc xs ys : List Spotted) → AllByRecursion (λ y. y.0.stamp < e.0.stamp) acc → AllByRecursion (λ y. y.0.stamp < e.0.stamp) xs → AllByRecursion (λ y. y.0.stamp < e.0.stamp) ys
    → put_all acc (xs ++ e ∷ ys) ≡ put_all acc (xs ++ ys) ++ e ∷ []
put_all_more e acc [] ys before front back =
    ap (λ (l : List Spotted). put_all l ys) (put_last e acc before) ∙ put_all_before e acc ys back
put_all_more e acc (x ∷ xs) ys before front back = put_all_more e (put x acc) xs ys (all_put (λ y. y.0.stamp < e.0.stamp) x acc front.0 before) front.1 back

-- ---- sums

sum_in : (f : HeldItem → ℕ) (e x : Spotted) (xs : List Spotted) (b : Bool) → sum_by f (held_in (put e xs)) ≡ f e.1 + sum_by f (held_in xs)
    → sum_by f (held_in (cond b (e ∷ x ∷ xs) (x ∷ put e xs))) ≡ f e.1 + sum_by f (held_in (x ∷ xs))
sum_in f e x xs true is = sum_by-cons f e.1 (held_in (x ∷ xs))
sum_in f e x xs false is =
    let first = sum_by-cons f x.1 (held_in (put e xs)) in
    let last = sum_by-cons f x.1 (held_in xs) in
    omega (arith, is, first, last)

pub sum_put : (f : HeldItem → ℕ) (e : Spotted) (xs : List Spotted) → sum_by f (held_in (put e xs)) ≡ f e.1 + sum_by f (held_in xs)
sum_put f e [] = sum_by-cons f e.1 []
sum_put f e (x ∷ xs) = sum_in f e x xs (nat_lt e.0.stamp x.0.stamp) (sum_put f e xs)

pub sum_put_all : (f : HeldItem → ℕ) (xs es : List Spotted) → sum_by f (held_in (put_all xs es)) ≡ sum_by f (held_in xs) + sum_by f (held_in es)
sum_put_all f xs [] = omega arith
sum_put_all f xs (e ∷ es) =
    let rest = sum_put_all f (put e xs) es in
    let one = sum_put f e xs in
    let first = sum_by-cons f e.1 (held_in es) in
    omega (arith, rest, one, first)

-- ---- what is among them

any_in : (p : HeldItem → Bool) (e x : Spotted) (xs : List Spotted) (b : Bool) → list_any p (held_in (put e xs)) ≡ (p e.1 || list_any p (held_in xs))
    → list_any p (held_in (cond b (e ∷ x ∷ xs) (x ∷ put e xs))) ≡ (p e.1 || list_any p (held_in (x ∷ xs)))
any_in p e x xs true is = refl
any_in p e x xs false is = ap (λ (r : Bool). p x.1 || r) is ∙ swapped (p x.1) (p e.1) (list_any p (held_in xs))
  where
    swapped : (a b c : Bool) → (a || (b || c)) ≡ (b || (a || c))
    swapped true true c = refl
    swapped true false c = refl
    swapped false true c = refl
    swapped false false c = refl

any_put : (p : HeldItem → Bool) (e : Spotted) (xs : List Spotted) → list_any p (held_in (put e xs)) ≡ (p e.1 || list_any p (held_in xs))
any_put p e [] = refl
any_put p e (x ∷ xs) = any_in p e x xs (nat_lt e.0.stamp x.0.stamp) (any_put p e xs)

pub any_put_all : (p : HeldItem → Bool) (xs es : List Spotted) → list_any p (held_in (put_all xs es)) ≡ (list_any p (held_in es) || list_any p (held_in xs))
any_put_all p xs [] = refl
any_put_all p xs (e ∷ es) =
    any_put_all p (put e xs) es ∙ (ap (λ (r : Bool). list_any p (held_in es) || r) (any_put p e xs) ∙ turned (list_any p (held_in es)) (p e.1) (list_any p (held_in xs)))
  where
    turned : (a b c : Bool) → (a || (b || c)) ≡ ((b || a) || c)
    turned true true c = refl
    turned true false c = refl
    turned false true c = refl
    turned false false c = refl
