-- Elements of lists by their places.
use Rattle.std.proofs.Common.{◌≡◌, ◌≢◌, ℕ, zero, suc, ◌<◌, Bool, true, false, cond, List, [], ◌∷◌, ◌++◌, length, map, filter, set, Some, refl, sym, ◌∙◌, ap, ap₂, subst, inl, inr, ◌⊎◌, arith}
use Rattle.std.specs.List.{slice_get}
use Rattle.layer_api.specs.Runs.{Has}
use Rattle.layer_api.specs.HasLaws.{has_either}
use Rattle.world_model.proofs.Members.{has_passing, got_listed}

-- ---- writes

pub get_set_same : {X : Type 0} (xs : List X) (i : ℕ) (x : X) → i < length xs → slice_get (set xs i x) i ≡ Some x
get_set_same [] i x below = absurd (omega (arith, below))
get_set_same (y ∷ xs) zero x below = refl
get_set_same (y ∷ xs) (suc i) x below = get_set_same xs i x (omega (arith, below))

pub get_set_other : {X : Type 0} (xs : List X) (i j : ℕ) (x : X) → j ≢ i → slice_get (set xs i x) j ≡ slice_get xs j
get_set_other [] i j x apart = refl
get_set_other (y ∷ xs) zero zero x apart = absurd (apart refl)
get_set_other (y ∷ xs) zero (suc j) x apart = refl
get_set_other (y ∷ xs) (suc i) zero x apart = refl
get_set_other (y ∷ xs) (suc i) (suc j) x apart = get_set_other xs i j x (λ same. apart (ap suc same))

pub set_length : {X : Type 0} (xs : List X) (i : ℕ) (x : X) → length (set xs i x) ≡ length xs
set_length [] i x = refl
set_length (y ∷ xs) zero x = refl
set_length (y ∷ xs) (suc i) x = ap suc (set_length xs i x)

-- what f tells of the elements stays
pub set_mapped : {X Y : Type 0} (f : X → Y) (xs : List X) (i : ℕ) (old x : X) → slice_get xs i ≡ Some old → f x ≡ f old → map f (set xs i x) ≡ map f xs
set_mapped f [] i old x is same = refl
set_mapped f (y ∷ xs) zero old x is same = let here : Some y ≡ Some old = is in let e : y ≡ old = cc in ap (λ z. z ∷ map f xs) (same ∙ ap f (sym e))
set_mapped f (y ∷ xs) (suc i) old x is same = ap (λ zs. f y ∷ zs) (set_mapped f xs i old x is same)

pub set_itself : {X : Type 0} (xs : List X) (i : ℕ) (x : X) → slice_get xs i ≡ Some x → set xs i x ≡ xs
set_itself [] i x is = refl
set_itself (y ∷ xs) zero x is = let here : Some y ≡ Some x = is in let e : x ≡ y = cc in ap (λ z. z ∷ xs) e
set_itself (y ∷ xs) (suc i) x is = ap (λ zs. y ∷ zs) (set_itself xs i x is)

-- ---- reads

pub got_below : {X : Type 0} (xs : List X) (i : ℕ) (x : X) → slice_get xs i ≡ Some x → i < length xs
got_below [] i x is = absurd cc
got_below (y ∷ xs) zero x is = omega arith
got_below (y ∷ xs) (suc i) x is = let below = got_below xs i x is in omega (arith, below)

pub mapped_at : {X Y : Type 0} (f : X → Y) (xs : List X) (i : ℕ) (x : X) → slice_get xs i ≡ Some x → slice_get (map f xs) i ≡ Some (f x)
mapped_at f [] i x is = absurd cc
mapped_at f (y ∷ xs) zero x is = let here : Some y ≡ Some x = is in let e : y ≡ x = cc in ap (λ z. Some (f z)) e
mapped_at f (y ∷ xs) (suc i) x is = mapped_at f xs i x is

-- an element at the same place of a list that is mapped to another
pub record IsFrom {X Y : Type 0} (f : X → Y) (xs : List X) (i : ℕ) (y : Y) : Type 0 where
  pub element : X
  pub is : slice_get xs i ≡ Some element
  pub same : f element ≡ y

pub from_at : {X Y : Type 0} (f : X → Y) (xs : List X) (i : ℕ) (y : Y) → slice_get (map f xs) i ≡ Some y → IsFrom f xs i y
from_at f [] i y is = absurd cc
from_at f (x ∷ xs) zero y is = record { element = x; is = refl; same = let here : Some (f x) ≡ Some y = is in cc }
from_at f (x ∷ xs) (suc i) y is = let more = from_at f xs i y is in record { element = more.element; is = more.is; same = more.same }

pub same_got : {X : Type 0} (xs : List X) (i : ℕ) (x y : X) → slice_get xs i ≡ Some x → slice_get xs i ≡ Some y → x ≡ y
same_got xs i x y one two = let both : Some x ≡ Some y = sym one ∙ two in cc

-- the first elements, or the one that was added
pub got_pushed : {X : Type 0} (xs : List X) (y : X) (i : ℕ) (x : X) → slice_get (xs ++ y ∷ []) i ≡ Some x → (slice_get xs i ≡ Some x) ⊎ ((i ≡ length xs) × (y ≡ x))
got_pushed [] y zero x is = inr (refl, let here : Some y ≡ Some x = is in cc)
got_pushed [] y (suc i) x is = absurd cc
got_pushed (z ∷ xs) y zero x is = inl is
got_pushed (z ∷ xs) y (suc i) x is = elim (got_pushed xs y i x is) [ inl first ↦ inl first | inr last ↦ inr (ap suc last.0, last.1) ]

pub get_first : {X : Type 0} (xs : List X) (y : X) (i : ℕ) → i < length xs → slice_get (xs ++ y ∷ []) i ≡ slice_get xs i
get_first [] y i below = absurd (omega (arith, below))
get_first (z ∷ xs) y zero below = refl
get_first (z ∷ xs) y (suc i) below = get_first xs y i (omega (arith, below))

pub get_last : {X : Type 0} (xs : List X) (y : X) (i : ℕ) → i ≡ length xs → slice_get (xs ++ y ∷ []) i ≡ Some y
get_last {X = X} xs y i e = ap (slice_get (xs ++ y ∷ [])) e ∙ at xs
  where
    at : (zs : List X) → slice_get (zs ++ y ∷ []) (length zs) ≡ Some y
    at [] = refl
    at (z ∷ zs) = at zs

-- what a list has at each place
pub map_from : {X Y : Type 0} (f : X → Y) (ys : List Y) (xs : List X) → length ys ≡ length xs → ((i : ℕ) (x : X) → slice_get xs i ≡ Some x → slice_get ys i ≡ Some (f x)) → ys ≡ map f xs
map_from f [] [] many each = refl
map_from f [] (x ∷ xs) many each = absurd (omega (arith, many))
map_from f (y ∷ ys) [] many each = absurd (omega (arith, many))
map_from f (y ∷ ys) (x ∷ xs) many each =
    let here : Some y ≡ Some (f x) = each 0 x refl in
    let first : y ≡ f x = cc in
    ap₂ (λ z zs. z ∷ zs) first (map_from f ys xs (omega (arith, many)) (λ i. each (suc i)))

pub map_twice : {X Y Z : Type 0} (f : X → Y) (g : Y → Z) (xs : List X) → map g (map f xs) ≡ map (λ x. g (f x)) xs
map_twice f g [] = refl
map_twice f g (x ∷ xs) = ap (λ zs. g (f x) ∷ zs) (map_twice f g xs)

-- ---- no element twice

abbrev pub IsDistinct : {X : Type 0} → List X → Type 0
IsDistinct [] = Unit {0}
IsDistinct (x ∷ xs) = (Has xs x → ⊥) × IsDistinct xs

pub distinct_append : {X : Type 0} (xs ys : List X) → IsDistinct xs → IsDistinct ys → ((x : X) → Has xs x → Has ys x → ⊥) → IsDistinct (xs ++ ys)
distinct_append [] ys one two apart = two
distinct_append (x ∷ xs) ys one two apart =
    (λ there. elim (has_either xs ys x there) [ inl left ↦ one.0 left | inr right ↦ apart x (inl refl) right ], distinct_append xs ys one.1 two (λ y there. apart y (inr there)))

distinct_kept : {X : Type 0} (x : X) (xs : List X) (b : Bool) → (Has xs x → ⊥) → IsDistinct xs → IsDistinct (cond b (x ∷ xs) xs)
distinct_kept x xs true apart rest = (apart, rest)
distinct_kept x xs false apart rest = rest

pub distinct_filter : {X : Type 0} (test : X → Bool) (xs : List X) → IsDistinct xs → IsDistinct (filter test xs)
distinct_filter test [] all = all
distinct_filter test (x ∷ xs) all =
    distinct_kept x (filter test xs) (test x) (λ there. all.0 (has_passing test xs x there).0) (distinct_filter test xs all.1)

-- one element is at one place
pub one_place : {X : Type 0} (xs : List X) → IsDistinct xs → (i j : ℕ) (x : X) → slice_get xs i ≡ Some x → slice_get xs j ≡ Some x → i ≡ j
one_place [] all i j x first second = absurd cc
one_place (y ∷ xs) all zero zero x first second = refl
one_place {X = X} (y ∷ xs) all zero (suc j) x first second =
    let here : Some y ≡ Some x = first in let e : x ≡ y = cc in let P : X → Type 0 = Has xs in absurd (all.0 (subst P e (got_listed xs j x second)))
one_place {X = X} (y ∷ xs) all (suc i) zero x first second =
    let here : Some y ≡ Some x = second in let e : x ≡ y = cc in let P : X → Type 0 = Has xs in absurd (all.0 (subst P e (got_listed xs i x first)))
one_place (y ∷ xs) all (suc i) (suc j) x first second = ap suc (one_place xs all.1 i j x first second)

-- the element at a place
pub got_at : {X : Type 0} (xs : List X) (i : ℕ) → i < length xs → (x : X) × (slice_get xs i ≡ Some x)
got_at [] i below = absurd (omega (arith, below))
got_at (x ∷ xs) zero below = (x, refl)
got_at (x ∷ xs) (suc i) below = got_at xs i (omega (arith, below))
