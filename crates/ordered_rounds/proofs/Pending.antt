-- A set of identifiers has its keys in the order of the definitions.
use Rattle.std.specs.Prelude.{◌≡◌, ℕ, ◌<◌, Bool, true, false, ◌||◌, List, [], ◌∷◌, replicate, slice_index, refl}
use Rattle.std.specs.List.{AllByRecursion, list_any}
use Rattle.std.specs.List.Sorted.{IsStrictlySortedBy}
use Rattle.std.specs.declared.cmp.Ordering.{Ordering}
use Rattle.std.specs.declared.cmp.Ordering.TheVariants.{Less, Equal, Greater}
use Rattle.std.specs.Ordering.{nat_cmp, ordering_then, MatchOrdering}
use Rattle.std.specs.Cmp.{ranks}
use Rattle.std.specs.BTreeMap.{is_at}
use Rattle.std.specs.BTreeSet.{BTreeSet, IsOrdered}
use Rattle.std.proofs.Common.{sym, ◌∙◌, ap, ap₂, subst, inl, inr}
use Rattle.std.proofs.lemmas.List.{get_or-replicate}
use Rattle.std.proofs.lemmas.Bool.{or_cases, or_left, or_right, both_ways}
use Rattle.ritas_base.specs.declared.id.Id.{Id}
use Rattle.layer_api.specs.Service.{has_id}
use Rattle.frame_codec.specs.Ids.{IsBelow}
use Rattle.ordered_rounds.specs.Identifiers.{in_order, IsSorted}
use Rattle.ordered_rounds.specs.Early.{id_cmp}
use Rattle.ordered_rounds.specs.Pending.{HoldsIds, CountsOrigins}
use Rattle.ordered_rounds.specs.Laws.Ordered.{in_order_sorted, below_trans, below_other, below_from}
use Rattle.ordered_rounds.specs.Laws.ListedIds.{is_same, same_id, itself, in_order_has}
use Rattle.ordered_rounds.proofs.Ids.{is_id, same_test}

-- ---- a sorted list is told by its members

pub above_all : (P : Id → Type 0) (xs : List Id) (z : Id) → AllByRecursion P xs → has_id xs z ≡ true → P z
above_all P [] z all h = absurd (cc)
above_all P (x ∷ xs) z all h =
    elim (or_cases (is_same x z) (has_id xs z) h) [
      | inl here ↦ subst P (same_id x z here) all.0
      | inr there ↦ above_all P xs z all.1 there
    ]

not_above : (x : Id) → IsBelow x x → ⊥
not_above x h = both_ways (is_same x x) (below_other x x h) (itself x)

heads : (x y : Id) (xs ys : List Id) → IsSorted (x ∷ xs) → IsSorted (y ∷ ys) → ((z : Id) → has_id (x ∷ xs) z ≡ has_id (y ∷ ys) z) → x ≡ y
heads x y xs ys s t same =
    let mine : has_id (y ∷ ys) x ≡ true = sym (same x) ∙ or_left (is_same x x) (has_id xs x) (itself x) in
    let other : has_id (x ∷ xs) y ≡ true = same y ∙ or_left (is_same y y) (has_id ys y) (itself y) in
    elim (or_cases (is_same y x) (has_id ys x) mine) [
      | inl here ↦ sym (same_id y x here)
      | inr there ↦
          elim (or_cases (is_same x y) (has_id xs y) other) [
            | inl here ↦ same_id x y here
            | inr beyond ↦
                absurd (not_above x (below_trans x y x (above_all (IsBelow x) xs y s.0 beyond) (above_all (IsBelow y) ys x t.0 there)))
          ]
    ]

tail_has : (x z : Id) (xs : List Id) → IsSorted (x ∷ xs) → has_id xs z ≡ true → is_same x z ≡ false
tail_has x z xs s h = below_other x z (above_all (IsBelow x) xs z s.0 h)

tails : (x : Id) (xs ys : List Id) → IsSorted (x ∷ xs) → IsSorted (x ∷ ys) → ((z : Id) → has_id (x ∷ xs) z ≡ has_id (x ∷ ys) z) → (z : Id) → has_id xs z ≡ has_id ys z
tails x xs ys s t same z =
    same_test (has_id xs z) (has_id ys z)
    (λ h. other (is_same x z) (has_id ys z) (tail_has x z xs s h) (sym (same z) ∙ or_right (is_same x z) (has_id xs z) h))
    (λ h. other (is_same x z) (has_id xs z) (tail_has x z ys t h) (same z ∙ or_right (is_same x z) (has_id ys z) h))
  where
    other : (a b : Bool) → a ≡ false → (a || b) ≡ true → b ≡ true
    other true b fails h = absurd (cc)
    other false b fails h = h

pub sorted_same : (xs ys : List Id) → IsSorted xs → IsSorted ys → ((z : Id) → has_id xs z ≡ has_id ys z) → xs ≡ ys
sorted_same [] [] s t same = refl
sorted_same [] (y ∷ ys) s t same = let gone = same y ∙ or_left (is_same y y) (has_id ys y) (itself y) in absurd (cc)
sorted_same (x ∷ xs) [] s t same = let gone = sym (same x) ∙ or_left (is_same x x) (has_id xs x) (itself x) in absurd (cc)
sorted_same (x ∷ xs) (y ∷ ys) s t same =
    let head = heads x y xs ys s t same in
    let t' : IsSorted (x ∷ ys) = subst (λ (q : Id). IsSorted (q ∷ ys)) (sym head) t in
    let same' = subst (λ (q : Id). (z : Id) → has_id (x ∷ xs) z ≡ has_id (q ∷ ys) z) (sym head) same in
    ap₂ (λ (q : Id) (l : List Id). q ∷ l) head (sorted_same xs ys s.1 t.1 (tails x xs ys s t' same'))

-- ---- the keys of a set

less_below : (x y : Id) → id_cmp x y ≡ Less → IsBelow x y
less_below x y h = go (nat_cmp x.origin y.origin) (nat_cmp x.num y.num) (ranks x.origin y.origin) (ranks x.num y.num) h
  where
    go : (a b : Ordering) → MatchOrdering a (x.origin < y.origin) (x.origin ≡ y.origin) (y.origin < x.origin)
        → MatchOrdering b (x.num < y.num) (x.num ≡ y.num) (y.num < x.num) → ordering_then a b ≡ Less → IsBelow x y
    go Less b l m h = below_from x y (inl l)
    go Equal Less e l h = below_from x y (inr (sym e, l))
    go Equal Equal e l h = absurd (cc)
    go Equal Greater e l h = absurd (cc)
    go Greater b e l h = absurd (cc)

pub keys_sorted : (ks : List Id) → IsStrictlySortedBy id_cmp ks → IsSorted ks
unfolding IsStrictlySortedBy
keys_sorted [] s = tt
keys_sorted (k ∷ ks) s = (each ks s.0, keys_sorted ks s.1)
  where
    each : (l : List Id) → AllByRecursion (λ y. id_cmp k y ≡ Less) l → AllByRecursion (IsBelow k) l
    each [] all = tt
    each (y ∷ l) all = (less_below k y all.0, each l all.1)

pub keys_has : (ks : List Id) (z : Id) → list_any (is_at (id_cmp z)) ks ≡ has_id ks z
keys_has [] z = refl
keys_has (k ∷ ks) z = ap₂ (λ (a : Bool) (b : Bool). a || b) (is_id z.origin z.num k.origin k.num) (keys_has ks z)

-- the keys are the identifiers in order
pub keys_in_order : (set : BTreeSet Id) (ids : List Id) → IsOrdered id_cmp set → HoldsIds set ids → set.keys ≡ in_order ids
keys_in_order set ids ordered holds =
    sorted_same set.keys (in_order ids) (keys_sorted set.keys ordered) (in_order_sorted ids)
    (λ z. sym (keys_has set.keys z) ∙ (holds z ∙ sym (in_order_has ids z)))

all_has : (P : Id → Type 0) (ks : List Id) → ((z : Id) → has_id ks z ≡ true → P z) → AllByRecursion P ks
all_has P [] each = tt
all_has P (k ∷ ks) each = (each k (or_left (is_same k k) (has_id ks k) (itself k)), all_has P ks (λ z h. each z (or_right (is_same k z) (has_id ks z) h)))

-- what is so of all identifiers is so of all keys
pub keys_all : (P : Id → Type 0) (set : BTreeSet Id) (ids : List Id) → HoldsIds set ids → AllByRecursion P ids → AllByRecursion P set.keys
keys_all P set ids holds all = all_has P set.keys (λ z h. above_all P ids z all (sym (holds z) ∙ (keys_has set.keys z ∙ h)))

-- nothing is counted at first
pub none_counted : (counts : List ℕ) → counts ≡ replicate 31 0 → CountsOrigins counts []
none_counted counts is o small = ap (λ (l : List ℕ). slice_index l o) is ∙ get_or-replicate 31 o 0 0 small
