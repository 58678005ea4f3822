-- Spots in their order, and where a walk over them goes on.
use Rattle.std.specs.Prelude.{◌≡◌, ℕ, ◌<◌, ◌≤◌, Bool, true, false, ◌&&◌, cond, List, [], ◌∷◌, length, filter, IfSome, refl}
use Rattle.std.proofs.Common.{Ordering, sym, ◌∙◌, ap, subst, arith, ◌⊎◌, inl, inr}
use Rattle.std.specs.declared.cmp.Ordering.TheVariants.{Less, Equal, Greater}
use Rattle.std.specs.declared.ops.Bound.{Bound}
use Rattle.std.specs.declared.ops.Bound.TheVariants.{Included, Excluded, Unbounded}
use Rattle.std.specs.List.{AllByRecursion, All, slice_get}
use Rattle.std.specs.List.Sorted.{IsStrictlySortedBy}
use Rattle.std.specs.Map.{keys_of}
use Rattle.std.specs.Ordering.{MatchOrdering, nat_cmp, bool_cmp, ordering_then, is_gt, is_lt, is_le}
use Rattle.std.specs.Cmp.{IsTotalOrder, nat_cmp_total, bool_cmp_total, then_total, on_total}
use Rattle.std.specs.BTreeMap.{BTreeMap}
use Rattle.std.specs.BTreeMap.Range.{range_contains, IsEntryInRange}
use Rattle.std.proofs.lemmas.Bool.{cases_Bool, cond-true, cond-false, and_parts, false_from_ne_true, both_ways}
use Rattle.std.proofs.lemmas.Cmp.{ranked, tied_itself}
use Rattle.std.proofs.lemmas.List.Kept.{IsStrictlySortedBy-filter}
use Rattle.std.proofs.lemmas.List.Elements.{filter_passes, recursion_from_All}
use Rattle.std.proofs.lemmas.Map.Lookups.{CmpEqualImpliesEq, exact_pairs, exact_unsigned}
use Rattle.ritas_base.specs.declared.slot.Slot.{Slot}
use Rattle.ritas_base.specs.declared.item.Item.{Item}
use Rattle.ritas_base.specs.SlotOrder.{slot_cmp, slots_total, exact_slots}
use Rattle.ooc_buffers.specs.Lists.{HeldItem}
use Rattle.ooc_buffers.specs.Groups.{group_of, GoesBy, AreRight}
use Rattle.ooc_buffers.specs.Spots.{group_cmp, spot_cmp, Spotted, held_in, pass, IsAt, AreAt, rest_from, spot_behind}
use Rattle.ooc_buffers.specs.declared.group.Group.{Group}
use Rattle.ooc_buffers.specs.declared.group.Spot.{Spot}

pub groups_total : IsTotalOrder group_cmp
groups_total = then_total (on_total (λ g. g.is_column) bool_cmp_total) (on_total (λ g. g.slot) slots_total)

pub spots_total : IsTotalOrder spot_cmp
spots_total = then_total (on_total (λ s. s.group) groups_total) (then_total (on_total (λ s. s.bround) nat_cmp_total)
    (then_total (on_total (λ s. s.mark) nat_cmp_total) (on_total (λ s. s.stamp) nat_cmp_total)))

exact_bool : CmpEqualImpliesEq bool_cmp
exact_bool true true e = refl
exact_bool false false e = refl
exact_bool true false e = absurd (cc)
exact_bool false true e = absurd (cc)

abbrev as_group : Bool × Slot → Group
as_group x = record { is_column = x.0; slot = x.1 }

pub exact_groups : CmpEqualImpliesEq group_cmp
exact_groups a b h = ap as_group (exact_pairs bool_cmp slot_cmp exact_bool exact_slots (a.is_column, a.slot) (b.is_column, b.slot) h)

abbrev two_cmp : ℕ × ℕ → ℕ × ℕ → Ordering
two_cmp x y = ordering_then (nat_cmp x.0 y.0) (nat_cmp x.1 y.1)

abbrev three_cmp : ℕ × (ℕ × ℕ) → ℕ × (ℕ × ℕ) → Ordering
three_cmp x y = ordering_then (nat_cmp x.0 y.0) (two_cmp x.1 y.1)

abbrev as_spot : Group × (ℕ × (ℕ × ℕ)) → Spot
as_spot x = record { group = x.0; bround = x.1.0; mark = x.1.1.0; stamp = x.1.1.1 }

exact_two : CmpEqualImpliesEq two_cmp
exact_two = exact_pairs nat_cmp nat_cmp exact_unsigned exact_unsigned

exact_three : CmpEqualImpliesEq three_cmp
exact_three = exact_pairs nat_cmp two_cmp exact_unsigned exact_two

pub exact_spots : CmpEqualImpliesEq spot_cmp
exact_spots a b h =
    ap as_spot (exact_pairs group_cmp three_cmp exact_groups exact_three (a.group, (a.bround, (a.mark, a.stamp))) (b.group, (b.bround, (b.mark, b.stamp))) h)

-- ---- the order

through : (a b c : Spot) (r : Ordering) → spot_cmp a b ≡ r → is_gt r ≡ false → spot_cmp b c ≡ Less → spot_cmp a c ≡ Less
through a b c Less is low less = spots_total.trans a b c is less
through a b c Equal is low less = spots_total.congr a b c is ∙ less
through a b c Greater is low less = absurd (cc)

less_from : (r : Ordering) → is_lt r ≡ true → r ≡ Less
less_from Less h = refl
less_from Equal h = absurd (cc)
less_from Greater h = absurd (cc)

not_gt : (r : Ordering) → is_le r ≡ true → is_gt r ≡ false
not_gt Less h = refl
not_gt Equal h = refl
not_gt Greater h = absurd (cc)

abbrev pub is_on : Bound Spot → Spot → Bool
is_on from s = range_contains spot_cmp from Unbounded s

-- what is behind a spot that is from there on is from there on
further : (from : Bound Spot) (s b q : Spot) → is_on from s ≡ true → is_gt (spot_cmp s b) ≡ false → is_on (Excluded b) q ≡ true → is_on from q ≡ true
further Unbounded s b q on low far = refl
further (Excluded a) s b q on low far =
    let less = through s b q (spot_cmp s b) refl low (less_from _ (and_parts (is_lt (spot_cmp b q)) true far).0) in
    let first = less_from _ (and_parts (is_lt (spot_cmp a s)) true on).0 in
    ap (λ r. is_lt r && true) (spots_total.trans a s q first less)
further (Included a) s b q on low far =
    let less = through s b q (spot_cmp s b) refl low (less_from _ (and_parts (is_lt (spot_cmp b q)) true far).0) in
    let first = not_gt _ (and_parts (is_le (spot_cmp a s)) true on).0 in
    ap (λ r. is_le r && true) (through a s q (spot_cmp a s) refl first less)

pub itself_no_less : (s : Spot) → is_gt (spot_cmp s s) ≡ false
itself_no_less s = ap is_gt (tied_itself spots_total s)

-- ---- lists

refine_in : (q : Spotted → Bool) (x : Spotted) (ps qs : List Spotted) (b : Bool) → (q x ≡ true → b ≡ true) → filter q ps ≡ qs
    → filter q (cond b (x ∷ ps) ps) ≡ cond (q x) (x ∷ qs) qs
refine_in q x ps qs true given is = ap (λ (l : List Spotted). cond (q x) (x ∷ l) l) is
refine_in q x ps qs false given is = is ∙ sym (cond-false (q x) (x ∷ qs) qs (false_from_ne_true (q x) (λ e. both_ways false refl (given e))))

refine : (p q : Spotted → Bool) (xs : List Spotted) → ((y : Spotted) → q y ≡ true → p y ≡ true) → filter q (filter p xs) ≡ filter q xs
refine p q [] given = refl
refine p q (x ∷ xs) given = refine_in q x (filter p xs) (filter q xs) (p x) (given x) (refine p q xs given)

fewer : (q : Spotted → Bool) (xs : List Spotted) → length (filter q xs) ≤ length xs
fewer q [] = omega arith
fewer q (x ∷ xs) =
    let few = fewer q xs in
    elim (cases_Bool (q x)) [
      | inl does ↦ let one = ap length (cond-true (q x) (x ∷ filter q xs) (filter q xs) does) in omega (arith, few, one)
      | inr fails ↦ let one = ap length (cond-false (q x) (x ∷ filter q xs) (filter q xs) fails) in omega (arith, few, one)
    ]

first_on : (from : Bound Spot) (xs : List Spotted) (e : Spotted) (tail : List Spotted) → rest_from from xs ≡ e ∷ tail → is_on from e.0 ≡ true
first_on from xs e tail is =
    (recursion_from_All (λ (y : Spotted). is_on from y.0 ≡ true) (e ∷ tail)
    (subst (λ (l : List Spotted). All (λ (y : Spotted). is_on from y.0 ≡ true) l) is (filter_passes (λ (y : Spotted). is_on from y.0) xs))).0

-- the rest behind a spot is within the rest whose first is no later
narrowed : (from : Bound Spot) (xs : List Spotted) (e : Spotted) (tail : List Spotted) (b : Spot) → rest_from from xs ≡ e ∷ tail → is_gt (spot_cmp e.0 b) ≡ false
    → rest_from (Excluded b) xs ≡ filter (λ y. is_on (Excluded b) y.0) (e ∷ tail)
narrowed from xs e tail b is low =
    sym (refine (λ y. is_on from y.0) (λ y. is_on (Excluded b) y.0) xs (λ y far. further from e.0 b y.0 (first_on from xs e tail is) low far))
    ∙ ap (filter (λ y. is_on (Excluded b) y.0)) is

pub not_on : (a b : Spot) → is_gt (spot_cmp a b) ≡ false → is_on (Excluded b) a ≡ false
not_on a b low = false_from_ne_true (is_on (Excluded b) a) (λ far.
    let less = less_from _ (and_parts (is_lt (spot_cmp b a)) true far).0 in
    let back = through a b a (spot_cmp a b) refl low less in
    both_ways (is_lt (spot_cmp a a)) (ap is_lt (tied_itself spots_total a)) (ap is_lt back))

first_out : (from : Bound Spot) (xs : List Spotted) (e : Spotted) (tail : List Spotted) (b : Spot) → rest_from from xs ≡ e ∷ tail → is_gt (spot_cmp e.0 b) ≡ false
    → rest_from (Excluded b) xs ≡ filter (λ y. is_on (Excluded b) y.0) tail
first_out from xs e tail b is low =
    narrowed from xs e tail b is low
    ∙ cond-false (is_on (Excluded b) e.0) (e ∷ filter (λ y. is_on (Excluded b) y.0) tail) (filter (λ y. is_on (Excluded b) y.0) tail) (not_on e.0 b low)

pub shorter : (from : Bound Spot) (xs : List Spotted) (e : Spotted) (tail : List Spotted) (b : Spot) → rest_from from xs ≡ e ∷ tail → is_gt (spot_cmp e.0 b) ≡ false
    → length (rest_from (Excluded b) xs) < length (rest_from from xs)
shorter from xs e tail b is low =
    let one = ap length (first_out from xs e tail b is low) in
    let few = fewer (λ y. is_on (Excluded b) y.0) tail in
    let all = ap length is in
    omega (arith, one, few, all)

-- ---- what is behind the first

keys_in : (k : Spot) (ks : List Spot) (x : Spotted) (xs : List Spotted) (b : Bool) → k ≡ x.0 → keys_of xs ≡ ks → keys_of (cond b (x ∷ xs) xs) ≡ cond b (k ∷ ks) ks
keys_in k ks x xs true here is = ap (λ (l : List Spot). x.0 ∷ l) is ∙ ap (λ (s : Spot). s ∷ ks) (sym here)
keys_in k ks x xs false here is = is

keys_filter : (p : Spot → Bool) (xs : List Spotted) → keys_of (filter (λ e. p e.0) xs) ≡ filter p (keys_of xs)
keys_filter p [] = refl
keys_filter p (x ∷ xs) = keys_in x.0 (filter p (keys_of xs)) x (filter (λ e. p e.0) xs) (p x.0) refl (keys_filter p xs)

rises : (k : Spot) (ks : List Spot) → IsStrictlySortedBy spot_cmp (k ∷ ks) → AllByRecursion (λ y. spot_cmp k y ≡ Less) ks
unfolding IsStrictlySortedBy
rises k ks s = s.0

keyed : (k : Spot) (xs : List Spotted) → AllByRecursion (λ y. spot_cmp k y ≡ Less) (keys_of xs) → AllByRecursion (λ (y : Spotted). spot_cmp k y.0 ≡ Less) xs
keyed k [] all = tt
keyed k (x ∷ xs) all = (all.0, keyed k xs all.1)

pub above : (from : Bound Spot) (xs : List Spotted) (e : Spotted) (tail : List Spotted) → IsStrictlySortedBy spot_cmp (keys_of xs) → rest_from from xs ≡ e ∷ tail
    → AllByRecursion (λ (y : Spotted). spot_cmp e.0 y.0 ≡ Less) tail
above from xs e tail sorted is =
    let keys : filter (is_on from) (keys_of xs) ≡ e.0 ∷ keys_of tail = sym (keys_filter (is_on from) xs) ∙ ap (λ (l : List Spotted). keys_of l) is in
    keyed e.0 tail (rises e.0 (keys_of tail) (subst (λ (l : List Spot). IsStrictlySortedBy spot_cmp l) keys (IsStrictlySortedBy-filter spot_cmp (is_on from) (keys_of xs) sorted)))

all_on : (e : Spotted) (xs : List Spotted) → AllByRecursion (λ (y : Spotted). spot_cmp e.0 y.0 ≡ Less) xs → filter (λ y. is_on (Excluded e.0) y.0) xs ≡ xs
all_on e [] all = refl
all_on e (x ∷ xs) all =
    cond-true (is_on (Excluded e.0) x.0) (x ∷ filter (λ y. is_on (Excluded e.0) y.0) xs) (filter (λ y. is_on (Excluded e.0) y.0) xs) (ap (λ r. is_lt r && true) all.0)
    ∙ ap (λ (l : List Spotted). x ∷ l) (all_on e xs all.1)

-- the first passes
pub found : (t : Item → Bool) (from : Bound Spot) (xs : List Spotted) (e : Spotted) (tail : List Spotted) → IsStrictlySortedBy spot_cmp (keys_of xs)
    → rest_from from xs ≡ e ∷ tail → t e.1.item ≡ true → pass t (rest_from from xs) ≡ e ∷ pass t (rest_from (Excluded e.0) xs)
found t from xs e tail sorted is passes =
    let behind : rest_from (Excluded e.0) xs ≡ tail = first_out from xs e tail e.0 is (itself_no_less e.0) ∙ all_on e tail (above from xs e tail sorted is) in
    ap (pass t) is ∙ (cond-true (t e.1.item) (e ∷ pass t tail) (pass t tail) passes ∙ ap (λ (l : List Spotted). e ∷ pass t l) (sym behind))

-- ---- the first fails

low_round : (b b' : ℕ) (r s : Ordering) → MatchOrdering r (b < b') (b ≡ b') (b' < b) → ordering_then r s ≡ Less → b ≤ b'
low_round b b' Less s m e = omega (arith, m)
low_round b b' Equal s m e = omega (arith, m)
low_round b b' Greater s m e = absurd (cc)

-- what comes behind a spot is behind its group, or of its group and no earlier round
besides : (s q : Spot) (r : Ordering) → group_cmp s.group q.group ≡ r → spot_cmp s q ≡ Less
    → (is_on (Excluded (spot_behind s)) q ≡ true) ⊎ ((s.group ≡ q.group) × (s.bround ≤ q.bround))
besides s q Less is less =
    inl (ap (λ r. is_lt (ordering_then r (ordering_then (nat_cmp 255 q.bround) (two_cmp (18446744073709551615, 18446744073709551615) (q.mark, q.stamp)))) && true) is)
besides s q Equal is less =
    let more = two_cmp (s.mark, s.stamp) (q.mark, q.stamp) in
    let rest : ordering_then (nat_cmp s.bround q.bround) more ≡ Less = sym (ap (λ r. ordering_then r (ordering_then (nat_cmp s.bround q.bround) more)) is) ∙ less in
    inr (exact_groups s.group q.group is, low_round s.bround q.bround (nat_cmp s.bround q.bround) more (ranked s.bround q.bround (nat_cmp s.bround q.bround) refl) rest)
besides s q Greater is less =
    let more = two_cmp (s.mark, s.stamp) (q.mark, q.stamp) in
    let high : Greater ≡ Less = sym (ap (λ r. ordering_then r (ordering_then (nat_cmp s.bround q.bround) more)) is) ∙ less in
    absurd (cc)

pub beside : (s q : Spot) → spot_cmp s q ≡ Less → (is_on (Excluded (spot_behind s)) q ≡ true) ⊎ ((s.group ≡ q.group) × (s.bround ≤ q.bround))
beside s q less = besides s q (group_cmp s.group q.group) refl less

settled : (t : Item → Bool) (right : Slot → Bool) (next : ℕ) (e y : Spotted) → GoesBy right t → IsAt next e → IsAt next y
    → right e.1.item.slot ≡ true → right y.1.item.slot ≡ true → t e.1.item ≡ false → spot_cmp e.0 y.0 ≡ Less
    → (is_on (Excluded (spot_behind e.0)) y.0 ≡ true) ⊎ (t y.1.item ≡ false)
settled t right next e y goes at there fine other fails less =
    elim (beside e.0 y.0 less) [
      | inl behind ↦ inl behind
      | inr near ↦
          let same : group_of e.1.item ≡ group_of y.1.item = sym at.group ∙ (near.0 ∙ there.group) in
          let low = near.1 in
          let mine = at.bround in
          let its = there.bround in
          let early : e.1.item.slot.bround ≤ y.1.item.slot.bround = omega (arith, low, mine, its) in
          inr (false_from_ne_true (t y.1.item) (λ passes. both_ways _ fails (goes.opens e.1.item y.1.item fine other same early passes)))
    ]

all_settled : (t : Item → Bool) (right : Slot → Bool) (next : ℕ) (e : Spotted) (ys : List Spotted) → GoesBy right t → IsAt next e → AreAt next ys
    → right e.1.item.slot ≡ true → AreRight right (held_in ys) → t e.1.item ≡ false → AllByRecursion (λ (y : Spotted). spot_cmp e.0 y.0 ≡ Less) ys
    → AllByRecursion (λ (y : Spotted). (is_on (Excluded (spot_behind e.0)) y.0 ≡ true) ⊎ (t y.1.item ≡ false)) ys
all_settled t right next e [] goes at ats fine rights fails less = tt
all_settled t right next e (y ∷ ys) goes at ats fine rights fails less =
    (settled t right next e y goes at ats.0 fine rights.0 fails less.0, all_settled t right next e ys goes at ats.1 fine rights.1 fails less.1)

out_if : (t : Item → Bool) (y : Spotted) (xs ys : List Spotted) (b : Bool) → t y.1.item ≡ false → pass t xs ≡ pass t ys → pass t (cond b (y ∷ xs) xs) ≡ pass t (y ∷ ys)
out_if t y xs ys true fails is = cond-false (t y.1.item) (y ∷ pass t xs) (pass t xs) fails ∙ (is ∙ sym (cond-false (t y.1.item) (y ∷ pass t ys) (pass t ys) fails))
out_if t y xs ys false fails is = is ∙ sym (cond-false (t y.1.item) (y ∷ pass t ys) (pass t ys) fails)

pass_settled : (t : Item → Bool) (q : Spotted → Bool) (ys : List Spotted) → AllByRecursion (λ (y : Spotted). (q y ≡ true) ⊎ (t y.1.item ≡ false)) ys
    → pass t (filter q ys) ≡ pass t ys
pass_settled t q [] all = refl
pass_settled t q (y ∷ ys) all =
    let rest = pass_settled t q ys all.1 in
    elim (all.0) [
      | inl does ↦
          ap (pass t) (cond-true (q y) (y ∷ filter q ys) (filter q ys) does) ∙ ap (λ (l : List Spotted). cond (t y.1.item) (y ∷ l) l) rest
      | inr fails ↦ out_if t y (filter q ys) ys (q y) fails rest
    ]

all_if : (P : Spotted → Type 0) (x : Spotted) (xs : List Spotted) (b : Bool) → P x → AllByRecursion P xs → AllByRecursion P (cond b (x ∷ xs) xs)
all_if P x xs true one all = (one, all)
all_if P x xs false one all = all

pub ats_rest : (next : ℕ) (p : Spotted → Bool) (xs : List Spotted) → AreAt next xs → AreAt next (filter p xs)
ats_rest next p [] all = tt
ats_rest next p (x ∷ xs) all = all_if (IsAt next) x (filter p xs) (p x) all.0 (ats_rest next p xs all.1)

right_if : (right : Slot → Bool) (x : Spotted) (xs : List Spotted) (b : Bool) → right x.1.item.slot ≡ true → AreRight right (held_in xs) → AreRight right (held_in (cond b (x ∷ xs) xs))
right_if right x xs true one all = (one, all)
right_if right x xs false one all = all

rights_rest : (right : Slot → Bool) (p : Spotted → Bool) (xs : List Spotted) → AreRight right (held_in xs) → AreRight right (held_in (filter p xs))
rights_rest right p [] all = tt
rights_rest right p (x ∷ xs) all = right_if right x (filter p xs) (p x) all.0 (rights_rest right p xs all.1)

-- where the first fails, what passes is behind where the walk goes on
pub gone_on : (t : Item → Bool) (right : Slot → Bool) (next : ℕ) (from : Bound Spot) (xs : List Spotted) (e : Spotted) (tail : List Spotted) → IsStrictlySortedBy spot_cmp (keys_of xs)
    → rest_from from xs ≡ e ∷ tail → is_gt (spot_cmp e.0 (spot_behind e.0)) ≡ false → t e.1.item ≡ false
    → GoesBy right t → AreAt next xs → AreRight right (held_in xs)
    → pass t (rest_from (Excluded (spot_behind e.0)) xs) ≡ pass t (rest_from from xs)
gone_on t right next from xs e tail sorted is low fails goes ats rights =
    let at : AreAt next (e ∷ tail) = subst (λ (l : List Spotted). AreAt next l) is (ats_rest next (λ y. is_on from y.0) xs ats) in
    let fine : AreRight right (held_in (e ∷ tail)) = subst (λ (l : List Spotted). AreRight right (held_in l)) is (rights_rest right (λ y. is_on from y.0) xs rights) in
    let all = all_settled t right next e tail goes at.0 at.1 fine.0 fine.1 fails (above from xs e tail sorted is) in
    let b = spot_behind e.0 in
    ap (pass t) (first_out from xs e tail b is low)
    ∙ (pass_settled t (λ y. is_on (Excluded b) y.0) tail all
    ∙ (sym (cond-false (t e.1.item) (e ∷ pass t tail) (pass t tail) fails) ∙ sym (ap (pass t) is)))

-- the first of the rest is in the map
pub first_there : (from : Bound Spot) (m : BTreeMap Spot HeldItem) (e : Spotted) (r tail : List Spotted) → r ≡ e ∷ tail
    → IfSome (slice_get r 0) (IsEntryInRange spot_cmp from Unbounded m) → IsEntryInRange spot_cmp from Unbounded m e
first_there from m e r tail is there = subst (λ (l : List Spotted). IfSome (slice_get l 0) (IsEntryInRange spot_cmp from Unbounded m)) is there
