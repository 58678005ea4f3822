-- The items of a peer in the order in which they were held.
use Rattle.std.specs.Prelude.{◌≡◌, ℕ, ◌+◌, ◌-◌, ◌<◌, nat_lt, Bool, true, false, not, ◌||◌, cond, List, [], ◌∷◌, ◌++◌, length, filter, sum_by, count_by, refl}
use Rattle.std.proofs.Common.{Ordering, sym, ◌∙◌, ap, subst, arith, inl, inr, suc}
use Rattle.std.specs.declared.cmp.Ordering.TheVariants.{Less, Equal, Greater}
use Rattle.std.specs.List.{AllByRecursion, list_any}
use Rattle.std.specs.Ordering.{match_ordering}
use Rattle.std.specs.BTreeMap.{insert_entry}
use Rattle.std.specs.Map.{values_of}
use Rattle.std.proofs.lemmas.Bool.{cases_Bool, cond-true, cond-false}
use Rattle.std.proofs.lemmas.List.{length-map, map-append}
use Rattle.std.proofs.lemmas.List.Sums.{sum_by-append}
use Rattle.ritas_base.specs.declared.item.Item.{Item}
use Rattle.ritas_base.specs.declared.slot.Slot.{Slot}
use Rattle.indexmap.specs.IndexMap.{IndexMap}
use Rattle.ooc_buffers.specs.declared.group.Spot.{Spot}
use Rattle.ooc_buffers.specs.declared.key.Key.{Key}
use Rattle.ooc_buffers.specs.Lists.{HeldItem, passing, failing}
use Rattle.ooc_buffers.specs.Groups.{AreRight}
use Rattle.ooc_buffers.specs.Keys.{item_key, key_eq, count_at, CountsKeys}
use Rattle.ooc_buffers.specs.Spots.{spot_cmp, Spotted, held_in, in_order, pass, fail, put, put_all, IsAt, AreAt, Leaves}
use Rattle.ooc_buffers.proofs.Walks.{exact_spots}
use Rattle.ooc_buffers.proofs.Leaving.{sum_left}
use Rattle.ooc_buffers.proofs.Stamps.{filter_put_all, put_all_more, sum_put_all, any_put_all}

-- ---- filters

filter_if : (p : HeldItem → Bool) (x : Spotted) (xs : List Spotted) (ks : List HeldItem) (b : Bool) → ks ≡ held_in xs → cond b (x.1 ∷ ks) ks ≡ held_in (cond b (x ∷ xs) xs)
filter_if p x xs ks true is = ap (λ (l : List HeldItem). x.1 ∷ l) is
filter_if p x xs ks false is = is

filter_held : (p : HeldItem → Bool) (xs : List Spotted) → filter p (held_in xs) ≡ held_in (filter (λ e. p e.1) xs)
filter_held p [] = refl
filter_held p (x ∷ xs) = filter_if p x (filter (λ e. p e.1) xs) (filter p (held_in xs)) (p x.1) (filter_held p xs)

pub order_pass : (t : Item → Bool) (xs : List Spotted) → passing t (in_order xs) ≡ in_order (pass t xs)
order_pass t xs = filter_held (λ k. t k.item) (put_all [] xs) ∙ ap (λ (l : List Spotted). held_in l) (filter_put_all (λ e. t e.1.item) [] xs tt)

pub order_fail : (t : Item → Bool) (xs : List Spotted) → failing t (in_order xs) ≡ in_order (fail t xs)
order_fail t xs = filter_held (λ k. not (t k.item)) (put_all [] xs) ∙ ap (λ (l : List Spotted). held_in l) (filter_put_all (λ e. not (t e.1.item)) [] xs tt)

-- ---- lengths

length_put : (e : Spotted) (xs : List Spotted) → length (put e xs) ≡ suc (length xs)
length_put e [] = refl
length_put e (x ∷ xs) =
    elim (cases_Bool (nat_lt e.0.stamp x.0.stamp)) [
      | inl low ↦ ap length (cond-true (nat_lt e.0.stamp x.0.stamp) (e ∷ x ∷ xs) (x ∷ put e xs) low)
      | inr high ↦ ap length (cond-false (nat_lt e.0.stamp x.0.stamp) (e ∷ x ∷ xs) (x ∷ put e xs) high) ∙ ap suc (length_put e xs)
    ]

length_put_all : (xs es : List Spotted) → length (put_all xs es) ≡ length xs + length es
length_put_all xs [] = omega arith
length_put_all xs (e ∷ es) =
    let one = length_put e xs in
    let rest = length_put_all (put e xs) es in
    omega (arith, one, rest)

pub order_length : (xs : List Spotted) → length (in_order xs) ≡ length xs
order_length xs =
    let one = length-map (put_all [] xs) (λ (e : Spotted). e.1) in
    let all = length_put_all [] xs in
    omega (arith, one, all)

pub order_count : (t : Item → Bool) (xs : List Spotted) → length (passing t (in_order xs)) ≡ length (pass t xs)
order_count t xs = ap length (order_pass t xs) ∙ order_length (pass t xs)

-- ---- sums, and what is among them

pub order_sum : (f : HeldItem → ℕ) (xs : List Spotted) → sum_by f (in_order xs) ≡ sum_by f (held_in xs)
order_sum f xs = let all = sum_put_all f [] xs in omega (arith, all)

or_none : (b : Bool) → (b || false) ≡ b
or_none true = refl
or_none false = refl

pub order_any : (p : HeldItem → Bool) (xs : List Spotted) → list_any p (in_order xs) ≡ list_any p (held_in xs)
order_any p xs = any_put_all p [] xs ∙ or_none (list_any p (held_in xs))

back_if : (P : Spotted → Type 0) (e x : Spotted) (xs ys : List Spotted) (b : Bool) → (AllByRecursion P ys → P e × AllByRecursion P xs)
    → AllByRecursion P (cond b (e ∷ x ∷ xs) (x ∷ ys)) → P e × AllByRecursion P (x ∷ xs)
back_if P e x xs ys true rest all = (all.0, all.1)
back_if P e x xs ys false rest all = let more = rest all.1 in (more.0, (all.0, more.1))

put_back : (P : Spotted → Type 0) (e : Spotted) (xs : List Spotted) → AllByRecursion P (put e xs) → P e × AllByRecursion P xs
put_back P e [] all = (all.0, tt)
put_back P e (x ∷ xs) all = back_if P e x xs (put e xs) (nat_lt e.0.stamp x.0.stamp) (put_back P e xs) all

put_all_back : (P : Spotted → Type 0) (xs es : List Spotted) → AllByRecursion P (put_all xs es) → AllByRecursion P xs × AllByRecursion P es
put_all_back P xs [] all = (all, tt)
put_all_back P xs (e ∷ es) all =
    let more = put_all_back P (put e xs) es all in
    let one = put_back P e xs more.0 in
    (one.1, (one.0, more.1))

rights_in : (right : Slot → Bool) (xs : List Spotted) → AreRight right (held_in xs) → AllByRecursion (λ (e : Spotted). right e.1.item.slot ≡ true) xs
rights_in right [] all = tt
rights_in right (x ∷ xs) all = (all.0, rights_in right xs all.1)

rights_out : (right : Slot → Bool) (xs : List Spotted) → AllByRecursion (λ (e : Spotted). right e.1.item.slot ≡ true) xs → AreRight right (held_in xs)
rights_out right [] all = tt
rights_out right (x ∷ xs) all = (all.0, rights_out right xs all.1)

pub order_rights : (right : Slot → Bool) (xs : List Spotted) (now : List HeldItem) → in_order xs ≡ now → AreRight right now → AreRight right (held_in xs)
order_rights right xs now is rights =
    rights_out right xs (put_all_back (λ (e : Spotted). right e.1.item.slot ≡ true) [] xs (rights_in right (put_all [] xs) (subst (λ (l : List HeldItem). AreRight right l) (sym is) rights))).1

-- ---- one item more

by_order : (k : Spot) (v : HeldItem) (x : Spotted) (xs : List Spotted) (r : Ordering) → spot_cmp k x.0 ≡ r → x.0.stamp < k.stamp
    → Leaves (k, v) (insert_entry spot_cmp xs k v) xs
    → Leaves (k, v) (match_ordering r ((k, v) ∷ x ∷ xs) ((x.0, v) ∷ xs) (x ∷ insert_entry spot_cmp xs k v)) (x ∷ xs)
by_order k v x xs Less is more rest = record { front = []; back = x ∷ xs; was = refl; now = refl }
by_order k v x xs Equal is more rest =
    let same = ap (λ (s : Spot). s.stamp) (exact_spots k x.0 is) in
    absurd (omega (arith, same, more))
by_order k v x xs Greater is more rest = record {
  front = x ∷ rest.front;
  back = rest.back;
  was = ap (λ (l : List Spotted). x ∷ l) rest.was;
  now = ap (λ (l : List Spotted). x ∷ l) rest.now;
}

pub added : (next : ℕ) (k : Spot) (v : HeldItem) (xs : List Spotted) → k.stamp ≡ next → AreAt next xs → Leaves (k, v) (insert_entry spot_cmp xs k v) xs
added next k v [] new ats = record { front = []; back = []; was = refl; now = refl }
added next k v (x ∷ xs) new ats =
    let there = ats.0 in
    let early = there.stamp in
    by_order k v x xs (spot_cmp k x.0) refl (omega (arith, new, early)) (added next k v xs new ats.1)

front_at : (next : ℕ) (front back : List Spotted) → AreAt next (front ++ back) → AllByRecursion (λ (y : Spotted). y.0.stamp < next) front × AllByRecursion (λ (y : Spotted). y.0.stamp < next) back
front_at next [] [] ats = (tt, tt)
front_at next [] (x ∷ back) ats =
    let one = ats.0 in
    (tt, (one.stamp, (front_at next [] back ats.1).1))
front_at next (x ∷ front) back ats =
    let one = ats.0 in
    let rest = front_at next front back ats.1 in
    ((one.stamp, rest.0), rest.1)

pub order_more : (e : Spotted) (old new : List Spotted) → Leaves e new old → AreAt e.0.stamp old → in_order new ≡ in_order old ++ e.1 ∷ []
order_more e old new left ats =
    let both = front_at e.0.stamp left.front left.back (subst (λ (l : List Spotted). AreAt e.0.stamp l) left.now ats) in
    ap (λ (l : List Spotted). in_order l) left.was
    ∙ (ap (λ (l : List Spotted). held_in l) (put_all_more e [] left.front left.back tt both.0 both.1)
    ∙ (map-append (λ (y : Spotted). y.1) (put_all [] (left.front ++ left.back)) (e ∷ [])
    ∙ ap (λ (l : List Spotted). in_order l ++ e.1 ∷ []) (sym left.now)))

later : (next : ℕ) (e : Spotted) → IsAt next e → IsAt (next + 1) e
later next e at = let early = at.stamp in record { group = at.group; bround = at.bround; mark = at.mark; stamp = omega (arith, early) }

all_later : (next : ℕ) (front : List Spotted) (e : Spotted) (back : List Spotted) → IsAt (next + 1) e → AreAt next (front ++ back) → AreAt (next + 1) (front ++ e ∷ back)
all_later next [] e [] at ats = (at, tt)
all_later next [] e (x ∷ back) at ats = (at, (later next x ats.0, (all_later next [] e back at ats.1).1))
all_later next (x ∷ front) e back at ats = (later next x ats.0, all_later next front e back at ats.1)

pub ats_more : (next : ℕ) (e : Spotted) (old new : List Spotted) → Leaves e new old → IsAt (next + 1) e → AreAt next old → AreAt (next + 1) new
ats_more next e old new left at ats =
    subst (λ (l : List Spotted). AreAt (next + 1) l) (sym left.was)
    (all_later next left.front e left.back at (subst (λ (l : List Spotted). AreAt next l) left.now ats))

pub counts_more : {S : Type 0} (was now : IndexMap Key ℕ S) (e : Spotted) (old new : List Spotted) → Leaves e new old → CountsKeys was (held_in old)
    → ((q : Key) → count_at now q ≡ count_at was q + cond {A = ℕ} (key_eq q (item_key e.1.item)) 1 0) → CountsKeys now (held_in new)
counts_more was now e old new left counts more = λ q.
    let one : ℕ = cond {A = ℕ} (key_eq q (item_key e.1.item)) 1 0 in
    let all : count_by (λ k. key_eq q (item_key k.item)) (held_in new) ≡ one + count_by (λ k. key_eq q (item_key k.item)) (held_in old) =
    sum_left (λ (k : HeldItem). cond {A = ℕ} (key_eq q (item_key k.item)) 1 0) e new old left in
    let before = counts q in
    let next = more q in
    omega (arith, all, before, next)

-- one more and one less
pub counts_same : {S : Type 0} (was up now : IndexMap Key ℕ S) (key : Key) (kept : List HeldItem) → CountsKeys was kept
    → ((q : Key) → count_at up q ≡ count_at was q + cond {A = ℕ} (key_eq q key) 1 0)
    → ((q : Key) → count_at now q ≡ count_at up q - cond {A = ℕ} (key_eq q key) 1 0) → CountsKeys now kept
counts_same was up now key kept counts more less = λ q.
    let one : ℕ = cond {A = ℕ} (key_eq q key) 1 0 in
    let a = counts q in
    let b = more q in
    let c = less q in
    omega (arith, a, b, c)

-- what has moved, and what is left
pub counts_both : {S : Type 0} (index : IndexMap Key ℕ S) (old moved now : List Spotted) → ((f : HeldItem → ℕ) → sum_by f (held_in moved) + sum_by f (held_in now) ≡ sum_by f (held_in old))
    → CountsKeys index (held_in old) → CountsKeys index (held_in moved ++ held_in now)
counts_both index old moved now same counts = λ q.
    let f = λ (k : HeldItem). cond {A = ℕ} (key_eq q (item_key k.item)) 1 0 in
    counts q ∙ (sym (same f) ∙ sym (sum_by-append f (held_in moved) (held_in now)))

pub length_moved : (xs : List Spotted) → length (put_all [] xs) ≡ length xs
length_moved xs = let all = length_put_all [] xs in omega (arith, all)

-- what was moved into an empty list
pub sums_moved : (f : HeldItem → ℕ) (before moved old now : List Spotted) → before ≡ [] → sum_by f (held_in moved) + sum_by f (held_in now) ≡ sum_by f (held_in before) + sum_by f (held_in old)
    → sum_by f (held_in moved) + sum_by f (held_in now) ≡ sum_by f (held_in old)
sums_moved f before moved old now none same =
    let empty = ap (λ (l : List Spotted). sum_by f (held_in l)) none in
    omega (arith, same, empty)

pub values_held : (xs : List Spotted) → values_of xs ≡ held_in xs
values_held [] = refl
values_held (x ∷ xs) = ap (λ (l : List HeldItem). x.1 ∷ l) (values_held xs)
