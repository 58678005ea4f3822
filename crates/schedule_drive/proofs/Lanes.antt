-- The numbers that are left in a lane.
use Rattle.std.proofs.Common.{◌≡◌, ◌≢◌, ◌⊎◌, ℕ, zero, suc, ◌+◌, ◌-◌, ◌%◌, ◌<◌, ◌≤◌, ◌==◌, ◌&&◌, Bool, true, false, not, nat_lt, List, [], ◌∷◌, ◌++◌, length, filter, cond, Some, None, get_or, refl, sym, ◌∙◌, ap, ap₂, inl, inr, if◌then◌else◌, arith}
use Rattle.std.specs.Prelude.{min}
use Rattle.std.specs.List.{slice_get, range_with_len, remove}
use Rattle.std.proofs.lemmas.Bool.{eq-eqb, ne_eqb, eqb-true, eqb-false, not-true, cases_lt, lt-ltb, le-ltb}
use Rattle.std.proofs.lemmas.List.{length-append}
use Rattle.std.proofs.lemmas.List.FromFn.{length-range_with_len}
use Rattle.std.proofs.lemmas.Nat.{mod_below}
use Rattle.std.proofs.lemmas.Option.{slice_get_read, slice_get_past}
use Rattle.std.proofs.lemmas.List.Elements.{filter-append}
use Rattle.schedule_drive.specs.declared.lane.Lane.{Lane}
use Rattle.schedule_drive.specs.Lanes.{numbers_left, has_left, IsLane, without_taken}
use Rattle.schedule_plan.specs.Picks.{passes_once}

-- ---- ranges

range_next : (a n m : ℕ) → a ≡ m → range_with_len a n ≡ range_with_len m n
range_next a n m e = ap (λ (k : ℕ). range_with_len k n) e

pub range_append : (a n m b : ℕ) → a + n ≡ b → range_with_len a (n + m) ≡ range_with_len a n ++ range_with_len b m
range_append a zero m b e = let none : 0 + m ≡ m = omega arith in ap (range_with_len a) none ∙ range_next a m b (omega (arith, e))
range_append a (suc n) m b e =
    let one : suc n + m ≡ suc (n + m) = omega arith in
    ap (range_with_len a) one ∙ ap (λ (xs : List ℕ). a ∷ xs) (range_append (a + 1) n m b (omega (arith, e)))

filter_yes : (test : ℕ → Bool) (x : ℕ) (xs : List ℕ) → test x ≡ true → filter test (x ∷ xs) ≡ x ∷ filter test xs
filter_yes test x xs e = ap (λ b. cond b (x ∷ filter test xs) (filter test xs)) e

filter_not : (test : ℕ → Bool) (x : ℕ) (xs : List ℕ) → test x ≡ false → filter test (x ∷ xs) ≡ filter test xs
filter_not test x xs e = ap (λ b. cond b (x ∷ filter test xs) (filter test xs)) e

filter_all : (test : ℕ → Bool) (a n : ℕ) → ((m : ℕ) → a ≤ m → test m ≡ true) → filter test (range_with_len a n) ≡ range_with_len a n
filter_all test a zero all = refl
filter_all test a (suc n) all =
    filter_yes test a (range_with_len (a + 1) n) (all a (omega arith)) ∙ ap (λ (xs : List ℕ). a ∷ xs) (filter_all test (a + 1) n (λ m from. all m (omega (arith, from))))

-- the same test, from a number on
filter_same : (f g : ℕ → Bool) (a n : ℕ) → ((m : ℕ) → a ≤ m → f m ≡ g m) → filter f (range_with_len a n) ≡ filter g (range_with_len a n)
filter_same f g a zero same = refl
filter_same f g a (suc n) same =
    ap₂ (λ (b : Bool) (xs : List ℕ). cond b (a ∷ xs) xs) (same a (omega arith)) (filter_same f g (a + 1) n (λ m from. same m (omega (arith, from))))

-- ---- what a lane has

-- those at its front, and then all from the next on
pub numbers_are : (lane : Lane) (count : ℕ) (left : ℕ → Bool) → IsLane lane count left → numbers_left count left ≡ lane.front.items ++ range_with_len lane.next (lane.count - lane.next)
numbers_are lane count left is =
    let within = is.within in
    let all = is.all in
    let parts : count ≡ lane.next + (lane.count - lane.next) = omega (arith, within, all) in
    ap (λ (k : ℕ). filter left (range_with_len 0 k)) parts
    ∙ ap (filter left) (range_append 0 lane.next (lane.count - lane.next) lane.next (omega arith))
    ∙ filter-append left (range_with_len 0 lane.next) (range_with_len lane.next (lane.count - lane.next))
    ∙ ap₂ (λ (xs ys : List ℕ). xs ++ ys) is.front (filter_all left lane.next (lane.count - lane.next) is.rest)

-- one more at the front
pub one_more : (left : ℕ → Bool) (next : ℕ) (front : List ℕ) → numbers_left next left ≡ front → left next ≡ true → numbers_left (next + 1) left ≡ front ++ next ∷ []
one_more left next front is passes =
    ap (filter left) (range_append 0 next 1 next (omega arith))
    ∙ filter-append left (range_with_len 0 next) (next ∷ [])
    ∙ ap₂ (λ (xs ys : List ℕ). xs ++ ys) is (filter_yes left next [] passes)

-- ---- a number is taken out

record IsTaken (left : ℕ → Bool) (a n place m : ℕ) : Type 0 where
  from : a ≤ m
  below : m < a + n
  taken : filter (λ k. not (m == k) && left k) (range_with_len a n) ≡ remove (filter left (range_with_len a n)) place

other : (left : ℕ → Bool) (m k : ℕ) → m ≢ k → (not (m == k) && left k) ≡ left k
other left m k apart = ap (λ b. not b && left k) (ne_eqb m k apart)

itself : (left : ℕ → Bool) (m k : ℕ) → m ≡ k → (not (m == k) && left k) ≡ false
itself left m k same = ap (λ b. not b && left k) (eq-eqb m k same)

-- where the first isn't left, or is before the one that is taken out
taken_after : (left : ℕ → Bool) (a n place m : ℕ) → (b : Bool) → left a ≡ b → IsTaken left (a + 1) n place m → IsTaken left a (suc n) (if b then suc place else place) m
taken_after left a n place m b is rest = record {
  from = let from = rest.from in omega (arith, from);
  below = let below = rest.below in omega (arith, below);
  taken = let from = rest.from in let apart : m ≢ a = omega (arith, from) in either b is (other left m a apart ∙ is);
}
  where
    either : (b : Bool) → left a ≡ b → (not (m == a) && left a) ≡ b
        → filter (λ k. not (m == k) && left k) (range_with_len a (suc n)) ≡ remove (filter left (range_with_len a (suc n))) (if b then suc place else place)
    either true is still =
        filter_yes (λ k. not (m == k) && left k) a (range_with_len (a + 1) n) still ∙ ap (λ (xs : List ℕ). a ∷ xs) rest.taken
        ∙ sym (ap (λ (xs : List ℕ). remove xs (suc place)) (filter_yes left a (range_with_len (a + 1) n) is))
    either false is still =
        filter_not (λ k. not (m == k) && left k) a (range_with_len (a + 1) n) still ∙ rest.taken
        ∙ sym (ap (λ (xs : List ℕ). remove xs place) (filter_not left a (range_with_len (a + 1) n) is))

taken_first : (left : ℕ → Bool) (a n m : ℕ) → left a ≡ true → a ≡ m → IsTaken left a (suc n) 0 m
taken_first left a n m is same = record {
  from = omega (arith, same);
  below = omega (arith, same);
  taken = filter_not (λ k. not (m == k) && left k) a (range_with_len (a + 1) n) (itself left m a (sym same))
      ∙ filter_same (λ k. not (m == k) && left k) left (a + 1) n (λ k from. other left m k (omega (arith, from, same)))
      ∙ sym (ap (λ (xs : List ℕ). remove xs 0) (filter_yes left a (range_with_len (a + 1) n) is));
}

taken_at : (left : ℕ → Bool) (a n place m : ℕ) → slice_get (filter left (range_with_len a n)) place ≡ Some m → IsTaken left a n place m
taken_at left a zero place m is = absurd cc
taken_at left a (suc n) place m is = cases (left a) refl place is (taken_at left (a + 1) n)
  where
    cases : (b : Bool) → left a ≡ b → (place : ℕ) → slice_get (cond b (a ∷ filter left (range_with_len (a + 1) n)) (filter left (range_with_len (a + 1) n))) place ≡ Some m
        → ((place m : ℕ) → slice_get (filter left (range_with_len (a + 1) n)) place ≡ Some m → IsTaken left (a + 1) n place m) → IsTaken left a (suc n) place m
    cases true e zero is rest = taken_first left a n m e (let same : Some a ≡ Some m = is in cc)
    cases true e (suc place) is rest = taken_after left a n place m true e (rest place m is)
    cases false e place is rest = taken_after left a n place m false e (rest place m is)

-- the lane without a number of its front
pub taken_out : (lane new : Lane) (count word place m : ℕ) (left : ℕ → Bool) → IsLane lane count left → slice_get lane.front.items place ≡ Some m → passes_once word ≡ true
    → new.front.items ≡ remove lane.front.items place → new.next ≡ lane.next → new.count ≡ lane.count → IsLane new count (without_taken word (Some m) left)
taken_out lane new count word place m left is at passes front next all =
    let taken = taken_at left 0 lane.next place m (ap (λ (xs : List ℕ). slice_get xs place) is.front ∙ at) in
    let less : (k : ℕ) → without_taken word (Some m) left k ≡ (not (m == k) && left k) = λ k. ap (λ b. if b then not (m == k) && left k else left k) passes in
    let below = taken.below in
    record {
      front = ap (λ (k : ℕ). numbers_left k (without_taken word (Some m) left)) next
          ∙ filter_same (without_taken word (Some m) left) (λ k. not (m == k) && left k) 0 lane.next (λ k _. less k)
          ∙ taken.taken ∙ ap (λ (xs : List ℕ). remove xs place) is.front ∙ sym front;
      rest = λ k from. less k ∙ other left m k (omega (arith, from, below, next)) ∙ is.rest k (omega (arith, from, next));
      within = let within = is.within in omega (arith, within, next, all);
      all = all ∙ is.all;
    }

-- it stays, where the word says so
pub kept_in : (lane : Lane) (count word m : ℕ) (left : ℕ → Bool) → IsLane lane count left → passes_once word ≡ false → IsLane lane count (without_taken word (Some m) left)
kept_in lane count word m left is stays =
    let same : (k : ℕ) → without_taken word (Some m) left k ≡ left k = λ k. ap (λ b. if b then not (m == k) && left k else left k) stays in
    record {
      front = filter_same (without_taken word (Some m) left) left 0 lane.next (λ k _. same k) ∙ is.front;
      rest = λ k from. same k ∙ is.rest k from;
      within = is.within;
      all = is.all;
    }

-- ---- the calls

-- the next number goes to the front
pub filled : (lane new : Lane) (count : ℕ) (left : ℕ → Bool) → IsLane lane count left → lane.next < lane.count
    → new.front.items ≡ lane.front.items ++ lane.next ∷ [] → new.next ≡ lane.next + 1 → new.count ≡ lane.count → IsLane new count left
filled lane new count left is below front next all = record {
  front = ap (λ (k : ℕ). numbers_left k left) next ∙ one_more left lane.next lane.front.items is.front (is.rest lane.next (omega arith)) ∙ sym front;
  rest = λ m from. is.rest m (omega (arith, from, next));
  within = omega (arith, below, next, all);
  all = all ∙ is.all;
}

some_length : (lane : Lane) (count : ℕ) (left : ℕ → Bool) → IsLane lane count left → length (numbers_left count left) ≡ length lane.front.items + (lane.count - lane.next)
some_length lane count left is =
    ap length (numbers_are lane count left is) ∙ length-append lane.front.items (range_with_len lane.next (lane.count - lane.next))
    ∙ ap (λ (k : ℕ). length lane.front.items + k) (length-range_with_len lane.next (lane.count - lane.next))

pub open_front : (lane : Lane) (count : ℕ) (left : ℕ → Bool) → IsLane lane count left → not (length lane.front.items == 0) ≡ true → has_left count left ≡ true
open_front lane count left is some =
    let apart : length lane.front.items ≢ 0 = eqb-false (length lane.front.items) 0 (not-true (length lane.front.items == 0) some) in
    ap not (ne_eqb (length (numbers_left count left)) 0 (let many = some_length lane count left is in omega (arith, apart, many)))

pub open_rest : (lane : Lane) (count : ℕ) (left : ℕ → Bool) → IsLane lane count left → not (length lane.front.items == 0) ≡ false → nat_lt lane.next lane.count ≡ has_left count left
open_rest lane count left is none =
    let empty : length lane.front.items ≡ 0 = eqb-true (length lane.front.items) 0 (not-false (length lane.front.items == 0) none) in
    let many = some_length lane count left is in
    elim (cases_lt lane.next lane.count) [
      | inl lt ↦ lt-ltb lane.next lane.count lt ∙ sym (ap not (ne_eqb (length (numbers_left count left)) 0 (omega (arith, lt, many))))
      | inr le ↦ le-ltb lane.next lane.count le ∙ sym (ap not (eq-eqb (length (numbers_left count left)) 0 (omega (arith, le, many, empty))))
    ]
  where
    not-false : (b : Bool) → not b ≡ false → b ≡ true
    not-false true e = refl
    not-false false e = absurd cc

-- the front is full, or there are no others
abbrev IsFull : Lane → Type 0
IsFull lane = (8 ≤ length lane.front.items) ⊎ (lane.count ≤ lane.next)

same_most : (lane : Lane) (count : ℕ) (left : ℕ → Bool) → IsLane lane count left → IsFull lane → min 8 (length (numbers_left count left)) ≡ min (length lane.front.items) 8
same_most lane count left is (inl full) = let many = some_length lane count left is in omega (arith, many, full)
same_most lane count left is (inr none) = let many = some_length lane count left is in omega (arith, many, none)

get_left : (xs ys : List ℕ) (i m : ℕ) → slice_get xs i ≡ Some m → slice_get (xs ++ ys) i ≡ Some m
get_left [] ys i m e = absurd cc
get_left (x ∷ xs) ys zero m e = e
get_left (x ∷ xs) ys (suc i) m e = get_left xs ys i m e

pub front_at : (front : List ℕ) (word many number : ℕ) → many ≡ min (length front) 8 → many ≢ 0 → number ≡ get_or front (word % many) number → slice_get front (word % many) ≡ Some number
front_at front word many number is some read =
    slice_get_read front (length front) (word % many) number refl (let below = mod_below word many (omega (arith, some)) in omega (arith, below, is)) read

pub picked : (lane : Lane) (count : ℕ) (left : ℕ → Bool) → IsLane lane count left → IsFull lane → (word many number : ℕ) → many ≡ min (length lane.front.items) 8 → many ≢ 0
    → number ≡ get_or lane.front.items (word % many) number → Some number ≡ slice_get (numbers_left count left) (word % min 8 (length (numbers_left count left)))
picked lane count left is full word many number most some read =
    sym (ap₂ slice_get (numbers_are lane count left is) (ap (λ (k : ℕ). word % k) (same_most lane count left is full ∙ sym most))
    ∙ get_left lane.front.items (range_with_len lane.next (lane.count - lane.next)) (word % many) number (front_at lane.front.items word many number most some read))

pub none_picked : (lane : Lane) (count : ℕ) (left : ℕ → Bool) → IsLane lane count left → IsFull lane → (word : ℕ) → min (length lane.front.items) 8 ≡ 0
    → None ≡ slice_get (numbers_left count left) (word % min 8 (length (numbers_left count left)))
none_picked lane count left is full word none =
    let most = same_most lane count left is full in
    sym (slice_get_past (numbers_left count left) (word % min 8 (length (numbers_left count left))) (omega (arith, most, none)))
