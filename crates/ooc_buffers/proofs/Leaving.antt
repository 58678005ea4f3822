-- An item leaves the others.
use Rattle.std.specs.Prelude.{◌≡◌, ℕ, ◌+◌, ◌-◌, ◌≤◌, Bool, true, false, not, cond, List, [], ◌∷◌, ◌++◌, length, filter, sum_by, count_by, Option, Some, unwrap_or, refl}
use Rattle.std.proofs.Common.{sym, ◌∙◌, ap, ap₂, arith, inl, inr, length-append, append_assoc}
use Rattle.std.specs.declared.ops.Bound.{Bound}
use Rattle.std.specs.declared.ops.Bound.TheVariants.{Excluded, Unbounded}
use Rattle.std.specs.BTreeMap.{is_at}
use Rattle.std.specs.Map.{lookup, remove_entry}
use Rattle.std.proofs.lemmas.List.{append-nil}
use Rattle.std.proofs.lemmas.Bool.{cases_Bool, cond-true, cond-false}
use Rattle.std.proofs.lemmas.List.Elements.{filter-append}
use Rattle.std.proofs.lemmas.List.Sums.{sum_by-cons}
use Rattle.ritas_base.specs.SlotOrder.{equal_from}
use Rattle.ritas_base.specs.declared.item.Item.{Item}
use Rattle.ritas_base.specs.declared.slot.Slot.{Slot}
use Rattle.ooc_buffers.specs.Lists.{HeldItem}
use Rattle.indexmap.specs.IndexMap.{IndexMap}
use Rattle.ooc_buffers.specs.declared.key.Key.{Key}
use Rattle.ooc_buffers.specs.Keys.{item_key, key_eq, count_at, CountsKeys}
use Rattle.ooc_buffers.specs.Groups.{AreRight}
use Rattle.ooc_buffers.specs.Spots.{spot_cmp, Spotted, held_in, pass, fail, rest_from, AreAt, IsFound, Leaves, HasLeft}
use Rattle.ooc_buffers.specs.declared.group.Spot.{Spot}
use Rattle.ooc_buffers.proofs.Walks.{exact_spots, is_on, not_on, itself_no_less}

found_in : (k : Spot) (v : HeldItem) (x : Spotted) (xs : List Spotted) (b : Bool) → (b ≡ true → x.0 ≡ k) → cond b (Some x.1) (lookup (is_at (spot_cmp k)) xs) ≡ Some v
    → (lookup (is_at (spot_cmp k)) xs ≡ Some v → Leaves (k, v) xs (remove_entry (is_at (spot_cmp k)) xs))
    → Leaves (k, v) (x ∷ xs) (cond b xs (x ∷ remove_entry (is_at (spot_cmp k)) xs))
found_in k v x xs true same is rest =
    let value : x.1 ≡ v = ap (λ (o : Option HeldItem). unwrap_or o v) is in
    record {
      front = [];
      back = xs;
      was = ap₂ (λ (s : Spot) (h : HeldItem). (s, h) ∷ xs) (same refl) value;
      now = refl;
    }
found_in k v x xs false same is rest =
    let there = rest is in
    record {
      front = x ∷ there.front;
      back = there.back;
      was = ap (λ (l : List Spotted). x ∷ l) there.was;
      now = ap (λ (l : List Spotted). x ∷ l) there.now;
    }

pub leaves : (k : Spot) (v : HeldItem) (xs : List Spotted) → lookup (is_at (spot_cmp k)) xs ≡ Some v → Leaves (k, v) xs (remove_entry (is_at (spot_cmp k)) xs)
leaves k v [] is = absurd (cc)
leaves k v (x ∷ xs) is =
    found_in k v x xs (is_at (spot_cmp k) x.0) (λ at. sym (exact_spots k x.0 (equal_from (spot_cmp k x.0) at))) is (leaves k v xs)

without : (p : Spotted → Bool) (front : List Spotted) (e : Spotted) (back : List Spotted) → p e ≡ false → filter p (front ++ e ∷ back) ≡ filter p (front ++ back)
without p front e back out =
    filter-append p front (e ∷ back)
    ∙ (ap (λ (l : List Spotted). filter p front ++ l) (cond-false (p e) (e ∷ filter p back) (filter p back) out) ∙ sym (filter-append p front back))

same_without : (p : Spotted → Bool) (e : Spotted) (xs xs' : List Spotted) → Leaves e xs xs' → p e ≡ false → filter p xs ≡ filter p xs'
same_without p e xs xs' left out = ap (filter p) left.was ∙ (without p left.front e left.back out ∙ sym (ap (filter p) left.now))

one_fewer : (t : Item → Bool) (e : Spotted) (xs xs' : List Spotted) → Leaves e xs xs' → t e.1.item ≡ true → length (pass t xs) ≡ length (pass t xs') + 1
one_fewer t e xs xs' left does =
    let was = ap (λ (l : List Spotted). length (pass t l)) left.was ∙ (ap length (filter-append (λ y. t y.1.item) left.front (e ∷ left.back)) ∙ length-append (pass t left.front) (pass t (e ∷ left.back))) in
    let now = ap (λ (l : List Spotted). length (pass t l)) left.now ∙ (ap length (filter-append (λ y. t y.1.item) left.front left.back) ∙ length-append (pass t left.front) (pass t left.back)) in
    let one = ap length (cond-true (t e.1.item) (e ∷ pass t left.back) (pass t left.back) does) in
    omega (arith, was, now, one)

-- the first that passes has left
pub has_left : (t : Item → Bool) (from : Bound Spot) (e : Spotted) (xs xs' : List Spotted) → Leaves e xs xs' → t e.1.item ≡ true
    → pass t (rest_from from xs) ≡ e ∷ pass t (rest_from (Excluded e.0) xs) → length (pass t xs) ≡ length (pass t (rest_from from xs))
    → HasLeft t from (Excluded e.0) xs xs' e
has_left t from e xs xs' left does first behind =
    let rest = same_without (λ y. is_on (Excluded e.0) y.0) e xs xs' left (not_on e.0 e.0 (itself_no_less e.0)) in
    let here = first ∙ ap (λ (l : List Spotted). e ∷ pass t l) rest in
    let long = ap length here in
    let fewer = one_fewer t e xs xs' left does in
    record {
      passes = does;
      first = here;
      kept = sym (same_without (λ y. not (t y.1.item)) e xs xs' left (ap not does));
      behind = omega (arith, behind, long, fewer);
    }

sum_split : (f : HeldItem → ℕ) (front : List Spotted) (e : Spotted) (back : List Spotted) → sum_by f (held_in (front ++ e ∷ back)) ≡ f e.1 + sum_by f (held_in (front ++ back))
sum_split f [] e back = sum_by-cons f e.1 (held_in back)
sum_split f (x ∷ front) e back =
    let first = sum_by-cons f x.1 (held_in (front ++ e ∷ back)) in
    let last = sum_by-cons f x.1 (held_in (front ++ back)) in
    let rest = sum_split f front e back in
    omega (arith, first, last, rest)

pub sum_left : (f : HeldItem → ℕ) (e : Spotted) (xs xs' : List Spotted) → Leaves e xs xs' → sum_by f (held_in xs) ≡ f e.1 + sum_by f (held_in xs')
sum_left f e xs xs' left =
    ap (λ (l : List Spotted). sum_by f (held_in l)) left.was
    ∙ (sum_split f left.front e left.back ∙ ap (λ (l : List Spotted). f e.1 + sum_by f (held_in l)) (sym left.now))

ats_split : (next : ℕ) (front : List Spotted) (e : Spotted) (back : List Spotted) → AreAt next (front ++ e ∷ back) → AreAt next (front ++ back)
ats_split next [] e back all = all.1
ats_split next (x ∷ front) e back all = (all.0, ats_split next front e back all.1)

pub ats_left : (next : ℕ) (e : Spotted) (xs xs' : List Spotted) → Leaves e xs xs' → AreAt next xs → AreAt next xs'
ats_left next e xs xs' left ats = rw left.now (ats_split next left.front e left.back (rw left.was at ats))

rights_split : (right : Slot → Bool) (front : List Spotted) (e : Spotted) (back : List Spotted) → AreRight right (held_in (front ++ e ∷ back)) → AreRight right (held_in (front ++ back))
rights_split right [] e back all = all.1
rights_split right (x ∷ front) e back all = (all.0, rights_split right front e back all.1)

pub rights_left : (right : Slot → Bool) (e : Spotted) (xs xs' : List Spotted) → Leaves e xs xs' → AreRight right (held_in xs) → AreRight right (held_in xs')
rights_left right e xs xs' left rights = rw left.now (rights_split right left.front e left.back (rw left.was at rights))

pub fewer_left : (e : Spotted) (xs xs' : List Spotted) → Leaves e xs xs' → length xs ≡ length xs' + 1
fewer_left e xs xs' left =
    let was = ap length left.was ∙ length-append left.front (e ∷ left.back) in
    let now = ap length left.now ∙ length-append left.front left.back in
    omega (arith, was, now)

-- none passes where their number is 0
pub none_pass : (t : Item → Bool) (xs : List Spotted) → length (pass t xs) ≡ 0 → fail t xs ≡ xs
none_pass t [] none = refl
none_pass t (x ∷ xs) none =
    elim (cases_Bool (t x.1.item)) [
      | inl does ↦ let one = ap length (cond-true (t x.1.item) (x ∷ pass t xs) (pass t xs) does) in absurd (omega (arith, none, one))
      | inr fails ↦
          let out = cond-false (t x.1.item) (x ∷ pass t xs) (pass t xs) fails in
          ap (λ (b : Bool). cond (not b) (x ∷ fail t xs) (fail t xs)) fails ∙ ap (λ (l : List Spotted). x ∷ l) (none_pass t xs (sym (ap length out) ∙ none))
    ]

pub empty_of : (xs : List Spotted) → length xs ≡ 0 → xs ≡ []
empty_of [] none = refl
empty_of (x ∷ xs) none = absurd (omega (arith, none))

-- ---- one after another

-- what is left, with what passes among it behind a spot
pub record IsLeft (t : Item → Bool) (right : Slot → Bool) (next : ℕ) (old : List Spotted) (from : Bound Spot) (now : List Spotted) : Type 0 where
  pub ats : AreAt next now
  pub rights : AreRight right (held_in now)
  pub kept : fail t now ≡ fail t old
  pub behind : length (pass t now) ≡ length (pass t (rest_from from now))

pub left_more : (t : Item → Bool) (right : Slot → Bool) (next : ℕ) (old : List Spotted) (from from' : Bound Spot) (now now' : List Spotted) (e : Spotted)
    → Leaves e now now' → HasLeft t from from' now now' e → IsLeft t right next old from now → IsLeft t right next old from' now'
left_more t right next old from from' now now' e left has was = record {
  ats = ats_left next e now now' left was.ats;
  rights = rights_left right e now now' left was.rights;
  kept = has.kept ∙ was.kept;
  behind = has.behind;
}

pub left_none : (t : Item → Bool) (right : Slot → Bool) (next : ℕ) (old : List Spotted) (from : Bound Spot) (now : List Spotted) → length (pass t (rest_from from now)) ≡ 0
    → IsLeft t right next old from now → now ≡ fail t old
left_none t right next old from now none was = sym (none_pass t now (was.behind ∙ none)) ∙ was.kept

-- all that pass have moved, or are left
pub record IsMoving (t : Item → Bool) (old : List Spotted) (from : Bound Spot) (now before after : List Spotted) (len many : ℕ) : Type 0 where
  pub items : after ++ pass t (rest_from from now) ≡ before ++ pass t old
  pub count : many + length (pass t (rest_from from now)) ≡ len + length (pass t old)

pub moving_more : (t : Item → Bool) (old : List Spotted) (from from' : Bound Spot) (now now' before after after' : List Spotted) (len many many' : ℕ) (e : Spotted)
    → after' ≡ after ++ e ∷ [] → many' ≡ many + 1 → HasLeft t from from' now now' e
    → IsMoving t old from now before after len many → IsMoving t old from' now' before after' len many'
moving_more t old from from' now now' before after after' len many many' e puts more has was =
    let long = ap length has.first in
    let count = was.count in
    record {
      items = ap (λ (l : List Spotted). l ++ pass t (rest_from from' now')) puts
          ∙ (append_assoc after (e ∷ []) (pass t (rest_from from' now')) ∙ (sym (ap (λ (l : List Spotted). after ++ l) has.first) ∙ was.items));
      count = omega (arith, long, count, more);
    }

pub moving_none : (t : Item → Bool) (old : List Spotted) (from : Bound Spot) (now before after : List Spotted) (len many : ℕ) → length (pass t (rest_from from now)) ≡ 0
    → IsMoving t old from now before after len many → after ≡ before ++ pass t old
moving_none t old from now before after len many none was =
    sym (append-nil after) ∙ (sym (ap (λ (l : List Spotted). after ++ l) (empty_of (pass t (rest_from from now)) none)) ∙ was.items)

-- at first all are from there on
pub rest_all : (xs : List Spotted) → rest_from Unbounded xs ≡ xs
rest_all [] = refl
rest_all (x ∷ xs) = ap (λ (l : List Spotted). x ∷ l) (rest_all xs)

-- what a sum over both has is as before
pub sum_more : (f : HeldItem → ℕ) (e : Spotted) (now now' moved moved' : List Spotted) (total : ℕ) → Leaves e now now' → moved' ≡ moved ++ e ∷ []
    → sum_by f (held_in moved) + sum_by f (held_in now) ≡ total → sum_by f (held_in moved') + sum_by f (held_in now') ≡ total
sum_more f e now now' moved moved' total left puts before =
    let first = sum_left f e now now' left in
    let more = ap (λ (l : List Spotted). sum_by f (held_in l)) puts ∙ (sum_split f moved e [] ∙ ap (λ (l : List Spotted). f e.1 + sum_by f (held_in l)) (append-nil moved)) in
    omega (arith, before, first, more)

-- the item at the spot is the one that was found
pub by_item : (t : Item → Bool) (from : Bound Spot) (k : Spot) (v : HeldItem) (xs xs' : List Spotted) → lookup (is_at (spot_cmp k)) xs ≡ Some v → Leaves (k, v) xs xs'
    → IsFound t from xs k → length (pass t xs) ≡ length (pass t (rest_from from xs)) → HasLeft t from (Excluded k) xs xs' (k, v)
by_item t from k v xs xs' here left found behind =
    let same : found.item ≡ v = ap (λ (o : Option HeldItem). unwrap_or o v) (sym found.is ∙ here) in
    has_left t from (k, v) xs xs' left (ap (λ (h : HeldItem). t h.item) (sym same) ∙ found.passes)
    (found.first ∙ ap (λ (h : HeldItem). (k, h) ∷ pass t (rest_from (Excluded k) xs)) same) behind

-- at first nothing has left
pub left_first : (t : Item → Bool) (right : Slot → Bool) (next : ℕ) (xs : List Spotted) → AreAt next xs → AreRight right (held_in xs) → IsLeft t right next xs Unbounded xs
left_first t right next xs ats rights = record {
  ats = ats;
  rights = rights;
  kept = refl;
  behind = sym (ap (λ (l : List Spotted). length (pass t l)) (rest_all xs));
}

pub moving_first : (t : Item → Bool) (xs before : List Spotted) (len : ℕ) → IsMoving t xs Unbounded xs before before len len
moving_first t xs before len = record {
  items = ap (λ (l : List Spotted). before ++ pass t l) (rest_all xs);
  count = ap (λ (l : List Spotted). len + length (pass t l)) (rest_all xs);
}

-- there is no room, so nothing is left to move
pub few_left : (many rest len all cap cap' : ℕ) → many + rest ≡ len + all → cap' ≤ many → cap ≤ cap' → len + all ≤ cap → rest ≡ 0
few_left many rest len all cap cap' count full grown room = omega (arith, count, full, grown, room)

-- the index counts the others
pub counts_left : {S : Type 0} (old new : IndexMap Key ℕ S) (e : Spotted) (xs xs' : List Spotted) → Leaves e xs xs' → CountsKeys old (held_in xs)
    → ((q : Key) → count_at new q ≡ count_at old q - cond {A = ℕ} (key_eq q (item_key e.1.item)) 1 0) → CountsKeys new (held_in xs')
counts_left old new e xs xs' left counts out = λ q.
    let was = counts q ∙ sum_left (λ (k : HeldItem). cond {A = ℕ} (key_eq q (item_key k.item)) 1 0) e xs xs' left in
    let gone = out q in
    let one : ℕ = cond {A = ℕ} (key_eq q (item_key e.1.item)) 1 0 in
    let before : count_at old q ≡ one + count_by (λ k. key_eq q (item_key k.item)) (held_in xs') = was in
    omega (arith, before, gone)
