-- The firsts of a peer: what is noted, how they are made anew, and that none passes where none of them does.
use Rattle.std.specs.Prelude.{◌≡◌, ℕ, ◌≤◌, Bool, true, false, ◌&&◌, ◌||◌, cond, List, [], ◌∷◌, ◌++◌, filter, length, Option, Some, None, unwrap_or, refl}
use Rattle.std.proofs.Common.{sym, ◌∙◌, ap, subst, arith, ◌⊎◌, inl, inr}
use Rattle.std.specs.declared.ops.Bound.{Bound}
use Rattle.std.specs.declared.ops.Bound.TheVariants.{Excluded, Unbounded}
use Rattle.std.specs.declared.cmp.Ordering.TheVariants.{Less}
use Rattle.std.specs.List.{AllByRecursion, list_any}
use Rattle.std.specs.List.Sorted.{IsStrictlySortedBy}
use Rattle.std.specs.BTreeMap.{BTreeMap, get, is_at, Updates}
use Rattle.std.specs.Map.{keys_of, values_of, lookup}
use Rattle.std.proofs.lemmas.Bool.{cases_Bool, cond-true, cond-false, and_parts, and_from, or_left, or_right, eq-eqb, false_from_ne_true, both_ways}
use Rattle.ritas_base.specs.declared.slot.Slot.{Slot}
use Rattle.ritas_base.specs.declared.item.Item.{Item}
use Rattle.ritas_base.specs.Messages.{kind_rank, kind_eq}
use Rattle.ritas_base.specs.SlotOrder.{is_slot, same_slot, slot_itself, equal_from}
use Rattle.ooc_buffers.specs.Lists.{HeldItem}
use Rattle.ooc_buffers.specs.Groups.{group_of, GoesBy, AreRight}
use Rattle.ooc_buffers.specs.Moves.{NonePasses}
use Rattle.ooc_buffers.specs.Spots.{group_cmp, spot_cmp, Spotted, held_in, in_order, pass, IsAt, AreAt, Leaves, rest_from, spot_behind}
use Rattle.ooc_buffers.specs.Firsts.{likeness, is_like, HasUpTo, AreCovered, AreOwn, AreLike, AreFirsts, IsNoted}
use Rattle.ooc_buffers.specs.declared.group.Group.{Group}
use Rattle.ooc_buffers.specs.declared.group.Spot.{Spot}
use Rattle.ooc_buffers.proofs.Walks.{exact_groups, is_on, above, ats_rest, beside}
use Rattle.ooc_buffers.proofs.Leaving.{none_pass}
use Rattle.ooc_buffers.proofs.InOrder.{order_pass, order_fail}

-- ---- a first is noted

some_is : (x y : Item) → Some x ≡ Some y → x ≡ y
some_is x y is = ap (λ (o : Option Item). unwrap_or o x) is

at_group : (g q : Group) → is_at (group_cmp g) q ≡ true → q ≡ g
at_group g q at = sym (exact_groups g q (equal_from (group_cmp g q) at))

pub noted : (old new : BTreeMap Group Item) (group : Group) (like : Item) → Updates group_cmp old new group (Some like)
    → ((first : Item) → get group_cmp old group ≡ Some first → like.slot.bround ≤ first.slot.bround) → IsNoted old new group like
noted old new group like updates lower = record {
  from = λ g first is.
      elim (cases_Bool (is_at (group_cmp group) g)) [
        | inl at ↦ inr (at_group group g at, some_is first like (sym is ∙ (updates.0 g ∙ cond-true (is_at (group_cmp group) g) (Some like) (get group_cmp old g) at)))
        | inr other ↦ inl (sym (updates.2 g other) ∙ is)
      ];
  stays = λ g bround has.
      elim (cases_Bool (is_at (group_cmp group) g)) [
        | inl at ↦
            let there : get group_cmp old group ≡ Some has.first = subst (λ (q : Group). get group_cmp old q ≡ Some has.first) (at_group group g at) has.is in
            let low = lower has.first there in
            let up = has.low in
            record {
              first = like;
              is = updates.0 g ∙ cond-true (is_at (group_cmp group) g) (Some like) (get group_cmp old g) at;
              low = omega (arith, low, up);
            }
        | inr other ↦ record { first = has.first; is = updates.2 g other ∙ has.is; low = has.low }
      ];
  here = record { first = like; is = updates.1; low = omega arith };
}

-- it has one of no later round
pub noted_before : (firsts : BTreeMap Group Item) (group : Group) (like : Item) → HasUpTo firsts group like.slot.bround → IsNoted firsts firsts group like
noted_before firsts group like has = record { from = λ g other there. inl there; stays = λ g bround up. up; here = has }

-- ---- what is like an item

kind_itself : (x : Item) → kind_eq x.kind x.kind ≡ true
kind_itself x = eq-eqb (kind_rank x.kind) (kind_rank x.kind) refl

like_itself : (x : Item) → (kind_eq (likeness x).kind x.kind && is_slot (likeness x).slot x.slot) ≡ true
like_itself x = and_from _ _ (kind_itself x) (slot_itself x.slot)

swap_or : (a b r : Bool) → (a || (b || r)) ≡ (b || (a || r))
swap_or true true r = refl
swap_or true false r = refl
swap_or false true r = refl
swap_or false false r = refl

any_split : (p : HeldItem → Bool) (front : List Spotted) (e : Spotted) (back : List Spotted)
    → list_any p (held_in (front ++ e ∷ back)) ≡ (p e.1 || list_any p (held_in (front ++ back)))
any_split p [] e back = refl
any_split p (x ∷ front) e back = ap (λ (b : Bool). p x.1 || b) (any_split p front e back) ∙ swap_or (p x.1) (p e.1) (list_any p (held_in (front ++ back)))

any_more : (p : HeldItem → Bool) (e : Spotted) (new old : List Spotted) → Leaves e new old → list_any p (held_in new) ≡ (p e.1 || list_any p (held_in old))
any_more p e new old left =
    ap (λ (l : List Spotted). list_any p (held_in l)) left.was
    ∙ (any_split p left.front e left.back ∙ ap (λ (l : List Spotted). p e.1 || list_any p (held_in l)) (sym left.now))

any_if : (p : HeldItem → Bool) (x : Spotted) (xs : List Spotted) (r : Bool) (b : Bool) → (list_any p (held_in xs) ≡ true → r ≡ true)
    → list_any p (held_in (cond b (x ∷ xs) xs)) ≡ true → (p x.1 || r) ≡ true
any_if p x xs r true rest is =
    elim (cases_Bool (p x.1)) [
      | inl does ↦ or_left (p x.1) r does
      | inr not ↦ or_right (p x.1) r (rest (sym (ap (λ (b : Bool). b || list_any p (held_in xs)) not) ∙ is))
    ]
any_if p x xs r false rest is = or_right (p x.1) r (rest is)

-- what is among some of these is among these
any_some : (p : HeldItem → Bool) (q : Spotted → Bool) (xs : List Spotted) → list_any p (held_in (filter q xs)) ≡ true → list_any p (held_in xs) ≡ true
any_some p q [] is = is
any_some p q (x ∷ xs) is = any_if p x (filter q xs) (list_any p (held_in xs)) (q x) (any_some p q xs) is

-- a slot of theirs is right
right_like : (right : Slot → Bool) (xs : List Spotted) (like : Item) → AreRight right (held_in xs) → is_like xs like ≡ true → right like.slot ≡ true
right_like right [] like rights is = absurd (cc)
right_like right (x ∷ xs) like rights is =
    elim (cases_Bool (kind_eq like.kind x.1.item.kind && is_slot like.slot x.1.item.slot)) [
      | inl same ↦
          let slots = same_slot like.slot x.1.item.slot (and_parts (kind_eq like.kind x.1.item.kind) _ same).1 in
          ap right slots ∙ rights.0
      | inr other ↦ right_like right xs like rights.1 (sym (ap (λ (b : Bool). b || is_like xs like) other) ∙ is)
    ]

-- ---- one item more

all_split : (P : Spotted → Type 0) (front : List Spotted) (e : Spotted) (back : List Spotted) → P e → AllByRecursion P (front ++ back) → AllByRecursion P (front ++ e ∷ back)
all_split P [] e back one all = (one, all)
all_split P (x ∷ front) e back one all = (all.0, all_split P front e back one all.1)

covered_all : (old new : BTreeMap Group Item) (group : Group) (like : Item) (xs : List Spotted) → IsNoted old new group like → AreCovered old xs → AreCovered new xs
covered_all old new group like [] is all = tt
covered_all old new group like (x ∷ xs) is all = (is.stays x.0.group x.0.bround all.0, covered_all old new group like xs is all.1)

own_more : (old new : BTreeMap Group Item) (group : Group) (like : Item) → IsNoted old new group like → group_of like ≡ group → AreOwn old → AreOwn new
own_more old new group like is of own = λ g first there.
    elim (is.from g first there) [
      | inl before ↦ own g first before
      | inr here ↦ ap group_of here.1 ∙ (of ∙ sym here.0)
    ]

like_more : (old new : BTreeMap Group Item) (group : Group) (like : Item) (xs : List Spotted) → IsNoted old new group like → is_like xs like ≡ true → AreLike old xs → AreLike new xs
like_more old new group like xs is one all = λ g first there.
    elim (is.from g first there) [
      | inl before ↦ all g first before
      | inr here ↦ ap (is_like xs) here.1 ∙ one
    ]

pub firsts_more : (firsts firsts' : BTreeMap Group Item) (next : ℕ) (e : Spotted) (old new : List Spotted) (like : Item) → Leaves e new old → IsAt next e → like ≡ likeness e.1.item
    → IsNoted firsts firsts' e.0.group like → AreFirsts firsts old → AreFirsts firsts' new
firsts_more firsts firsts' next e old new like left at same is was =
    let p = λ (x : Item) (k : HeldItem). kind_eq x.kind k.item.kind && is_slot x.slot k.item.slot in
    let round : like.slot.bround ≡ e.0.bround = ap (λ (x : Item). x.slot.bround) same ∙ sym at.bround in
    record {
      own = own_more firsts firsts' e.0.group like is (ap group_of same ∙ sym at.group) was.own;
      like = like_more firsts firsts' e.0.group like new is
          (any_more (p like) e new old left ∙ or_left (p like e.1) (is_like old like) (ap (λ (x : Item). p x e.1) same ∙ like_itself e.1.item))
          (λ g first there. any_more (p first) e new old left ∙ or_right (p first e.1) (is_like old first) (was.like g first there));
      covers = subst (λ (l : List Spotted). AreCovered firsts' l) (sym left.was)
          (all_split (λ (y : Spotted). HasUpTo firsts' y.0.group y.0.bround) left.front e left.back
          (subst (λ (b : ℕ). HasUpTo firsts' e.0.group b) round is.here)
          (subst (λ (l : List Spotted). AreCovered firsts' l) left.now (covered_all firsts firsts' e.0.group like old is was.covers)));
    }

-- ---- made anew

-- those before a spot have their firsts
pub record IsReached (firsts : BTreeMap Group Item) (from : Bound Spot) (xs : List Spotted) : Type 0 where
  pub own : AreOwn firsts
  pub like : AreLike firsts xs
  pub covers : AllByRecursion (λ (e : Spotted). (is_on from e.0 ≡ true) ⊎ HasUpTo firsts e.0.group e.0.bround) xs

none_yet : (firsts : BTreeMap Group Item) (xs : List Spotted) → AllByRecursion (λ (e : Spotted). (is_on Unbounded e.0 ≡ true) ⊎ HasUpTo firsts e.0.group e.0.bround) xs
none_yet firsts [] = tt
none_yet firsts (x ∷ xs) = (inl refl, none_yet firsts xs)

pub reached_none : (firsts : BTreeMap Group Item) (xs : List Spotted) → firsts.entries ≡ [] → IsReached firsts Unbounded xs
reached_none firsts xs none =
    let empty : (g : Group) → get group_cmp firsts g ≡ None = λ g. ap (λ (l : List (Group × Item)). lookup (is_at (group_cmp g)) l) none in
    record {
      own = λ g first is. absurd (cc (empty g, is));
      like = λ g first is. absurd (cc (empty g, is));
      covers = none_yet firsts xs;
    }

out_or : (P : Spotted → Type 0) (q : Spotted → Bool) (x : Spotted) (xs : List Spotted) (b : Bool) → q x ≡ b → AllByRecursion P (cond b (x ∷ xs) xs)
    → ((q x ≡ false) ⊎ P x) × AllByRecursion P xs
out_or P q x xs true is all = (inr all.0, all.1)
out_or P q x xs false is all = (inl is, all)

-- what is said of some
all_or : (P : Spotted → Type 0) (q : Spotted → Bool) (xs : List Spotted) → AllByRecursion P (filter q xs) → AllByRecursion (λ (y : Spotted). (q y ≡ false) ⊎ P y) xs
all_or P q [] all = tt
all_or P q (x ∷ xs) all = let both = out_or P q x (filter q xs) (q x) refl all in (both.0, all_or P q xs both.1)

reached_all : (old new : BTreeMap Group Item) (group : Group) (like : Item) (from from' : Bound Spot) (xs : List Spotted) → IsNoted old new group like
    → AllByRecursion (λ (e : Spotted). (is_on from e.0 ≡ true) ⊎ HasUpTo old e.0.group e.0.bround) xs
    → AllByRecursion (λ (y : Spotted). (is_on from y.0 ≡ false) ⊎ ((is_on from' y.0 ≡ true) ⊎ HasUpTo new y.0.group y.0.bround)) xs
    → AllByRecursion (λ (e : Spotted). (is_on from' e.0 ≡ true) ⊎ HasUpTo new e.0.group e.0.bround) xs
reached_all old new group like from from' [] is before here = tt
reached_all old new group like from from' (x ∷ xs) is before here =
    let rest = reached_all old new group like from from' xs is before.1 here.1 in
    let one : (is_on from' x.0 ≡ true) ⊎ HasUpTo new x.0.group x.0.bround =
    elim (before.0) [
      | inl on ↦ elim (here.0) [
        | inl off ↦ absurd (both_ways (is_on from x.0) off on)
        | inr so ↦ so
      ]
      | inr has ↦ inr (is.stays x.0.group x.0.bround has)
    ] in
    (one, rest)

behind_all : (firsts : BTreeMap Group Item) (e : Spotted) (ys : List Spotted) → HasUpTo firsts e.0.group e.0.bround → AllByRecursion (λ (y : Spotted). spot_cmp e.0 y.0 ≡ Less) ys
    → AllByRecursion (λ (y : Spotted). (is_on (Excluded (spot_behind e.0)) y.0 ≡ true) ⊎ HasUpTo firsts y.0.group y.0.bround) ys
behind_all firsts e [] has less = tt
behind_all firsts e (y ∷ ys) has less =
    let one : (is_on (Excluded (spot_behind e.0)) y.0 ≡ true) ⊎ HasUpTo firsts y.0.group y.0.bround =
    elim (beside e.0 y.0 less.0) [
      | inl behind ↦ inl behind
      | inr near ↦
          let low = has.low in
          let later = near.1 in
          inr (record { first = has.first; is = ap (get group_cmp firsts) (sym near.0) ∙ has.is; low = omega (arith, low, later) })
    ] in
    (one, behind_all firsts e ys has less.1)

pub reached_more : (firsts firsts' : BTreeMap Group Item) (next : ℕ) (from : Bound Spot) (xs : List Spotted) (e : Spotted) (tail : List Spotted) (like : Item)
    → IsStrictlySortedBy spot_cmp (keys_of xs) → rest_from from xs ≡ e ∷ tail → AreAt next xs → like ≡ likeness e.1.item → IsNoted firsts firsts' e.0.group like
    → IsReached firsts from xs → IsReached firsts' (Excluded (spot_behind e.0)) xs
reached_more firsts firsts' next from xs e tail like sorted is ats same noted was =
    let p = λ (k : HeldItem). kind_eq like.kind k.item.kind && is_slot like.slot k.item.slot in
    let at = (subst (λ (l : List Spotted). AreAt next l) is (ats_rest next (λ y. is_on from y.0) xs ats)).0 in
    let round : like.slot.bround ≡ e.0.bround = ap (λ (x : Item). x.slot.bround) same ∙ sym at.bround in
    let here : HasUpTo firsts' e.0.group e.0.bround = subst (λ (b : ℕ). HasUpTo firsts' e.0.group b) round noted.here in
    let mine : p e.1 ≡ true = ap (λ (x : Item). kind_eq x.kind e.1.item.kind && is_slot x.slot e.1.item.slot) same ∙ like_itself e.1.item in
    let there : list_any p (held_in (rest_from from xs)) ≡ true =
    ap (λ (l : List Spotted). list_any p (held_in l)) is ∙ or_left (p e.1) (list_any p (held_in tail)) mine in
    let P = λ (y : Spotted). (is_on (Excluded (spot_behind e.0)) y.0 ≡ true) ⊎ HasUpTo firsts' y.0.group y.0.bround in
    let rest : AllByRecursion P (rest_from from xs) =
    subst (λ (l : List Spotted). AllByRecursion P l) (sym is) (inr here, behind_all firsts' e tail here (above from xs e tail sorted is)) in
    record {
      own = own_more firsts firsts' e.0.group like noted (ap group_of same ∙ sym at.group) was.own;
      like = like_more firsts firsts' e.0.group like xs noted (any_some p (λ y. is_on from y.0) xs there) was.like;
      covers = reached_all firsts firsts' e.0.group like from (Excluded (spot_behind e.0)) xs noted was.covers (all_or P (λ y. is_on from y.0) xs rest);
    }

all_has : (firsts : BTreeMap Group Item) (from : Bound Spot) (xs : List Spotted)
    → AllByRecursion (λ (e : Spotted). (is_on from e.0 ≡ true) ⊎ HasUpTo firsts e.0.group e.0.bround) xs
    → AllByRecursion (λ (y : Spotted). (is_on from y.0 ≡ false) ⊎ ⊥) xs → AreCovered firsts xs
all_has firsts from [] before off = tt
all_has firsts from (x ∷ xs) before off =
    let rest = all_has firsts from xs before.1 off.1 in
    let one : HasUpTo firsts x.0.group x.0.bround =
    elim (before.0) [
      | inl on ↦ elim (off.0) [
        | inl not ↦ absurd (both_ways (is_on from x.0) not on)
        | inr never ↦ absurd never
      ]
      | inr has ↦ has
    ] in
    (one, rest)

pub reached_last : (firsts : BTreeMap Group Item) (from : Bound Spot) (xs : List Spotted) → rest_from from xs ≡ [] → IsReached firsts from xs → AreFirsts firsts xs
reached_last firsts from xs none was = record {
  own = was.own;
  like = was.like;
  covers = all_has firsts from xs was.covers
      (all_or (λ (y : Spotted). ⊥) (λ y. is_on from y.0) xs (subst (λ (l : List Spotted). AllByRecursion (λ (y : Spotted). ⊥) l) (sym none) tt));
}

-- ---- none of them passes

among : (t : Item → Bool) (p : Group → Bool) (es : List (Group × Item)) (v : Item) → lookup p es ≡ Some v → t v ≡ true → list_any t (values_of es) ≡ true
among t p [] v is does = absurd (cc)
among t p (x ∷ es) v is does =
    elim (cases_Bool (p x.0)) [
      | inl at ↦
          let same : x.1 ≡ v = some_is x.1 v (sym (cond-true (p x.0) (Some x.1) (lookup p es) at) ∙ is) in
          or_left (t x.1) (list_any t (values_of es)) (ap t same ∙ does)
      | inr other ↦
          or_right (t x.1) (list_any t (values_of es)) (among t p es v (sym (cond-false (p x.0) (Some x.1) (lookup p es) other) ∙ is) does)
    ]

first_fails : (t : Item → Bool) (right : Slot → Bool) (next : ℕ) (firsts : BTreeMap Group Item) (all : List Spotted) (e : Spotted)
    → GoesBy right t → IsAt next e → right e.1.item.slot ≡ true → AreRight right (held_in all) → AreFirsts firsts all → HasUpTo firsts e.0.group e.0.bround
    → list_any t (values_of firsts.entries) ≡ false → t e.1.item ≡ false
first_fails t right next firsts all e goes at fine rights known has none =
    let low = has.low in
    let round = at.bround in
    let early : has.first.slot.bround ≤ e.1.item.slot.bround = omega (arith, low, round) in
    let same : group_of has.first ≡ group_of e.1.item = known.own e.0.group has.first has.is ∙ at.group in
    let good = right_like right all has.first rights (known.like e.0.group has.first has.is) in
    false_from_ne_true (t e.1.item) (λ passes.
    both_ways _ none (among t (is_at (group_cmp e.0.group)) firsts.entries has.first has.is (goes.opens has.first e.1.item good fine same early passes)))

none_of : (t : Item → Bool) (right : Slot → Bool) (next : ℕ) (firsts : BTreeMap Group Item) (all xs : List Spotted)
    → GoesBy right t → AreAt next xs → AreRight right (held_in xs) → AreRight right (held_in all) → AreFirsts firsts all → AreCovered firsts xs
    → list_any t (values_of firsts.entries) ≡ false → pass t xs ≡ []
none_of t right next firsts all [] goes ats fine rights known covers none = refl
none_of t right next firsts all (x ∷ xs) goes ats fine rights known covers none =
    cond-false (t x.1.item) (x ∷ pass t xs) (pass t xs) (first_fails t right next firsts all x goes ats.0 fine.0 rights known covers.0 none)
    ∙ none_of t right next firsts all xs goes ats.1 fine.1 rights known covers.1 none

pub none_passes : (t : Item → Bool) (right : Slot → Bool) (next : ℕ) (firsts : BTreeMap Group Item) (xs : List Spotted)
    → GoesBy right t → AreAt next xs → AreRight right (held_in xs) → AreFirsts firsts xs → list_any t (values_of firsts.entries) ≡ false → NonePasses t (in_order xs)
none_passes t right next firsts xs goes ats rights known none =
    let empty = none_of t right next firsts xs xs goes ats rights rights known known.covers none in
    record {
      none = order_pass t xs ∙ ap (λ (l : List Spotted). in_order l) empty;
      same = order_fail t xs ∙ ap (λ (l : List Spotted). in_order l) (none_pass t xs (ap length empty));
    }
