-- Lists of slots with their keys: what is found in one, and what is left where one place is taken out.
use Rattle.std.specs.Prelude.{◌≡◌, ℕ, ◌+◌, ◌<◌, ◌≤◌, Bool, true, false, not, cond, List, [], ◌∷◌, ◌++◌, Option, Some, None, length, drop, position, nat_lt, refl}
use Rattle.std.proofs.Common.{sym, ◌∙◌, ap, subst, inl, inr, arith, zero, suc, get_or}
use Rattle.std.specs.List.{remove, position_or_len}
use Rattle.std.specs.Ordering.{eq_by_cmp}
use Rattle.std.specs.FinMap.{find, from_entries, get, insert, same_map, get-from_entries, get-remove, from_entries_push}
use Rattle.std.specs.FinMap.{remove as drop_slot}
use Rattle.std.specs.FinMap.Entries.{find-append}
use Rattle.std.specs.Cmp.{eq_by_cmp_equiv}
use Rattle.std.proofs.lemmas.List.{drop_more, drop_all}
use Rattle.std.proofs.lemmas.Bool.{cases_Bool, ltb-true, ltb-false, both_ways}
use Rattle.std.proofs.lemmas.List.Sums.{prefix_len_passes, prefix_len_stops}
use Rattle.ritas_base.specs.declared.slot.Slot.{Slot}
use Rattle.ritas_base.specs.SlotOrder.{slot_cmp, slots_total, exact_slots, same_slot, slot_itself}
use Rattle.instance_tree.specs.SlotMaps.{SlotMap}
use Rattle.instance_tree.specs.Keys.{KeyedSlot, AreApart, TakesSpot, FindsOne}

abbrev pub is_at : Slot → Slot → Bool
is_at q s = eq_by_cmp slot_cmp q s

abbrev pub map_of : List KeyedSlot → SlotMap ℕ
map_of es = from_entries es

-- what is found at one slot is found at the same one
found_same : (q s : Slot) (es : List KeyedSlot) → is_at q s ≡ true → find slot_cmp q es ≡ find slot_cmp s es
found_same q s es same = ap (λ (x : Slot). find slot_cmp x es) (same_slot q s same)

-- the slot that stands first is found
first_found : (e : KeyedSlot) (es : List KeyedSlot) → find slot_cmp e.0 (e ∷ es) ≡ Some e.1
first_found e es = ap (λ (b : Bool). cond b (Some e.1) (find slot_cmp e.0 es)) (slot_itself e.0)

rest_none : (b : Bool) (k : ℕ) (o : Option ℕ) → cond b (Some k) o ≡ None → o ≡ None
rest_none true k o h = absurd cc
rest_none false k o h = h

-- a slot that stands in the list is found
stands : (es : List KeyedSlot) (i : ℕ) (d : KeyedSlot) → i < length es → find slot_cmp (get_or es i d).0 es ≡ None → ⊥
stands [] i d within none = omega arith
stands (e ∷ es) zero d within none = let found = first_found e es in cc
stands (e ∷ es) (suc i) d within none = stands es i d (omega arith) (rest_none (is_at (get_or es i d).0 e.0) e.1 _ none)

-- the first of a list stands nowhere behind
first_apart : (e : KeyedSlot) (es : List KeyedSlot) (i : ℕ) (d : KeyedSlot) → i < length es → AreApart (e ∷ es) → is_at (get_or es i d).0 e.0 ≡ false
first_apart e es i d within apart =
    elim (cases_Bool (is_at (get_or es i d).0 e.0)) [
      | inl same ↦ absurd (stands es i d within (found_same (get_or es i d).0 e.0 es same ∙ apart.0))
      | inr other ↦ other
    ]

-- what stands at a place is found there
found_at : (es : List KeyedSlot) (i : ℕ) (d : KeyedSlot) → i < length es → AreApart es → find slot_cmp (get_or es i d).0 es ≡ Some (get_or es i d).1
found_at [] i d within apart = absurd (omega arith)
found_at (e ∷ es) zero d within apart = first_found e es
found_at (e ∷ es) (suc i) d within apart =
    ap (λ (b : Bool). cond b (Some e.1) (find slot_cmp (get_or es i d).0 es)) (first_apart e es i d (omega arith) apart)
    ∙ found_at es i d (omega arith) apart.1

without_first : (b : Bool) (k : ℕ) (o : Option ℕ) → (b ≡ true → o ≡ None) → o ≡ cond b None (cond b (Some k) o)
without_first true k o h = h refl
without_first false k o h = refl

without_later : (a b : Bool) (k : ℕ) (o : Option ℕ) → (a ≡ true → b ≡ true → ⊥) → cond a (Some k) (cond b None o) ≡ cond b None (cond a (Some k) o)
without_later true true k o h = absurd (h refl refl)
without_later true false k o h = refl
without_later false b k o h = refl

-- what is found where one place is taken out
found_without : (es : List KeyedSlot) (i : ℕ) (d : KeyedSlot) → i < length es → AreApart es → (q : Slot)
    → find slot_cmp q (remove es i) ≡ cond (is_at q (get_or es i d).0) None (find slot_cmp q es)
found_without [] i d within apart q = absurd (omega arith)
found_without (e ∷ es) zero d within apart q =
    without_first (is_at q e.0) e.1 (find slot_cmp q es) (λ same. found_same q e.0 es same ∙ apart.0)
found_without (e ∷ es) (suc i) d within apart q =
    let s = (get_or es i d).0 in
    ap (λ (o : Option ℕ). cond (is_at q e.0) (Some e.1) o) (found_without es i d (omega arith) apart.1 q)
    ∙ without_later (is_at q e.0) (is_at q s) e.1 (find slot_cmp q es)
    (λ first later. both_ways (is_at s e.0) (first_apart e es i d (omega arith) apart)
    (subst (λ (x : Slot). is_at x e.0 ≡ true) (same_slot q s later) first))

none_either : (b : Bool) (o : Option ℕ) → o ≡ None → cond b None o ≡ None
none_either true o h = refl
none_either false o h = h

pub apart_without : (es : List KeyedSlot) (i : ℕ) (d : KeyedSlot) → i < length es → AreApart es → AreApart (remove es i)
apart_without [] i d within apart = absurd (omega arith)
apart_without (e ∷ es) zero d within apart = apart.1
apart_without (e ∷ es) (suc i) d within apart = (
  found_without es i d (omega arith) apart.1 e.0 ∙ none_either (is_at e.0 (get_or es i d).0) (find slot_cmp e.0 es) apart.0,
  apart_without es i d (omega arith) apart.1,
)

-- ---- one more spot behind the others

first_differs : (b : Bool) (k : ℕ) (o : Option ℕ) → cond b (Some k) o ≡ None → b ≡ false
first_differs true k o h = absurd cc
first_differs false k o h = refl

none_pushed : (b : Bool) (k : ℕ) (o : Option ℕ) → b ≡ false → o ≡ None → cond b (Some k) o ≡ None
none_pushed true k o h none = absurd cc
none_pushed false k o h none = none

turned : (q s : Slot) → is_at q s ≡ false → is_at s q ≡ false
turned q s other = (eq_by_cmp_equiv slots_total).symm s q ∙ other

turned_true : (q s : Slot) → is_at q s ≡ true → is_at s q ≡ true
turned_true q s same = (eq_by_cmp_equiv slots_total).symm s q ∙ same

apart_pushed : (es : List KeyedSlot) (s : Slot) (k : ℕ) → find slot_cmp s es ≡ None → AreApart es → AreApart (es ++ (s, k) ∷ [])
apart_pushed [] s k none apart = (refl, tt)
apart_pushed (e ∷ es) s k none apart =
    let rest = rest_none (is_at s e.0) e.1 (find slot_cmp s es) none in
    let other = turned s e.0 (first_differs (is_at s e.0) e.1 (find slot_cmp s es) none) in (
      find-append slot_cmp slots_total es s k e.0 rest ∙ none_pushed (is_at e.0 s) k (find slot_cmp e.0 es) other apart.0,
      apart_pushed es s k rest apart.1,
    )

pub push_keeps_apart : (es : List KeyedSlot) (s : Slot) (k : ℕ) → get (map_of es) s ≡ None → AreApart es → AreApart (es ++ (s, k) ∷ [])
push_keeps_apart es s k none apart = apart_pushed es s k (sym (get-from_entries slots_total es s) ∙ none) apart

pub push_inserts : (es : List KeyedSlot) (s : Slot) (k : ℕ) → get (map_of es) s ≡ None → map_of (es ++ (s, k) ∷ []) ≡ insert (map_of es) s k
push_inserts es s k none = from_entries_push slots_total exact_slots es s k (sym (get-from_entries slots_total es s) ∙ none)

pub found_as_map : (es : List KeyedSlot) (q : Slot) → find slot_cmp q es ≡ get (map_of es) q
found_as_map es q = sym (get-from_entries slots_total es q)

-- ---- what is found from a place on

pub found_from : (es : List KeyedSlot) (i : ℕ) (d : KeyedSlot) (q : Slot) → i < length es
    → find slot_cmp q (drop i es) ≡ cond (is_at q (get_or es i d).0) (Some (get_or es i d).1) (find slot_cmp q (drop (i + 1) es))
found_from es i d q within = ap (λ (l : List KeyedSlot). find slot_cmp q l) (drop_more es i d within)

pub found_here : (es : List KeyedSlot) (i : ℕ) (d : KeyedSlot) (q : Slot) → i < length es → is_at q (get_or es i d).0 ≡ true
    → find slot_cmp q (drop i es) ≡ find slot_cmp q es → Some (get_or es i d).1 ≡ find slot_cmp q es
found_here es i d q within same so_far =
    sym (found_from es i d q within ∙ ap (λ (b : Bool). cond b (Some (get_or es i d).1) (find slot_cmp q (drop (i + 1) es))) same) ∙ so_far

pub found_later : (es : List KeyedSlot) (i : ℕ) (d : KeyedSlot) (q : Slot) → i < length es → is_at q (get_or es i d).0 ≡ false
    → find slot_cmp q (drop i es) ≡ find slot_cmp q es → find slot_cmp q (drop (i + 1) es) ≡ find slot_cmp q es
found_later es i d q within other so_far =
    sym (found_from es i d q within ∙ ap (λ (b : Bool). cond b (Some (get_or es i d).1) (find slot_cmp q (drop (i + 1) es))) other) ∙ so_far

pub found_nowhere : (es : List KeyedSlot) (i : ℕ) (q : Slot) → length es ≤ i → find slot_cmp q (drop i es) ≡ find slot_cmp q es → None ≡ find slot_cmp q es
found_nowhere es i q past so_far = sym (ap (λ (l : List KeyedSlot). find slot_cmp q l) (drop_all i es past)) ∙ so_far

-- ---- the first place that passes a test

some_is : (b : Bool) (a i : ℕ) → cond b (Some a) None ≡ Some i → (b ≡ true) × (a ≡ i)
some_is true a i h = (refl, cc)
some_is false a i h = absurd cc

none_is : (b : Bool) (a : ℕ) → cond b (Some a) None ≡ None → b ≡ false
none_is true a h = absurd cc
none_is false a h = refl

not_true : (b : Bool) → not b ≡ false → b ≡ true
not_true true h = refl
not_true false h = absurd cc

not_false : (b : Bool) → not b ≡ true → b ≡ false
not_false true h = absurd cc
not_false false h = refl

passes_at : (p : KeyedSlot → Bool) (es : List KeyedSlot) (i : ℕ) (d : KeyedSlot) → position p es ≡ Some i → (i < length es) × (p (get_or es i d) ≡ true)
passes_at p es i d found =
    let is = some_is (nat_lt (position_or_len p es) (length es)) (position_or_len p es) i found in
    let within : position_or_len p es < length es = ltb-true _ _ is.0 in
    (omega (arith, within, is.1), ap (λ (j : ℕ). p (get_or es j d)) (sym is.1) ∙ not_true _ (prefix_len_stops (λ x. not (p x)) es d within))

fails_everywhere : (p : KeyedSlot → Bool) (es : List KeyedSlot) → position p es ≡ None → (i : ℕ) (d : KeyedSlot) → i < length es → p (get_or es i d) ≡ false
fails_everywhere p es none i d within =
    let all : length es ≤ position_or_len p es = ltb-false _ _ (none_is _ (position_or_len p es) none) in
    not_false _ (prefix_len_passes (λ x. not (p x)) es i d (omega (arith, all)))

none_found : (gone : Slot → Bool) (es : List KeyedSlot) → ((i : ℕ) (d : KeyedSlot) → i < length es → gone (get_or es i d).0 ≡ false) → (s : Slot) → gone s ≡ true
    → find slot_cmp s es ≡ None
none_found gone [] fails s passes = refl
none_found gone (e ∷ es) fails s passes =
    elim (cases_Bool (is_at s e.0)) [
      | inl same ↦ absurd (both_ways (gone e.0) (fails 0 e (omega arith)) (ap gone (sym (same_slot s e.0 same)) ∙ passes))
      | inr other ↦
          ap (λ (b : Bool). cond b (Some e.1) (find slot_cmp s es)) other
          ∙ none_found gone es (λ i d within. fails (suc i) d (omega arith)) s passes
    ]

-- ---- a place is taken out

pub left_without : (es : List KeyedSlot) (i : ℕ) (d : KeyedSlot) → i < length es → AreApart es → map_of (remove es i) ≡ drop_slot (map_of es) (get_or es i d).0
left_without es i d within apart = same_map slots_total exact_slots _ _ (λ q.
    get-from_entries slots_total (remove es i) q
    ∙ (found_without es i d within apart q
    ∙ (ap (λ (o : Option ℕ). cond (is_at q (get_or es i d).0) None o) (sym (get-from_entries slots_total es q))
    ∙ sym (get-remove slots_total (map_of es) (get_or es i d).0 q))))

pub takes_place : (gone : Slot → Bool) (es after : List KeyedSlot) (i : ℕ) (taken : KeyedSlot) → AreApart es → FindsOne (λ (e : KeyedSlot). gone e.0) es (Some i)
    → after ≡ remove es i → taken ≡ get_or es i taken → TakesSpot gone (map_of es) (map_of after) taken
takes_place gone es after i taken apart finds left is = record {
  passes = ap (λ (e : KeyedSlot). gone e.0) is ∙ finds.1 taken;
  had =
      get-from_entries slots_total es taken.0
      ∙ (ap (λ (e : KeyedSlot). find slot_cmp e.0 es) is ∙ (found_at es i taken finds.0 apart ∙ ap (λ (e : KeyedSlot). Some e.1) (sym is)));
  taken = ap map_of left ∙ (left_without es i taken finds.0 apart ∙ ap (λ (e : KeyedSlot). drop_slot (map_of es) e.0) (sym is));
}

pub takes_nothing : (gone : Slot → Bool) (es : List KeyedSlot) → FindsOne (λ (e : KeyedSlot). gone e.0) es None → (s : Slot) → gone s ≡ true → get (map_of es) s ≡ None
takes_nothing gone es fails s passes = get-from_entries slots_total es s ∙ none_found gone es fails s passes

pub apart_taken : (es after : List KeyedSlot) (i : ℕ) (d : KeyedSlot) → AreApart es → i < length es → after ≡ remove es i → AreApart after
apart_taken es after i d apart within left = subst AreApart (sym left) (apart_without es i d within apart)

-- ---- a slot is taken out

-- the place of a slot is the one that was found
pub slot_there : (es : List KeyedSlot) (s : Slot) (i : ℕ) (d : KeyedSlot) → position (λ (e : KeyedSlot). is_at s e.0) es ≡ Some i → (i < length es) × (s ≡ (get_or es i d).0)
slot_there es s i d found =
    let at = passes_at (λ (e : KeyedSlot). is_at s e.0) es i d found in
    (at.0, same_slot s (get_or es i d).0 at.1)

pub slot_removed : (es after : List KeyedSlot) (s : Slot) (i : ℕ) (d : KeyedSlot) → AreApart es → position (λ (e : KeyedSlot). is_at s e.0) es ≡ Some i
    → after ≡ remove es i → map_of after ≡ drop_slot (map_of es) s
slot_removed es after s i d apart found left =
    let there = slot_there es s i d found in
    ap map_of left ∙ (left_without es i d there.0 apart ∙ ap (λ (q : Slot). drop_slot (map_of es) q) (sym there.1))

none_to_remove : (b : Bool) (o : Option ℕ) → (b ≡ true → o ≡ None) → o ≡ cond b None o
none_to_remove true o h = h refl
none_to_remove false o h = refl

pub slot_absent : (es : List KeyedSlot) (s : Slot) → position (λ (e : KeyedSlot). is_at s e.0) es ≡ None → map_of es ≡ drop_slot (map_of es) s
slot_absent es s none = same_map slots_total exact_slots _ _ (λ q.
    none_to_remove (is_at q s) (get (map_of es) q)
    (λ same. get-from_entries slots_total es q ∙ none_found (λ (e : Slot). is_at s e) es (fails_everywhere (λ (e : KeyedSlot). is_at s e.0) es none) q (turned_true q s same))
    ∙ sym (get-remove slots_total (map_of es) s q))

-- what was found in a list and an answer that are these
pub finds_in : (test : KeyedSlot → Bool) (es seen : List KeyedSlot) (o answer : Option ℕ) → seen ≡ es → answer ≡ o → FindsOne test seen answer → FindsOne test es o
finds_in test es seen o answer same is finds = subst (λ (l : List KeyedSlot). FindsOne test l o) same (subst (λ (a : Option ℕ). FindsOne test seen a) is finds)
