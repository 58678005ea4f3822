-- Maps in a row as one map: what it has at a slot, and what it is where one of them changes.
use Rattle.std.specs.Prelude.{◌≡◌, ◌≢◌, ℕ, ◌<◌, ◌≤◌, Bool, true, false, cond, List, [], ◌∷◌, ◌++◌, Option, Some, None, Result, Ok, Err, OnOk, OnErr, is_err, length, nat_eq, ◌⊎◌, refl}
use Rattle.std.proofs.Common.{sym, ◌∙◌, ap, inl, inr, arith, zero, suc, get_or, set}
use Rattle.std.specs.List.{flat_map}
use Rattle.std.specs.Ordering.{eq_by_cmp}
use Rattle.std.specs.FinMap.{empty, find, entries, get, insert, remove, same_map, get-entries, get-empty, get-from_entries, get-insert, get-remove}
use Rattle.std.proofs.lemmas.Bool.{cases_Bool, eqb-true, eqb-false}
use Rattle.std.proofs.lemmas.List.{get_or-set_same, get_or-set_other, get_or_default}
use Rattle.std.proofs.Math.ListN.{get_or-eq_default}
use Rattle.ritas_base.specs.declared.slot.Slot.{Slot}
use Rattle.ritas_base.specs.SlotOrder.{slot_cmp, slots_total, exact_slots, same_slot}
use Rattle.instance_tree.specs.SlotMaps.{SlotMap}
use Rattle.instance_tree.specs.Keys.{KeyedSlot, TakesSpot, TakesSpotOut}
use Rattle.instance_tree.specs.Places.{map_at, joined_map, ArePlaced, AreSame, AreOthersSame, ChangesAt}

abbrev is_at : Slot → Slot → Bool
is_at q s = eq_by_cmp slot_cmp q s

-- ---- what one map has

find_front : (q : Slot) (xs ys : List KeyedSlot) (k : ℕ) → find slot_cmp q xs ≡ Some k → find slot_cmp q (xs ++ ys) ≡ Some k
find_front q [] ys k found = absurd cc
find_front q (x ∷ xs) ys k found =
    elim (cases_Bool (is_at q x.0)) [
      | inl same ↦
          ap (λ (b : Bool). cond b (Some x.1) (find slot_cmp q (xs ++ ys))) same
          ∙ (sym (ap (λ (b : Bool). cond b (Some x.1) (find slot_cmp q xs)) same) ∙ found)
      | inr other ↦
          ap (λ (b : Bool). cond b (Some x.1) (find slot_cmp q (xs ++ ys))) other
          ∙ find_front q xs ys k (sym (ap (λ (b : Bool). cond b (Some x.1) (find slot_cmp q xs)) other) ∙ found)
    ]

find_behind : (q : Slot) (xs ys : List KeyedSlot) → find slot_cmp q xs ≡ None → find slot_cmp q (xs ++ ys) ≡ find slot_cmp q ys
find_behind q [] ys none = refl
find_behind q (x ∷ xs) ys none =
    elim (cases_Bool (is_at q x.0)) [
      | inl same ↦ let found = sym (ap (λ (b : Bool). cond b (Some x.1) (find slot_cmp q xs)) same) ∙ none in absurd cc
      | inr other ↦
          ap (λ (b : Bool). cond b (Some x.1) (find slot_cmp q (xs ++ ys))) other
          ∙ find_behind q xs ys (sym (ap (λ (b : Bool). cond b (Some x.1) (find slot_cmp q xs)) other) ∙ none)
    ]

in_none : (ms : List (SlotMap ℕ)) (q : Slot) → ((i : ℕ) → get (map_at ms i) q ≡ None) → find slot_cmp q (flat_map entries ms) ≡ None
in_none [] q none = refl
in_none (m ∷ ms) q none =
    find_behind q (entries m) (flat_map entries ms) (sym (get-entries m q) ∙ none 0) ∙ in_none ms q (λ i. none (suc i))

in_first : (m : SlotMap ℕ) (ms : List (SlotMap ℕ)) (q : Slot) (o : Option ℕ) → get m q ≡ o → ((i : ℕ) → get (map_at ms i) q ≡ None)
    → find slot_cmp q (entries m ++ flat_map entries ms) ≡ o
in_first m ms q (Some k) is none = find_front q (entries m) (flat_map entries ms) k (sym (get-entries m q) ∙ is)
in_first m ms q None is none = find_behind q (entries m) (flat_map entries ms) (sym (get-entries m q) ∙ is) ∙ in_none ms q none

in_one : (ms : List (SlotMap ℕ)) (i : ℕ) (q : Slot) → ((j : ℕ) → j ≢ i → get (map_at ms j) q ≡ None)
    → find slot_cmp q (flat_map entries ms) ≡ get (map_at ms i) q
in_one [] i q others = sym (get-empty slot_cmp q)
in_one (m ∷ ms) zero q others = in_first m ms q (get m q) refl (λ i. others (suc i) (λ same. absurd (omega (arith, same))))
in_one (m ∷ ms) (suc i) q others =
    find_behind q (entries m) (flat_map entries ms) (sym (get-entries m q) ∙ others 0 (λ same. absurd (omega (arith, same))))
    ∙ in_one ms i q (λ j other. others (suc j) (λ same. other (omega (arith, same))))

module _ (place_of : Slot → ℕ) where
  elsewhere : (ms : List (SlotMap ℕ)) (q : Slot) (j : ℕ) (o : Option ℕ) → ArePlaced place_of ms → j ≢ place_of q → get (map_at ms j) q ≡ o → o ≡ None
  elsewhere ms q j (Some k) placed other is = absurd (other (sym (placed j q k is)))
  elsewhere ms q j None placed other is = refl

  pub none_elsewhere : (ms : List (SlotMap ℕ)) (q : Slot) (j : ℕ) → ArePlaced place_of ms → j ≢ place_of q → get (map_at ms j) q ≡ None
  none_elsewhere ms q j placed other = elsewhere ms q j (get (map_at ms j) q) placed other refl

  pub get_joined : (ms : List (SlotMap ℕ)) → ArePlaced place_of ms → (q : Slot) → get (joined_map ms) q ≡ get (map_at ms (place_of q)) q
  get_joined ms placed q =
      get-from_entries slots_total (flat_map entries ms) q ∙ in_one ms (place_of q) q (λ j other. none_elsewhere ms q j placed other)

  pub get_at_place : (ms : List (SlotMap ℕ)) (i : ℕ) → ArePlaced place_of ms → (q : Slot) → place_of q ≡ i → get (joined_map ms) q ≡ get (map_at ms i) q
  get_at_place ms i placed q at = get_joined ms placed q ∙ ap (λ (j : ℕ). get (map_at ms j) q) at

  pub had_joined : (ms : List (SlotMap ℕ)) (i : ℕ) (q : Slot) (k : ℕ) → ArePlaced place_of ms → get (map_at ms i) q ≡ Some k → get (joined_map ms) q ≡ Some k
  had_joined ms i q k placed had = get_at_place ms i placed q (placed i q k had) ∙ had

  -- ---- no map changed

  pub placed_same : (old new : List (SlotMap ℕ)) → ArePlaced place_of old → AreSame old new → ArePlaced place_of new
  placed_same old new placed same = λ i q k had. placed i q k (ap (λ (m : SlotMap ℕ). get m q) (sym (same i)) ∙ had)

  pub joined_same : (old new : List (SlotMap ℕ)) → ArePlaced place_of old → AreSame old new → joined_map new ≡ joined_map old
  joined_same old new placed same = same_map slots_total exact_slots _ _ (λ q.
      get_joined new (placed_same old new placed same) q
      ∙ (ap (λ (m : SlotMap ℕ). get m q) (same (place_of q)) ∙ sym (get_joined old placed q)))

  -- ---- one map changed at one slot

  taken_or : (b : Bool) (v o : Option ℕ) (k : ℕ) → cond b v o ≡ Some k → b ≡ false → o ≡ Some k
  taken_or true v o k h other = absurd cc
  taken_or false v o k h other = h

  module _ (old new : List (SlotMap ℕ)) (i : ℕ) (s : Slot) (v : Option ℕ) (after : SlotMap ℕ) (placed : ArePlaced place_of old) (at : place_of s ≡ i)
      (changes : ChangesAt old new i after) (is : (q : Slot) → get after q ≡ cond (is_at q s) v (get (map_at old i) q)) where
    placed_here : (q : Slot) (k : ℕ) → get after q ≡ Some k → place_of q ≡ i
    placed_here q k had =
        elim (cases_Bool (is_at q s)) [
          | inl same ↦ ap place_of (same_slot q s same) ∙ at
          | inr other ↦ placed i q k (taken_or (is_at q s) v (get (map_at old i) q) k (sym (is q) ∙ had) other)
        ]

    placed_at : (j : ℕ) (q : Slot) (k : ℕ) → get (map_at new j) q ≡ Some k → place_of q ≡ j
    placed_at j q k had =
        elim (cases_Bool (nat_eq j i)) [
          | inl here ↦
              let same : j ≡ i = eqb-true _ _ here in
              placed_here q k (ap (λ (m : SlotMap ℕ). get m q) (sym (ap (map_at new) same ∙ changes.changed)) ∙ had) ∙ sym same
          | inr other ↦ placed j q k (ap (λ (m : SlotMap ℕ). get m q) (sym (changes.others j (eqb-false _ _ other))) ∙ had)
        ]

    whole : (q : Slot) → get (joined_map new) q ≡ cond (is_at q s) v (get (joined_map old) q)
    whole q =
        elim (cases_Bool (nat_eq (place_of q) i)) [
          | inl here ↦
              let same : place_of q ≡ i = eqb-true _ _ here in
              get_at_place new i placed_at q same
              ∙ (ap (λ (m : SlotMap ℕ). get m q) changes.changed
              ∙ (is q ∙ ap (λ (o : Option ℕ). cond (is_at q s) v o) (sym (get_at_place old i placed q same))))
          | inr other ↦
              let apart : place_of q ≢ i = eqb-false _ _ other in
              let differs : is_at q s ≡ false = elim (cases_Bool (is_at q s)) [
                | inl same ↦ absurd (apart (ap place_of (same_slot q s same) ∙ at))
                | inr differs ↦ differs
              ] in
              get_joined new placed_at q
              ∙ (ap (λ (m : SlotMap ℕ). get m q) (changes.others (place_of q) apart)
              ∙ (sym (get_joined old placed q) ∙ ap (λ (b : Bool). cond b v (get (joined_map old) q)) (sym differs)))
        ]

  pub placed_inserted : (old new : List (SlotMap ℕ)) (i : ℕ) (s : Slot) (k : ℕ) → ArePlaced place_of old → place_of s ≡ i
      → ChangesAt old new i (insert (map_at old i) s k) → ArePlaced place_of new
  placed_inserted old new i s k placed at changes = placed_at old new i s (Some k) (insert (map_at old i) s k) placed at changes (λ q. get-insert slots_total (map_at old i) s k q)

  pub joined_inserted : (old new : List (SlotMap ℕ)) (i : ℕ) (s : Slot) (k : ℕ) → ArePlaced place_of old → place_of s ≡ i
      → ChangesAt old new i (insert (map_at old i) s k) → joined_map new ≡ insert (joined_map old) s k
  joined_inserted old new i s k placed at changes = same_map slots_total exact_slots _ _ (λ q.
      whole old new i s (Some k) (insert (map_at old i) s k) placed at changes (λ r. get-insert slots_total (map_at old i) s k r) q
      ∙ sym (get-insert slots_total (joined_map old) s k q))

  pub placed_removed : (old new : List (SlotMap ℕ)) (i : ℕ) (s : Slot) → ArePlaced place_of old → place_of s ≡ i
      → ChangesAt old new i (remove (map_at old i) s) → ArePlaced place_of new
  placed_removed old new i s placed at changes = placed_at old new i s None (remove (map_at old i) s) placed at changes (λ q. get-remove slots_total (map_at old i) s q)

  pub joined_removed : (old new : List (SlotMap ℕ)) (i : ℕ) (s : Slot) → ArePlaced place_of old → place_of s ≡ i
      → ChangesAt old new i (remove (map_at old i) s) → joined_map new ≡ remove (joined_map old) s
  joined_removed old new i s placed at changes = same_map slots_total exact_slots _ _ (λ q.
      whole old new i s None (remove (map_at old i) s) placed at changes (λ r. get-remove slots_total (map_at old i) s r) q
      ∙ sym (get-remove slots_total (joined_map old) s q))

  -- ---- a slot is taken out of one map

  same_of : (old new : List (SlotMap ℕ)) (i : ℕ) → map_at new i ≡ map_at old i → AreOthersSame old new i → AreSame old new
  same_of old new i here others j =
      elim (cases_Bool (nat_eq j i)) [
        | inl is ↦ let same : j ≡ i = eqb-true _ _ is in ap (map_at new) same ∙ (here ∙ ap (map_at old) (sym same))
        | inr other ↦ others j (eqb-false _ _ other)
      ]

  pub placed_taken : (gone : Slot → Bool) (old new : List (SlotMap ℕ)) (i : ℕ) (r : Option KeyedSlot) → ArePlaced place_of old
      → TakesSpotOut gone (map_at old i) (map_at new i) r → AreOthersSame old new i → ArePlaced place_of new
  placed_taken gone old new i (Some spot) placed takes others =
      placed_removed old new i spot.0 placed (placed i spot.0 spot.1 takes.had) (record { changed = takes.taken; others = others })
  placed_taken gone old new i None placed takes others = placed_same old new placed (same_of old new i takes.0 others)

  pub joined_takes : (gone whole : Slot → Bool) (old new : List (SlotMap ℕ)) (i : ℕ) (spot : KeyedSlot) → ArePlaced place_of old
      → TakesSpot gone (map_at old i) (map_at new i) spot → AreOthersSame old new i → whole spot.0 ≡ true → TakesSpot whole (joined_map old) (joined_map new) spot
  joined_takes gone whole old new i spot placed takes others passes = record {
    passes = passes;
    had = had_joined old i spot.0 spot.1 placed takes.had;
    taken = joined_removed old new i spot.0 placed (placed i spot.0 spot.1 takes.had) (record { changed = takes.taken; others = others });
  }

  pub joined_keeps : (old new : List (SlotMap ℕ)) (i : ℕ) → ArePlaced place_of old → map_at new i ≡ map_at old i → AreOthersSame old new i → joined_map new ≡ joined_map old
  joined_keeps old new i placed here others = joined_same old new placed (same_of old new i here others)

-- ---- one map

inserted_by : (b : Bool) (key k : ℕ) (o : Option ℕ) → cond b (Some key) o ≡ Some k → (b ≡ true) ⊎ (o ≡ Some k)
inserted_by true key k o had = inl refl
inserted_by false key k o had = inr had

-- what a map has where a slot was given a key: that slot, or what was there before
pub inserted_one : (m : SlotMap ℕ) (q s : Slot) (key k : ℕ) → get (insert m s key) q ≡ Some k → (q ≡ s) ⊎ (get m q ≡ Some k)
inserted_one m q s key k had =
    elim (inserted_by (is_at q s) key k (get m q) (sym (get-insert slots_total m s key q) ∙ had)) [
      | inl same ↦ inl (same_slot q s same)
      | inr older ↦ inr older
    ]

removed_by : (b : Bool) (k : ℕ) (o : Option ℕ) → cond b None o ≡ Some k → o ≡ Some k
removed_by true k o had = absurd cc
removed_by false k o had = had

-- what a map has where a slot was taken out was there before
pub removed_one : (m : SlotMap ℕ) (q s : Slot) (k : ℕ) → get (remove m s) q ≡ Some k → get m q ≡ Some k
removed_one m q s k had = removed_by (is_at q s) k (get m q) (sym (get-remove slots_total m s q) ∙ had)

-- ---- lists of maps

pub set_changes : (ms : List (SlotMap ℕ)) (i : ℕ) (m : SlotMap ℕ) → i < length ms → ChangesAt ms (set ms i m) i m
set_changes ms i m within = record {
  changed = get_or-set_same ms i m empty within;
  others = λ j other. get_or-set_other ms i j m empty other;
}

pub pushed_same : (ms : List (SlotMap ℕ)) (m : SlotMap ℕ) → m ≡ empty → AreSame ms (ms ++ m ∷ [])
pushed_same [] m is zero = is
pushed_same [] m is (suc i) = refl
pushed_same (n ∷ ms) m is zero = refl
pushed_same (n ∷ ms) m is (suc i) = pushed_same ms m is i

-- there is nothing past the end
pub nothing_past : (ms : List (SlotMap ℕ)) (i : ℕ) (s : Slot) → length ms ≤ i → get (map_at ms i) s ≡ None
nothing_past ms i s past = ap (λ (m : SlotMap ℕ). get m s) (get_or-eq_default ms empty past) ∙ get-empty slot_cmp s

none_either : (b : Bool) (o : Option ℕ) → o ≡ None → o ≡ cond b None o
none_either true o none = none
none_either false o none = refl

pub removed_past : (ms : List (SlotMap ℕ)) (i : ℕ) (s : Slot) → length ms ≤ i → ChangesAt ms ms i (remove (map_at ms i) s)
removed_past ms i s past = record {
  changed = same_map slots_total exact_slots _ _ (λ q. none_either (is_at q s) (get (map_at ms i) q) (nothing_past ms i q past) ∙ sym (get-remove slots_total (map_at ms i) s q));
  others = λ j _. refl;
}

-- ---- what the one map has, seen from a place

module _ (place_of : Slot → ℕ) (ms : List (SlotMap ℕ)) (whole : SlotMap ℕ) (i : ℕ) (s : Slot) (placed : ArePlaced place_of ms) (is : joined_map ms ≡ whole)
    (at : place_of s ≡ i) where
  pub found_there : get (map_at ms i) s ≡ get whole s
  found_there = sym (get_at_place place_of ms i placed s at) ∙ ap (λ (m : SlotMap ℕ). get m s) is

  pub absent_there : get whole s ≡ None → get (map_at ms i) s ≡ None
  absent_there none = found_there ∙ none

-- the map that was read at a place
pub read_there : (ms : List (SlotMap ℕ)) (i : ℕ) (m : SlotMap ℕ) → i < length ms → m ≡ get_or ms i m → m ≡ map_at ms i
read_there ms i m within is = is ∙ get_or_default ms i m empty within

-- another word for what stands there now
pub changes_to : (old new : List (SlotMap ℕ)) (i : ℕ) (a b : SlotMap ℕ) → ChangesAt old new i a → a ≡ b → ChangesAt old new i b
changes_to old new i a b changes is = record { changed = changes.changed ∙ is; others = changes.others }

-- one of a list was set
pub set_others : (ms : List (SlotMap ℕ)) (i : ℕ) (m : SlotMap ℕ) → AreOthersSame ms (set ms i m) i
set_others ms i m = λ j other. get_or-set_other ms i j m empty other

pub set_same : (ms : List (SlotMap ℕ)) (i : ℕ) (m : SlotMap ℕ) → i < length ms → m ≡ map_at ms i → AreSame ms (set ms i m)
set_same ms i m within is j =
    elim (cases_Bool (nat_eq j i)) [
      | inl here ↦
          let same : j ≡ i = eqb-true _ _ here in
          ap (map_at (set ms i m)) same ∙ (get_or-set_same ms i m empty within ∙ (is ∙ ap (map_at ms) (sym same)))
      | inr other ↦ get_or-set_other ms i j m empty (eqb-false _ _ other)
    ]

-- ---- one map in front of others

pub first_changes : (m after : SlotMap ℕ) (ms : List (SlotMap ℕ)) → ChangesAt (m ∷ ms) (after ∷ ms) 0 after
first_changes m after ms = record { changed = refl; others = later }
  where
    later : (i : ℕ) → i ≢ 0 → map_at (after ∷ ms) i ≡ map_at (m ∷ ms) i
    later zero other = absurd (other refl)
    later (suc i) other = refl

pub first_same : (m after : SlotMap ℕ) (ms : List (SlotMap ℕ)) → after ≡ m → AreSame (m ∷ ms) (after ∷ ms)
first_same m after ms is zero = is
first_same m after ms is (suc i) = refl

pub rest_same : (m : SlotMap ℕ) (old new : List (SlotMap ℕ)) → AreSame old new → AreSame (m ∷ old) (m ∷ new)
rest_same m old new same zero = refl
rest_same m old new same (suc i) = same i

pub rest_changes : (m : SlotMap ℕ) (old new : List (SlotMap ℕ)) (i : ℕ) (after : SlotMap ℕ) → ChangesAt old new i after → ChangesAt (m ∷ old) (m ∷ new) (suc i) after
rest_changes m old new i after changes = record { changed = changes.changed; others = others }
  where
    others : (j : ℕ) → j ≢ suc i → map_at (m ∷ new) j ≡ map_at (m ∷ old) j
    others zero other = refl
    others (suc j) other = changes.others j (λ same. other (ap suc same))

-- ---- an answer that may be an error

pub either : {A E : Type 0} (r : Result A E) (P Q R : Type 0) → (P → R) → (Q → R) → OnOk r P → OnErr r Q → R
either (Ok a) P Q R f g ok err = f ok
either (Err e) P Q R f g ok err = g err

pub where_ok : {A E : Type 0} (r : Result A E) (P R : Type 0) → (P → R) → OnOk r P → OnOk r R
where_ok (Ok a) P R f ok = f ok
where_ok (Err e) P R f ok = tt

pub where_err : {A E : Type 0} (r : Result A E) (Q R : Type 0) → (Q → R) → OnErr r Q → OnErr r R
where_err (Ok a) Q R f err = tt
where_err (Err e) Q R f err = f err

pub any_err : {A E : Type 0} (r : Result A E) (R : Type 0) → R → OnErr r R
any_err (Ok a) R h = tt
any_err (Err e) R h = h

some_of_none : (o : Option ℕ) (key : ℕ) → o ≡ Some key → o ≡ None → ⊥
some_of_none o key some none = let both = sym some ∙ none in absurd cc

pub placed_empty : (place_of : Slot → ℕ) (ms : List (SlotMap ℕ)) → ms ≡ [] → ArePlaced place_of ms
placed_empty place_of ms none = λ i s key had.
    absurd (some_of_none (get (map_at ms i) s) key had (ap (λ (l : List (SlotMap ℕ)). get (map_at l i) s) none ∙ get-empty slot_cmp s))

-- ---- nothing at all

pub all_empty : (ms : List (SlotMap ℕ)) → ((i : ℕ) (q : Slot) → get (map_at ms i) q ≡ None) → joined_map ms ≡ empty
all_empty ms none = same_map slots_total exact_slots _ _ (λ q.
    get-from_entries slots_total (flat_map entries ms) q ∙ (in_none ms q (λ i. none i q) ∙ sym (get-empty slot_cmp q)))

pub nothing_at : (m : SlotMap ℕ) (ms : List (SlotMap ℕ)) → m ≡ empty → ms ≡ [] → (i : ℕ) (q : Slot) → get (map_at (m ∷ ms) i) q ≡ None
nothing_at m ms is none zero q = ap (λ (n : SlotMap ℕ). get n q) is ∙ get-empty slot_cmp q
nothing_at m ms is none (suc i) q = ap (λ (l : List (SlotMap ℕ)). get (map_at l i) q) none ∙ get-empty slot_cmp q

pub placed_nothing : (place_of : Slot → ℕ) (ms : List (SlotMap ℕ)) → ((i : ℕ) (q : Slot) → get (map_at ms i) q ≡ None) → ArePlaced place_of ms
placed_nothing place_of ms none = λ i s key had. absurd (some_of_none (get (map_at ms i) s) key had (none i s))

pub err_holds : {A E : Type 0} (r : Result A E) (Q : Type 0) → is_err r ≡ true → OnErr r Q → Q
err_holds (Ok a) Q is err = absurd cc
err_holds (Err e) Q is err = err

pub ok_holds : {A E : Type 0} (r : Result A E) (P : Type 0) → is_err r ≡ false → OnOk r P → P
ok_holds (Ok a) P is ok = ok
ok_holds (Err e) P is ok = absurd cc
