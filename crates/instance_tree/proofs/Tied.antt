-- The map that an arena and the keys of slots are together, and what each call leaves of it.
use Rattle.std.specs.Prelude.{◌≡◌, ◌≢◌, ℕ, ◌+◌, ◌-◌, ◌<◌, Bool, true, false, not, cond, List, [], ◌∷◌, Option, Some, None, IsSome, is_some, ◌&&◌, ◌⊎◌, T, slice_index_or, count_by, refl}
use Rattle.std.proofs.Common.{sym, ◌∙◌, ap, subst, inl, inr, arith}
use Rattle.std.specs.Ordering.{eq_by_cmp, is_lt, is_eq}
use Rattle.std.specs.declared.cmp.Ordering.{Ordering}
use Rattle.std.specs.declared.cmp.Ordering.TheVariants.{Less, Equal, Greater}
use Rattle.std.specs.FinMap as map
use Rattle.std.specs.FinMap.Entries.{below_all, is_sorted, find}
use Rattle.std.proofs.lemmas.Bool.{cases_Bool, cases_eq, both_ways}
use Rattle.slab.specs.Slab.{Slab, get, slab_len, Updates, with_value}
use Rattle.slab.proofs.SlabLemmas.{Updates-with_value, ContainsKey-within}
use Rattle.std.proofs.lemmas.List.Sums.{sum_by-set}
use Rattle.ritas_base.specs.declared.slot.Slot.{Slot}
use Rattle.ritas_base.specs.SlotOrder.{slot_cmp, slots_total, exact_slots, same_slot, slot_itself}
use Rattle.instance_tree.specs.SlotMaps.{SlotMap, without_slots}
use Rattle.instance_tree.specs.Keys.{TakesSlotOut}
use Rattle.instance_tree.specs.Arena.{at_slot, stored, values_by_slot, IsTied}

abbrev is_at : Slot → Slot → Bool
is_at q s = eq_by_cmp slot_cmp q s

first : (a b : Bool) → T (a && b) → T a
first true b h = tt
first false b h = h

second : (a b : Bool) → T (a && b) → T b
second true b h = h
second false b h = absurd h

less_differs : (o : Ordering) → T (is_lt o) → is_eq o ≡ false
less_differs Less h = refl
less_differs Equal h = absurd h
less_differs Greater h = absurd h

none_empty : (keys : SlotMap ℕ) → keys ≡ map.empty → (q : Slot) → map.get keys q ≡ None
none_empty keys is q = ap (λ (m : SlotMap ℕ). map.get m q) is ∙ map.get-empty slot_cmp q

module _ {V : Type 0} where
  -- what stands under a key, if there is a key
  abbrev pub under : (ℕ → Option V) → Option ℕ → Option V
  under value None = None
  under value (Some k) = value k

  found_other : (q s : Slot) (o : Option V) (rest : List (Slot × V)) → is_at q s ≡ false → find slot_cmp q (at_slot s o rest) ≡ find slot_cmp q rest
  found_other q s (Some v) rest other = ap (λ (b : Bool). cond b (Some v) (find slot_cmp q rest)) other
  found_other q s None rest other = refl

  found_here : (q s : Slot) (o : Option V) (rest : List (Slot × V)) → is_at q s ≡ true → find slot_cmp q rest ≡ None → find slot_cmp q (at_slot s o rest) ≡ o
  found_here q s (Some v) rest same none = ap (λ (b : Bool). cond b (Some v) (find slot_cmp q rest)) same
  found_here q s None rest same none = none

  module _ (value : ℕ → Option V) where
    none_below : (q : Slot) (es : List (Slot × ℕ)) → T (below_all slot_cmp q es) → find slot_cmp q (stored value es) ≡ None
    none_below q [] h = refl
    none_below q (e ∷ es) h =
        found_other q e.0 (value e.1) (stored value es) (less_differs (slot_cmp q e.0) (first _ _ h)) ∙ none_below q es (second _ _ h)

    found_stored : (es : List (Slot × ℕ)) → T (is_sorted slot_cmp es) → (q : Slot) → find slot_cmp q (stored value es) ≡ under value (find slot_cmp q es)
    found_stored [] h q = refl
    found_stored (e ∷ es) h q =
        elim (cases_Bool (is_at q e.0)) [
          | inl same ↦
              found_here q e.0 (value e.1) (stored value es) same
              (none_below q es (subst (λ (s : Slot). T (below_all slot_cmp s es)) (sym (same_slot q e.0 same)) (first _ _ h)))
              ∙ ap (λ (b : Bool). under value (cond b (Some e.1) (find slot_cmp q es))) (sym same)
          | inr other ↦
              found_other q e.0 (value e.1) (stored value es) other
              ∙ (found_stored es (second _ _ h) q ∙ ap (λ (b : Bool). under value (cond b (Some e.1) (find slot_cmp q es))) (sym other))
        ]

  -- the value of each slot is the one under its key
  pub get_joined : (keys : SlotMap ℕ) (arena : Slab V) (q : Slot) → map.get (values_by_slot keys arena) q ≡ under (get arena) (map.get keys q)
  get_joined keys arena q =
      map.get-from_entries slots_total (stored (get arena) (map.entries keys)) q
      ∙ (found_stored (get arena) (map.entries keys) (map.entries_sorted keys) q ∙ ap (under (get arena)) (sym (map.get-entries keys q)))

  some_there : (o : Option V) (v : V) → o ≡ Some v → IsSome o
  some_there (Some w) v h = refl
  some_there None v h = absurd cc

  none_there : (o : Option V) → o ≡ None → IsSome o → ⊥
  none_there (Some w) h some = absurd cc
  none_there None h some = cc

  -- a key that is vacant is no slot's
  not_vacant : (keys : SlotMap ℕ) (arena : Slab V) (key : ℕ) → IsTied keys arena → get arena key ≡ None → (q : Slot) (k : ℕ) → map.get keys q ≡ Some k → k ≢ key
  not_vacant keys arena key tied vacant q k found same = none_there (get arena k) (ap (get arena) same ∙ vacant) (tied.has q k found)

  -- ---- nothing

  pub empty_tied : (keys : SlotMap ℕ) (arena : Slab V) → keys ≡ map.empty → arena.slots ≡ [] → IsTied keys arena
  empty_tied keys arena is none = record {
    has = λ q k found. let nothing = none_empty keys is q in absurd cc;
    apart = λ q r k found found2. let nothing = none_empty keys is q in absurd cc;
    count = ap map.len is ∙ (map.len-empty slot_cmp ℕ ∙ sym (ap (λ (slots : List (Option V)). count_by is_some slots) none));
  }

  pub empty_view : (keys : SlotMap ℕ) (arena : Slab V) → keys ≡ map.empty → values_by_slot keys arena ≡ map.empty
  empty_view keys arena is = map.same_map slots_total exact_slots _ _ (λ q.
      get_joined keys arena q ∙ (ap (under (get arena)) (none_empty keys is q) ∙ sym (map.get-empty slot_cmp q)))

  -- ---- what is found

  pub found_value : (keys : SlotMap ℕ) (arena : Slab V) (q : Slot) (k : ℕ) (m : SlotMap V) → map.get keys q ≡ Some k → values_by_slot keys arena ≡ m → get arena k ≡ map.get m q
  found_value keys arena q k m found is =
      ap (under (get arena)) (sym found) ∙ (sym (get_joined keys arena q) ∙ ap (λ (n : SlotMap V). map.get n q) is)

  pub found_nothing : (keys : SlotMap ℕ) (arena : Slab V) (q : Slot) (m : SlotMap V) → map.get keys q ≡ None → values_by_slot keys arena ≡ m → None ≡ map.get m q
  found_nothing keys arena q m none is =
      ap (under (get arena)) (sym none) ∙ (sym (get_joined keys arena q) ∙ ap (λ (n : SlotMap V). map.get n q) is)

  no_key : (keys : SlotMap ℕ) (arena : Slab V) (q : Slot) (o : Option ℕ) → IsTied keys arena → map.get keys q ≡ o → under (get arena) o ≡ None → o ≡ None
  no_key keys arena q None tied is none = refl
  no_key keys arena q (Some k) tied is none = absurd (none_there (get arena k) none (tied.has q k is))

  -- a slot without a value has no key
  pub unmade_key : (keys : SlotMap ℕ) (arena : Slab V) (q : Slot) (m : SlotMap V) → IsTied keys arena → values_by_slot keys arena ≡ m → map.get m q ≡ None → map.get keys q ≡ None
  unmade_key keys arena q m tied is none =
      no_key keys arena q (map.get keys q) tied refl (sym (get_joined keys arena q) ∙ (ap (λ (n : SlotMap V). map.get n q) is ∙ none))

  -- ---- more room in the arena, which keeps its slots

  pub same_joined : (keys : SlotMap ℕ) (arena arena2 : Slab V) → arena2.slots ≡ arena.slots → values_by_slot keys arena2 ≡ values_by_slot keys arena
  same_joined keys arena arena2 same = map.same_map slots_total exact_slots _ _ (λ q.
      get_joined keys arena2 q
      ∙ (by_key (map.get keys q) ∙ sym (get_joined keys arena q)))
    where
      by_key : (o : Option ℕ) → under (get arena2) o ≡ under (get arena) o
      by_key None = refl
      by_key (Some k) = ap (λ (slots : List (Option V)). slice_index_or slots k None) same

  pub same_tied : (keys : SlotMap ℕ) (arena arena2 : Slab V) → arena2.slots ≡ arena.slots → IsTied keys arena → IsTied keys arena2
  same_tied keys arena arena2 same tied = record {
    has = λ q k found. subst (λ (slots : List (Option V)). IsSome (slice_index_or slots k None)) (sym same) (tied.has q k found);
    apart = tied.apart;
    count = tied.count ∙ ap (λ (slots : List (Option V)). count_by is_some slots) (sym same);
  }

  -- ---- a value is written at a slot

  module _ (keys : SlotMap ℕ) (arena : Slab V) (slot : Slot) (key : ℕ) (w : V) (tied : IsTied keys arena) (found : map.get keys slot ≡ Some key) where
    there : IsSome (get arena key)
    there = tied.has slot key found

    written : Updates arena (with_value arena key w) key (Some w)
    written = Updates-with_value arena key w there

    value_now : (q : Slot) (b : Bool) (o : Option ℕ) → is_at q slot ≡ b → map.get keys q ≡ o
        → under (get (with_value arena key w)) o ≡ cond b (Some w) (under (get arena) o)
    value_now q true o same is =
        let here : o ≡ Some key = sym is ∙ (ap (λ (s : Slot). map.get keys s) (same_slot q slot same) ∙ found) in
        ap (under (get (with_value arena key w))) here ∙ written.changed
    value_now q false None other is = refl
    value_now q false (Some k) other is = written.others k (λ same.
        both_ways (is_at q slot) other (ap (λ (s : Slot). is_at s slot) (tied.apart q slot k is (found ∙ ap (λ (n : ℕ). Some n) (sym same))) ∙ slot_itself slot))

    pub write_view : values_by_slot keys (with_value arena key w) ≡ map.insert (values_by_slot keys arena) slot w
    write_view = map.same_map slots_total exact_slots _ _ (λ q.
        get_joined keys (with_value arena key w) q
        ∙ (value_now q (is_at q slot) (map.get keys q) refl refl
        ∙ sym (map.get-insert slots_total (values_by_slot keys arena) slot w q ∙ ap (λ (o : Option V). cond (is_at q slot) (Some w) o) (get_joined keys arena q))))

    has_now : (k : ℕ) → IsSome (get arena k) → IsSome (get (with_value arena key w) k)
    has_now k some = elim (cases_eq k key) [
      | inl same ↦ some_there (get (with_value arena key w) k) w (ap (get (with_value arena key w)) same ∙ written.changed)
      | inr other ↦ subst (λ (o : Option V). IsSome o) (sym (written.others k other)) some
    ]

    pub write_tied : IsTied keys (with_value arena key w)
    write_tied = record {
      has = λ q k is. has_now k (tied.has q k is);
      apart = tied.apart;
      count = omega (arith, tied.count, same_count);
    }
      where
        same_count : slab_len (with_value arena key w) ≡ slab_len arena
        same_count =
            let one : cond {A = ℕ} (is_some (get arena key)) 1 0 ≡ 1 = ap (λ (b : Bool). cond b 1 0) there in
            omega (arith, one, sum_by-set (λ (o : Option V). cond (is_some o) 1 0) arena.slots key (Some w) None (ContainsKey-within arena key there))

  -- ---- a slot is given a key and a value

  module _ (keys keys2 : SlotMap ℕ) (arena arena2 : Slab V) (slot : Slot) (key : ℕ) (v : V)
      (tied : IsTied keys arena) (vacant : get arena key ≡ None) (unmade : map.get keys slot ≡ None)
      (inserted : keys2 ≡ map.insert keys slot key) (updates : Updates arena arena2 key (Some v)) where
    key_of : (q : Slot) → map.get keys2 q ≡ cond (is_at q slot) (Some key) (map.get keys q)
    key_of q = ap (λ (m : SlotMap ℕ). map.get m q) inserted ∙ map.get-insert slots_total keys slot key q

    value_of : (b : Bool) (o : Option ℕ) → ((k : ℕ) → o ≡ Some k → k ≢ key) → under (get arena2) (cond b (Some key) o) ≡ cond b (Some v) (under (get arena) o)
    value_of true o other = updates.changed
    value_of false None other = refl
    value_of false (Some k) other = updates.others k (other k refl)

    pub make_view : values_by_slot keys2 arena2 ≡ map.insert (values_by_slot keys arena) slot v
    make_view = map.same_map slots_total exact_slots _ _ (λ q.
        get_joined keys2 arena2 q
        ∙ (ap (under (get arena2)) (key_of q)
        ∙ (value_of (is_at q slot) (map.get keys q) (not_vacant keys arena key tied vacant q)
        ∙ sym (map.get-insert slots_total (values_by_slot keys arena) slot v q ∙ ap (λ (o : Option V). cond (is_at q slot) (Some v) o) (get_joined keys arena q)))))

    -- a key is the new one, at this slot, or was there before
    which : (b : Bool) (o : Option ℕ) (k : ℕ) → cond b (Some key) o ≡ Some k → ((b ≡ true) × (k ≡ key)) ⊎ (o ≡ Some k)
    which true o k h = inl (refl, cc)
    which false o k h = inr h

    which_of : (q : Slot) (k : ℕ) → map.get keys2 q ≡ Some k → ((is_at q slot ≡ true) × (k ≡ key)) ⊎ (map.get keys q ≡ Some k)
    which_of q k found = which (is_at q slot) (map.get keys q) k (sym (key_of q) ∙ found)

    has_still : (q : Slot) (k : ℕ) → map.get keys q ≡ Some k → IsSome (get arena2 k)
    has_still q k found = subst (λ (o : Option V). IsSome o) (sym (updates.others k (not_vacant keys arena key tied vacant q k found))) (tied.has q k found)

    pub make_tied : slab_len arena2 ≡ slab_len arena + 1 → IsTied keys2 arena2
    make_tied more = record {
      has = λ q k found. elim (which_of q k found) [
        | inl new ↦ some_there (get arena2 k) v (ap (get arena2) new.1 ∙ updates.changed)
        | inr old ↦ has_still q k old
      ];
      apart = λ q r k found found2. elim (which_of q k found) [
        | inl new ↦ elim (which_of r k found2) [
          | inl new2 ↦ same_slot q slot new.0 ∙ sym (same_slot r slot new2.0)
          | inr old2 ↦ absurd (not_vacant keys arena key tied vacant r k old2 new.1)
        ]
        | inr old ↦ elim (which_of r k found2) [
          | inl new2 ↦ absurd (not_vacant keys arena key tied vacant q k old new2.1)
          | inr old2 ↦ tied.apart q r k old old2
        ]
      ];
      count =
          ap map.len inserted
          ∙ (map.len-insert slots_total keys slot key
          ∙ (ap (λ (o : Option ℕ). cond (is_some o) (map.len keys) (map.len keys + 1)) unmade
          ∙ (ap (λ (n : ℕ). n + 1) tied.count ∙ sym more)));
    }

  -- ---- a slot is taken out, and its value

  module _ (gone : Slot → Bool) (keys keys2 : SlotMap ℕ) (arena arena2 : Slab V) (key : ℕ)
      (tied : IsTied keys arena) (takes : TakesSlotOut gone keys keys2 key) (updates : Updates arena arena2 key None) where
    key_left : (q : Slot) → map.get keys2 q ≡ cond (is_at q takes.slot) None (map.get keys q)
    key_left q = ap (λ (m : SlotMap ℕ). map.get m q) takes.taken ∙ map.get-remove slots_total keys takes.slot q

    left : (b : Bool) (o : Option ℕ) (k : ℕ) → cond b None o ≡ Some k → (b ≡ false) × (o ≡ Some k)
    left true o k h = absurd cc
    left false o k h = (refl, h)

    left_of : (q : Slot) (k : ℕ) → map.get keys2 q ≡ Some k → (is_at q takes.slot ≡ false) × (map.get keys q ≡ Some k)
    left_of q k found = left (is_at q takes.slot) (map.get keys q) k (sym (key_left q) ∙ found)

    -- another slot has another key
    other_key : (q : Slot) (k : ℕ) → is_at q takes.slot ≡ false → map.get keys q ≡ Some k → k ≢ key
    other_key q k other found same =
        both_ways (is_at q takes.slot) other
        (ap (λ (s : Slot). is_at s takes.slot) (tied.apart q takes.slot k found (takes.had ∙ ap (λ (n : ℕ). Some n) (sym same))) ∙ slot_itself takes.slot)

    pub take_tied : slab_len arena2 + 1 ≡ slab_len arena → IsTied keys2 arena2
    take_tied fewer = record {
      has = λ q k found.
          let old = left_of q k found in
          subst (λ (o : Option V). IsSome o) (sym (updates.others k (other_key q k old.0 old.1))) (tied.has q k old.1);
      apart = λ q r k found found2. tied.apart q r k (left_of q k found).1 (left_of r k found2).1;
      count = omega (arith, taken_len, tied.count);
    }
      where
        taken_len : map.len keys2 ≡ map.len keys - 1
        taken_len = ap map.len takes.taken
            ∙ (map.len-remove slots_total keys takes.slot ∙ ap (λ (o : Option ℕ). cond (is_some o) (map.len keys - 1) (map.len keys)) takes.had)

    value_left : (o : Option ℕ) → ((k : ℕ) → o ≡ Some k → k ≢ key) → under (get arena2) o ≡ under (get arena) o
    value_left None other = refl
    value_left (Some k) other = updates.others k (other k refl)

    pub take_view : (q : Slot) → gone q ≡ false → map.get (values_by_slot keys2 arena2) q ≡ map.get (values_by_slot keys arena) q
    take_view q stays =
        let other : is_at q takes.slot ≡ false = elim (cases_Bool (is_at q takes.slot)) [
          | inl same ↦ absurd (both_ways (gone q) stays (ap gone (same_slot q takes.slot same) ∙ takes.passes))
          | inr other ↦ other
        ] in
        let same_key : map.get keys2 q ≡ map.get keys q = key_left q ∙ ap (λ (b : Bool). cond b None (map.get keys q)) other in
        get_joined keys2 arena2 q
        ∙ (ap (under (get arena2)) same_key ∙ (value_left (map.get keys q) (λ k found. other_key q k other found) ∙ sym (get_joined keys arena q)))

  -- so far only slots that pass were taken out
  pub record IsDropping (gone : Slot → Bool) (m : SlotMap V) (keys : SlotMap ℕ) (arena : Slab V) : Type 0 where
    pub tied : IsTied keys arena
    pub stays : (q : Slot) → gone q ≡ false → map.get (values_by_slot keys arena) q ≡ map.get m q

  pub dropping_first : (gone : Slot → Bool) (m : SlotMap V) (keys : SlotMap ℕ) (arena : Slab V) → IsTied keys arena → values_by_slot keys arena ≡ m → IsDropping gone m keys arena
  dropping_first gone m keys arena tied is = record { tied = tied; stays = λ q _. ap (λ (n : SlotMap V). map.get n q) is }

  pub dropping_more : (gone : Slot → Bool) (m : SlotMap V) (keys keys2 : SlotMap ℕ) (arena arena2 : Slab V) (key : ℕ)
      → IsDropping gone m keys arena → TakesSlotOut gone keys keys2 key → Updates arena arena2 key None → slab_len arena2 + 1 ≡ slab_len arena
      → IsDropping gone m keys2 arena2
  dropping_more gone m keys keys2 arena arena2 key so_far takes updates fewer = record {
    tied = take_tied gone keys keys2 arena arena2 key so_far.tied takes updates fewer;
    stays = λ q other. take_view gone keys keys2 arena arena2 key so_far.tied takes updates q other ∙ so_far.stays q other;
  }

  pub dropping_fewer : (gone : Slot → Bool) (keys keys2 : SlotMap ℕ) (arena : Slab V) (key : ℕ) → IsTied keys arena → TakesSlotOut gone keys keys2 key
      → 0 < slab_len arena → map.len keys2 < map.len keys
  dropping_fewer gone keys keys2 arena key tied takes some =
      let less : map.len keys2 ≡ map.len keys - 1 = ap map.len takes.taken
      ∙ (map.len-remove slots_total keys takes.slot ∙ ap (λ (o : Option ℕ). cond (is_some o) (map.len keys - 1) (map.len keys)) takes.had) in
      omega (arith, less, tied.count)

  -- where no slot is left that passes, all of these were dropped, and no other
  pub all_dropped : (gone : Slot → Bool) (m : SlotMap V) (keys : SlotMap ℕ) (arena : Slab V)
      → ((q : Slot) → gone q ≡ false → map.get (values_by_slot keys arena) q ≡ map.get m q) → ((q : Slot) → gone q ≡ true → map.get keys q ≡ None)
      → values_by_slot keys arena ≡ without_slots gone m
  all_dropped gone m keys arena stays none = map.same_map slots_total exact_slots _ _ (λ q.
      by_test q (gone q) refl ∙ sym (map.get-retain_keys m (λ s. not (gone s)) q (λ x tied. ap (λ (s : Slot). not (gone s)) (sym (exact_slots q x tied)))))
    where
      by_test : (q : Slot) (b : Bool) → gone q ≡ b → map.get (values_by_slot keys arena) q ≡ cond (not (gone q)) (map.get m q) None
      by_test q true is =
          get_joined keys arena q ∙ (ap (under (get arena)) (none q is) ∙ ap (λ (b : Bool). cond (not b) (map.get m q) None) (sym is))
      by_test q false is = stays q is ∙ ap (λ (b : Bool). cond (not b) (map.get m q) None) (sym is)
