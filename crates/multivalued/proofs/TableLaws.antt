-- How an INIT or a VECT changes what the table tells.
use Rattle.std.specs.Prelude.{◌≡◌, ◌⊎◌, ℕ, ◌≤◌, ◌<◌, Bool, true, false, ◌&&◌, ◌||◌, ◌==◌, List, [], ◌∷◌, drop, Option, Some, None, is_some, if◌then◌else◌, refl, slice_set, length}
use Rattle.std.specs.List.{slice_get}
use Rattle.std.specs.Str.{bytes_eq}
use Rattle.std.proofs.Math.Bool.{and-false, or-false, or-true}
use Rattle.std.proofs.Common.{sym, ◌∙◌, ap, ap₂, subst, inl, inr, arith, length-set, get_or-set_same, get_or-set_other}
use Rattle.std.proofs.lemmas.Bool.{cases_lt, both_ways, eqb-true, eq-eqb, or_cases, and_parts, false_from_ne_true}
use Rattle.std.proofs.lemmas.Option.{same_Some, slice_get-get_or, slice_get_past, slice_get_within}
use Rattle.std.proofs.lemmas.Slice.Eq.{bytes_eq-Decides}
use Rattle.ritas_base.specs.Members.{has_member}
use Rattle.ritas_base.specs.History.{is_value}
use Rattle.frame_codec.specs.Values.{mask_of}
use Rattle.multivalued.specs.Entries.{Proposed, Claims, put, passes, claimed, is_valid_vect, IsEntry, AreEntries, HasAt, HasEntry, KeepsValues}
use Rattle.multivalued.specs.Tables.{IsInside, IsTable, ProposedAt, ClaimedAt}
use Rattle.multivalued.specs.declared.entry.Entry.{Entry}
use Rattle.multivalued.specs.declared.table.Table.{Table}
use Rattle.multivalued.proofs.EntryLaws.{same_value, inside_put, entry_other, entry_proposed, holds_more, claimed_put, holds_put, entry_unclaimed, entry_claimed}

set_same : (xs : List Entry) (k : ℕ) (y : Entry) → k < length xs → slice_get (slice_set xs k y) k ≡ Some y
set_same xs k y l =
    slice_get-get_or (slice_set xs k y) k y (let e = length-set xs k y in omega (arith, e, l)) ∙ ap Some (get_or-set_same xs k y y l)

set_other : (xs : List Entry) (k j : ℕ) (y : Entry) → (j ≡ k → ⊥) → slice_get (slice_set xs k y) j ≡ slice_get xs j
set_other xs k j y ne =
    elim (cases_lt j (length xs)) [
      | inl l ↦
          slice_get-get_or (slice_set xs k y) j y (let e = length-set xs k y in omega (arith, e, l))
          ∙ (ap Some (get_or-set_other xs k j y y ne) ∙ sym (slice_get-get_or xs j y l))
      | inr g ↦ slice_get_past (slice_set xs k y) j (let e = length-set xs k y in omega (arith, e, g)) ∙ sym (slice_get_past xs j g)
    ]

-- an entry is changed, and keeps its value
module _ (es : List Entry) (i : ℕ) (e new : Entry) (is : slice_get es i ≡ Some e) (value : new.value ≡ e.value) where
  abbrev after : List Entry
  after = slice_set es i new

  pub there : slice_get (slice_set es i new) i ≡ Some new
  there = set_same es i new (slice_get_within es i e is)

  -- each entry after is the changed one, or as it was
  pub set_is : (j : ℕ) (d : Entry) → slice_get (slice_set es i new) j ≡ Some d → ((j ≡ i) × (new ≡ d)) ⊎ ((j ≡ i → ⊥) × (slice_get es j ≡ Some d))
  set_is j d q = go (j == i) refl
    where
      go : (b : Bool) → (j == i) ≡ b → ((j ≡ i) × (new ≡ d)) ⊎ ((j ≡ i → ⊥) × (slice_get es j ≡ Some d))
      go true t = let s = eqb-true j i t in inl (s, same_Some new d (sym there ∙ (ap (slice_get after) (sym s) ∙ q)))
      go false f = let ne : j ≡ i → ⊥ = λ z. both_ways (j == i) f (eq-eqb j i z) in inr (ne, sym (set_other es i j new ne) ∙ q)

  pub keeps_set : KeepsValues es (slice_set es i new)
  keeps_set j d q = go (j == i) refl
    where
      go : (b : Bool) → (j == i) ≡ b → HasAt (slice_set es i new) j d.value
      go true t =
          let s = eqb-true j i t in
          (new, ap (slice_get after) s ∙ there, value ∙ ap (λ (x : Entry). x.value) (same_Some e d (sym is ∙ (ap (slice_get es) (sym s) ∙ q))))
      go false f = (d, set_other es i j new (λ z. both_ways (j == i) f (eq-eqb j i z)) ∙ q, refl)

  pub has_set : (v : List ℕ) → HasEntry es v → HasEntry (slice_set es i new) v
  has_set v h = let k = keeps_set h.0 h.1.0 h.1.1 in (h.0, (k.0, k.1, k.2 ∙ h.1.2))

  was : (j : ℕ) (d : Entry) → slice_get (slice_set es i new) j ≡ Some d → (o : Entry) × (slice_get es j ≡ Some o) × (d.value ≡ o.value)
  was j d q =
      elim (set_is j d q) [
        | inl a ↦ (e, ap (slice_get es) a.0 ∙ is, ap (λ (x : Entry). x.value) (sym a.1) ∙ value)
        | inr b ↦ (d, b.1, refl)
      ]

  pub apart_set : ((i j : ℕ) (d e : Entry) → slice_get es i ≡ Some d → slice_get es j ≡ Some e → d.value ≡ e.value → i ≡ j)
      → (a b : ℕ) (d c : Entry) → slice_get (slice_set es i new) a ≡ Some d → slice_get (slice_set es i new) b ≡ Some c → d.value ≡ c.value → a ≡ b
  apart_set apart a b d c q r same =
      let x = was a d q in
      let y = was b c r in
      apart a b x.0 y.0 x.1 y.1 (sym x.2 ∙ (same ∙ y.2))

-- ---- a proposal

module _ (n support : ℕ) (small : n ≤ 31) (init vect : ℕ → Option (List ℕ)) (inside : IsInside n init)
    (k : ℕ) (v : List ℕ) (within : k < n) (nothing : init k ≡ None) where
  entries_proposed : (who : ℕ) (es : List Entry) (i : ℕ) (e new : Entry) → ((j : ℕ) → has_member who j ≡ (j == k)) → slice_get es i ≡ Some e → e.value ≡ v → AreEntries n support init vect es
      → Proposed support who e new → AreEntries n support (put init k v) vect (slice_set es i new)
  entries_proposed who es i e new one is value a p = record {
    each = λ j d q. elim (set_is es i e new is p.value j d q) [
      | inl m ↦ subst (λ (x : Entry). IsEntry n support (put init k v) vect x) m.1 (entry_proposed n support small init vect inside k v within nothing who e new one value (a.each i e is) p)
      | inr o ↦ entry_other n support small init vect inside k v within nothing d (λ z. o.0 (a.apart j i d e o.1 is (z ∙ sym value))) (a.each j d o.1)
    ];
    apart = apart_set es i e new is p.value a.apart;
    proposed = λ u j t. proposed u j t;
    claims = λ u j t. has_set es i e new is p.value u (a.claims u j t);
  }
    where
      proposed : (u : List ℕ) (j : ℕ) → is_value u (put init k v j) ≡ true → HasEntry (slice_set es i new) u
      proposed u j t = go (j == k) refl t
        where
          go : (b : Bool) → (j == k) ≡ b → is_value u (if b then Some v else init j) ≡ true → HasEntry (slice_set es i new) u
          go false f t = has_set es i e new is p.value u (a.proposed u j t)
          go true f t = has_set es i e new is p.value u (i, (e, is, value ∙ (bytes_eq-Decides v u).0 t))

  pub table_proposed : (who i backs : ℕ) (old new : Table) (at : List Entry) → ((j : ℕ) → has_member who j ≡ (j == k)) → IsTable n support init vect old
      → AreEntries n support init vect at → HasAt at i v → ProposedAt support who i at new.entries.items backs → new.support ≡ old.support
      → ((j : ℕ) → has_member new.inits j ≡ (has_member old.inits j || has_member who j))
      → ((j : ℕ) → has_member new.valids j ≡ (has_member old.valids j || has_member backs j))
      → ((j : ℕ) → has_member new.valued j ≡ (has_member old.valued j || has_member backs j)) → IsTable n support (put init k v) vect new
  table_proposed who i backs old new at one t a h p support_is inits valids valued =
      let made = entries_proposed who at i h.0 p.entry one h.1 h.2 a (p.here h.0 h.1) in
      let all = subst (λ (l : List Entry). AreEntries n support (put init k v) vect l) (sym p.set) made in
      let value : p.entry.value ≡ v = (p.here h.0 h.1).value ∙ h.2 in
      let here = made.each i p.entry (there at i h.0 p.entry h.1 (p.here h.0 h.1).value) in
      let more : (j : ℕ) → has_member backs j ≡ claimed v (passes n support (put init k v) v) (vect j) =
      λ j. ap (λ (m : ℕ). has_member m j) p.backs_are ∙ (here.backs j ∙ ap (λ (u : List ℕ). claimed u (passes n support (put init k v) u) (vect j)) value) in
      record {
        support_is = support_is ∙ t.support_is;
        inits_inside = inside_put n support small init vect inside k v within nothing;
        vects_inside = t.vects_inside;
        entries = all;
        inits = λ j. inits j ∙ (ap₂ (λ (x y : Bool). x || y) (t.inits j) (one j) ∙ known j);
        valids = λ j. valids j ∙ (ap₂ (λ (x y : Bool). x || y) (t.valids j) (more j) ∙ sym (holds_more n support small init vect inside k v within nothing true (vect j)));
        valued = λ j. valued j ∙ (ap₂ (λ (x y : Bool). x || y) (t.valued j) (more j) ∙ sym (holds_more n support small init vect inside k v within nothing false (vect j)));
      }
    where
      known : (j : ℕ) → (is_some (init j) || (j == k)) ≡ is_some (put init k v j)
      known j = go (j == k) (is_some (init j))
        where
          go : (b : Bool) (x : Bool) → (is_some (init j) || b) ≡ is_some (if b then Some v else init j)
          go false x = or-false (is_some (init j))
          go true x = or-true (is_some (init j))

-- ---- a VECT

module _ (n support : ℕ) (small : n ≤ 31) (init vect : ℕ → Option (List ℕ)) (inside : IsInside n init)
    (k : ℕ) (x : List ℕ) (within : k < n) (nothing : vect k ≡ None) where
  vects_put : IsInside n vect → IsInside n (put vect k x)
  vects_put o j le = ap (λ (b : Bool). if b then Some x else vect j) (false_from_ne_true (j == k) (λ t. let e = eqb-true j k t in absurd (omega (arith, e, le, within)))) ∙ o j le

  -- a claim of some value is old, or this one
  claimed_now : (u : List ℕ) (j : ℕ) → claimed u (λ m. true) (put vect k x j) ≡ true → (claimed u (λ m. true) (vect j) ≡ true) ⊎ (claimed u (λ m. true) (Some x) ≡ true)
  claimed_now u j t =
      elim (or_cases (claimed u (λ m. true) (vect j)) ((j == k) && claimed u (λ m. true) (Some x)) (sym (claimed_put n support small init vect inside k x nothing u (λ m. true) j) ∙ t)) [
        | inl a ↦ inl a
        | inr b ↦ inr (and_parts (j == k) (claimed u (λ m. true) (Some x)) b).1
      ]

  pub table_none : (who : ℕ) (old new : Table) → x ≡ [] → ((j : ℕ) → has_member who j ≡ (j == k)) → IsTable n support init vect old → new.entries ≡ old.entries → new.support ≡ old.support
      → new.inits ≡ old.inits → ((j : ℕ) → has_member new.valids j ≡ (has_member old.valids j || has_member who j)) → new.valued ≡ old.valued → IsTable n support init (put vect k x) new
  table_none who old new empty one t same support_is inits valids valued =
      let a = t.entries in
      let none : (u : List ℕ) (p : ℕ → Bool) → claimed u p (Some x) ≡ false = λ u p. ap (λ (y : List ℕ). claimed u p (Some y)) empty in
      record {
        support_is = support_is ∙ t.support_is;
        inits_inside = t.inits_inside;
        vects_inside = vects_put t.vects_inside;
        entries = subst (λ (l : List Entry). AreEntries n support init (put vect k x) l) (sym (ap (λ es. es.items) same)) (record {
          each = λ i e q. entry_unclaimed n support small init vect inside k x nothing e (none e.value) (a.each i e q);
          apart = a.apart;
          proposed = a.proposed;
          claims = λ u j c. elim (claimed_now u j c) [ inl o ↦ a.claims u j o | inr m ↦ absurd (both_ways (claimed u (λ m. true) (Some x)) (none u (λ m. true)) m) ];
        });
        inits = λ j. ap (λ (m : ℕ). has_member m j) inits ∙ t.inits j;
        valids = λ j. valids j ∙ (ap₂ (λ (p q : Bool). p || q) (t.valids j) (one j ∙ all true j) ∙ sym (holds_put n support small init vect inside k x nothing true j));
        valued = λ j. ap (λ (m : ℕ). has_member m j) valued ∙ (t.valued j ∙ sym (holds_put n support small init vect inside k x nothing false j ∙ nothing_more (is_valid_vect n support init false (vect j)) j));
      }
    where
      all : (q : Bool) (j : ℕ) → (j == k) ≡ ((j == k) && is_valid_vect n support init true (Some x))
      all q j = by (j == k) ∙ ap (λ (y : List ℕ). (j == k) && is_valid_vect n support init true (Some y)) (sym empty)
        where
          by : (b : Bool) → b ≡ (b && true)
          by true = refl
          by false = refl

      nothing_more : (b : Bool) (j : ℕ) → (b || ((j == k) && is_valid_vect n support init false (Some x))) ≡ b
      nothing_more b j = ap (λ (y : List ℕ). b || ((j == k) && is_valid_vect n support init false (Some y))) empty ∙ (ap (λ (c : Bool). b || c) (and-false (j == k)) ∙ or-false b)

  -- what is claimed is of the value
  long : (p : ℕ → Bool) → 4 ≤ length x → claimed (drop 4 x) p (Some x) ≡ p (mask_of x)
  long p l = go x l
    where
      go : (y : List ℕ) → 4 ≤ length y → claimed (drop 4 y) p (Some y) ≡ p (mask_of y)
      go [] l = absurd (omega (arith, l))
      go (b ∷ bs) l = ap (λ (t : Bool). t && p (mask_of (b ∷ bs))) (same_value (drop 4 (b ∷ bs)))

  other : (u : List ℕ) (p : ℕ → Bool) → 4 ≤ length x → (u ≡ drop 4 x → ⊥) → claimed u p (Some x) ≡ false
  other u p l ne = go x l ne
    where
      go : (y : List ℕ) → 4 ≤ length y → (u ≡ drop 4 y → ⊥) → claimed u p (Some y) ≡ false
      go [] l ne = absurd (omega (arith, l))
      go (b ∷ bs) l ne = ap (λ (t : Bool). t && p (mask_of (b ∷ bs))) (false_from_ne_true (bytes_eq (drop 4 (b ∷ bs)) u) (λ t. ne (sym ((bytes_eq-Decides (drop 4 (b ∷ bs)) u).0 t))))

  holds_is : (q : Bool) → 4 ≤ length x → is_valid_vect n support init q (Some x) ≡ claimed (drop 4 x) (passes n support init (drop 4 x)) (Some x)
  holds_is q l = go x l
    where
      go : (y : List ℕ) → 4 ≤ length y → is_valid_vect n support init q (Some y) ≡ claimed (drop 4 y) (passes n support init (drop 4 y)) (Some y)
      go [] l = absurd (omega (arith, l))
      go (b ∷ bs) l = sym (ap (λ (t : Bool). t && passes n support init (drop 4 (b ∷ bs)) (mask_of (b ∷ bs))) (same_value (drop 4 (b ∷ bs))))

  entries_claimed : (who : ℕ) (es : List Entry) (i : ℕ) (e new : Entry) → 4 ≤ length x → ((j : ℕ) → has_member who j ≡ (j == k)) → slice_get es i ≡ Some e → e.value ≡ drop 4 x
      → AreEntries n support init vect es → Claims support who (mask_of x) e new → AreEntries n support init (put vect k x) (slice_set es i new)
  entries_claimed who es i e new l one is value a c = record {
    each = λ j d q. elim (set_is es i e new is c.value j d q) [
      | inl m ↦ subst (λ (y : Entry). IsEntry n support init (put vect k x) y) m.1
          (entry_claimed n support small init vect inside k x nothing who (mask_of x) e new one (λ p. ap (λ (u : List ℕ). claimed u p (Some x)) value ∙ long p l) (a.each i e is) c)
      | inr o ↦ entry_unclaimed n support small init vect inside k x nothing d (λ p. other d.value p l (λ z. o.0 (a.apart j i d e o.1 is (z ∙ sym value)))) (a.each j d o.1)
    ];
    apart = apart_set es i e new is c.value a.apart;
    proposed = λ u j t. has_set es i e new is c.value u (a.proposed u j t);
    claims = λ u j t. elim (claimed_now u j t) [
      | inl o ↦ has_set es i e new is c.value u (a.claims u j o)
      | inr m ↦ has_set es i e new is c.value u (i, (e, is, value ∙ of_value u m))
    ];
  }
    where
      of_value : (u : List ℕ) → claimed u (λ m. true) (Some x) ≡ true → drop 4 x ≡ u
      of_value u m = go x l m
        where
          go : (y : List ℕ) → 4 ≤ length y → claimed u (λ m. true) (Some y) ≡ true → drop 4 y ≡ u
          go [] l m = absurd (omega (arith, l))
          go (b ∷ bs) l m = (bytes_eq-Decides (drop 4 (b ∷ bs)) u).0 (and_parts (bytes_eq (drop 4 (b ∷ bs)) u) true m).0

  pub table_claimed : (who i backs : ℕ) (old new : Table) (at : List Entry) → 4 ≤ length x → ((j : ℕ) → has_member who j ≡ (j == k)) → IsTable n support init vect old
      → AreEntries n support init vect at → HasAt at i (drop 4 x) → ClaimedAt support who (mask_of x) i at new.entries.items backs → new.support ≡ old.support → new.inits ≡ old.inits
      → ((j : ℕ) → has_member new.valids j ≡ (has_member old.valids j || has_member backs j))
      → ((j : ℕ) → has_member new.valued j ≡ (has_member old.valued j || has_member backs j)) → IsTable n support init (put vect k x) new
  table_claimed who i backs old new at l one t a h c support_is inits valids valued =
      let made = entries_claimed who at i h.0 c.entry l one h.1 h.2 a (c.here h.0 h.1) in
      let value : c.entry.value ≡ drop 4 x = (c.here h.0 h.1).value ∙ h.2 in
      let here = made.each i c.entry (there at i h.0 c.entry h.1 (c.here h.0 h.1).value) in
      let more : (j : ℕ) → has_member backs j ≡ (claimed (drop 4 x) (passes n support init (drop 4 x)) (vect j) || ((j == k) && claimed (drop 4 x) (passes n support init (drop 4 x)) (Some x))) =
      λ j. ap (λ (m : ℕ). has_member m j) c.backs_are
      ∙ (here.backs j
      ∙ (ap (λ (u : List ℕ). claimed u (passes n support init u) (put vect k x j)) value ∙ claimed_put n support small init vect inside k x nothing (drop 4 x) (passes n support init (drop 4 x)) j)) in
      record {
        support_is = support_is ∙ t.support_is;
        inits_inside = t.inits_inside;
        vects_inside = vects_put t.vects_inside;
        entries = subst (λ (es : List Entry). AreEntries n support init (put vect k x) es) (sym c.set) made;
        inits = λ j. ap (λ (m : ℕ). has_member m j) inits ∙ t.inits j;
        valids = λ j. valids j ∙ (ap₂ (λ (p q : Bool). p || q) (t.valids j) (more j) ∙ joined true j);
        valued = λ j. valued j ∙ (ap₂ (λ (p q : Bool). p || q) (t.valued j) (more j) ∙ joined false j);
      }
    where
      -- those of the value are valid already
      within_holds : (q : Bool) (o : Option (List ℕ)) → claimed (drop 4 x) (passes n support init (drop 4 x)) o ≡ true → is_valid_vect n support init q o ≡ true
      within_holds q None e = absurd cc
      within_holds q (Some []) e = absurd cc
      within_holds q (Some (b ∷ bs)) e =
          let p = and_parts (bytes_eq (drop 4 (b ∷ bs)) (drop 4 x)) _ e in
          ap (λ (u : List ℕ). passes n support init u (mask_of (b ∷ bs))) ((bytes_eq-Decides (drop 4 (b ∷ bs)) (drop 4 x)).0 p.0) ∙ p.1

      joined : (q : Bool) (j : ℕ) → (is_valid_vect n support init q (vect j) || (claimed (drop 4 x) (passes n support init (drop 4 x)) (vect j) || ((j == k) && claimed (drop 4 x) (passes n support init (drop 4 x)) (Some x))))
          ≡ is_valid_vect n support init q (put vect k x j)
      joined q j =
          by (is_valid_vect n support init q (vect j)) (claimed (drop 4 x) (passes n support init (drop 4 x)) (vect j)) ((j == k) && claimed (drop 4 x) (passes n support init (drop 4 x)) (Some x)) (within_holds q (vect j))
          ∙ (ap (λ (b : Bool). is_valid_vect n support init q (vect j) || ((j == k) && b)) (sym (holds_is q l)) ∙ sym (holds_put n support small init vect inside k x nothing q j))
        where
          by : (a b c : Bool) → (b ≡ true → a ≡ true) → (a || (b || c)) ≡ (a || c)
          by true b c m = refl
          by false false c m = refl
          by false true c m = absurd (let e = m refl in cc)

-- ---- what stays

pub read_is : (es : List Entry) (i : ℕ) (one e : Entry) → slice_get es i ≡ Some one → slice_get es i ≡ Some e → one ≡ e
read_is es i one e a b = same_Some one e (sym a ∙ b)

pub keeps_same : (es : List Entry) → KeepsValues es es
keeps_same es j e q = (e, q, refl)

pub keeps_more : (a b c : List Entry) → KeepsValues a b → KeepsValues b c → KeepsValues a c
keeps_more a b c k l j e q =
    let x = k j e q in
    let y = l j x.0 x.1 in
    (y.0, y.1, y.2 ∙ x.2)

pub proposed_keeps : (support who i : ℕ) (old new : List Entry) (backs : ℕ) (v : List ℕ) → HasAt old i v → ProposedAt support who i old new backs → KeepsValues old new
proposed_keeps support who i old new backs v h p = subst (λ (l : List Entry). KeepsValues old l) (sym p.set) (keeps_set old i h.0 p.entry h.1 (p.here h.0 h.1).value)

pub has_still : (a b : List Entry) (i : ℕ) (v : List ℕ) → KeepsValues a b → HasAt a i v → HasAt b i v
has_still a b i v k h = let x = k i h.0 h.1 in (x.0, x.1, x.2 ∙ h.2)
