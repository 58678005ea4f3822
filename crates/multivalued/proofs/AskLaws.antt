-- What is asked of the table, on the replicas' values.
use Rattle.std.specs.Prelude.{◌≡◌, ◌⊎◌, ℕ, zero, suc, ◌+◌, ◌≤◌, Bool, true, false, not, ◌==◌, ◌&&◌, ◌||◌, nat_le, List, [], ◌∷◌, count_by, drop, Option, Some, None, length, if◌then◌else◌, refl, is_some}
use Rattle.std.specs.List.{slice_get, list_any}
use Rattle.std.specs.Str.{bytes_eq}
use Rattle.std.proofs.Common.{sym, ◌∙◌, ap, ap₂, subst, inl, inr, arith}
use Rattle.std.proofs.lemmas.Bool.{cases_eq, eq-eqb, ne_eqb, cases_Bool, and_parts, or_cases}
use Rattle.std.proofs.lemmas.Option.{same_Some}
use Rattle.std.proofs.lemmas.Slice.Eq.{bytes_eq-Decides}
use Rattle.ritas_base.specs.Members.{has_member, member_count}
use Rattle.ritas_base.specs.History.{replicas, is_value}
use Rattle.ritas_base.specs.Quorums.{count_yes, count_no}
use Rattle.frame_codec.specs.Values.{mask_of}
use Rattle.ritas_base.specs.Places.{listed}
use Rattle.multivalued.specs.Places.{count_of_set}
use Rattle.multivalued.specs.Entries.{passes, claimed, is_valid_vect, HasEntry}
use Rattle.multivalued.specs.Least.{has_enough_backers, is_clear, LeastTo, ValueOf}
use Rattle.multivalued.specs.Tables.{IsTable, valid_value, least_with, has_other, one_clear}
use Rattle.multivalued.specs.declared.entry.Entry.{Entry}
use Rattle.multivalued.specs.declared.table.Table.{Table}
use Rattle.multivalued.proofs.EntryLaws.{claimed_weaker}
use Rattle.multivalued.proofs.LeastLaws.{In, value_of_least, listed_here, listed_out}

pub valid_is : (n support : ℕ) (init : ℕ → Option (List ℕ)) (v : List ℕ) (o : Option (List ℕ)) → claimed v (passes n support init v) o ≡ is_value v (valid_value n support init o)
valid_is n support init v None = refl
valid_is n support init v (Some []) = refl
valid_is n support init v (Some (b ∷ bs)) = go (drop 4 (b ∷ bs)) (mask_of (b ∷ bs)) (cases_Bool (bytes_eq (drop 4 (b ∷ bs)) v))
  where
    pick : (u : List ℕ) (p t : Bool) → bytes_eq u v ≡ t → (t && p) ≡ is_value v (if p then Some u else None)
    pick u true true e = sym e
    pick u false true e = refl
    pick u true false e = sym e
    pick u false false e = refl

    go : (u : List ℕ) (m : ℕ) → (bytes_eq u v ≡ true) ⊎ (bytes_eq u v ≡ false) → (bytes_eq u v && passes n support init v m) ≡ is_value v (if passes n support init u m then Some u else None)
    go u m (inl t) =
        ap₂ (λ (a b : Bool). a && b) t (ap (λ (x : List ℕ). passes n support init x m) (sym ((bytes_eq-Decides u v).0 t))) ∙ pick u (passes n support init u m) true t
    go u m (inr f) = ap (λ (a : Bool). a && passes n support init v m) f ∙ pick u (passes n support init u m) false f

pub some_is : (n support : ℕ) (init : ℕ → Option (List ℕ)) (o : Option (List ℕ)) → is_valid_vect n support init false o ≡ is_some (valid_value n support init o)
some_is n support init None = refl
some_is n support init (Some []) = refl
some_is n support init (Some (b ∷ bs)) = go (passes n support init (drop 4 (b ∷ bs)) (mask_of (b ∷ bs)))
  where
    go : (p : Bool) → p ≡ is_some (if p then Some (drop 4 (b ∷ bs)) else None)
    go true = refl
    go false = refl

bool_same : (a b : Bool) → (a ≡ true → b ≡ true) → (b ≡ true → a ≡ true) → a ≡ b
bool_same true b f g = sym (f refl)
bool_same false true f g = g refl
bool_same false false f g = refl

any_in : (p : List ℕ → Bool) (vs : List (List ℕ)) → list_any p vs ≡ true → (v : List ℕ) × In v vs × (p v ≡ true)
any_in p [] t = absurd cc
any_in p (v ∷ vs) t =
    elim (or_cases (p v) (list_any p vs) t) [
      | inl a ↦ (v, inl refl, a)
      | inr b ↦ let r = any_in p vs b in (r.0, inr r.1, r.2)
    ]

or_first : (a b : Bool) → a ≡ true → (a || b) ≡ true
or_first a b e = ap (λ (x : Bool). x || b) e

or_second : (a b : Bool) → b ≡ true → (a || b) ≡ true
or_second true b e = refl
or_second false b e = e

in_any : (p : List ℕ → Bool) (vs : List (List ℕ)) (v : List ℕ) → In v vs → p v ≡ true → list_any p vs ≡ true
in_any p [] v i t = absurd i
in_any p (x ∷ vs) v (inl s) t = or_first (p x) (list_any p vs) (ap p s ∙ t)
in_any p (x ∷ vs) v (inr i) t = or_second (p x) (list_any p vs) (in_any p vs v i t)

any_entry : (p : Entry → Bool) (es : List Entry) → list_any p es ≡ true → (i : ℕ) × (e : Entry) × (slice_get es i ≡ Some e) × (p e ≡ true)
any_entry p [] t = absurd cc
any_entry p (x ∷ es) t =
    elim (or_cases (p x) (list_any p es) t) [
      | inl a ↦ (0, x, refl, a)
      | inr b ↦ let r = any_entry p es b in (suc r.0, r.1, r.2, r.3)
    ]

entry_any : (p : Entry → Bool) (es : List Entry) (i : ℕ) (e : Entry) → slice_get es i ≡ Some e → p e ≡ true → list_any p es ≡ true
entry_any p [] i e q t = absurd cc
entry_any p (x ∷ es) zero e q t = or_first (p x) (list_any p es) (ap p (same_Some x e q) ∙ t)
entry_any p (x ∷ es) (suc i) e q t = or_second (p x) (list_any p es) (entry_any p es i e q t)

-- those with a value have this one or another
count_parts : (f : ℕ → Option (List ℕ)) (v : List ℕ) (ks : List ℕ) → count_by (λ k. is_some (f k)) ks ≡ count_by (λ k. is_value v (f k)) ks + count_by (λ k. has_other v (f k)) ks
count_parts f v [] = refl
count_parts f v (k ∷ ks) = go (count_parts f v ks) (f k) refl
  where
    go : count_by (λ k. is_some (f k)) ks ≡ count_by (λ k. is_value v (f k)) ks + count_by (λ k. has_other v (f k)) ks → (o : Option (List ℕ)) → f k ≡ o
        → count_by (λ k. is_some (f k)) (k ∷ ks) ≡ count_by (λ k. is_value v (f k)) (k ∷ ks) + count_by (λ k. has_other v (f k)) (k ∷ ks)
    go ih None e =
        let a = count_no (λ k. is_some (f k)) k ks (ap is_some e) in
        let b = count_no (λ k. is_value v (f k)) k ks (ap (is_value v) e) in
        let c = count_no (λ k. has_other v (f k)) k ks (ap (has_other v) e) in
        omega (arith, ih, a, b, c)
    go ih (Some u) e =
        let a = count_yes (λ k. is_some (f k)) k ks (ap is_some e) in
        elim (cases_Bool (bytes_eq u v)) [
          | inl t ↦
              let b = count_yes (λ k. is_value v (f k)) k ks (ap (is_value v) e ∙ t) in
              let c = count_no (λ k. has_other v (f k)) k ks (ap (has_other v) e ∙ ap not t) in
              omega (arith, ih, a, b, c)
          | inr t ↦
              let b = count_no (λ k. is_value v (f k)) k ks (ap (is_value v) e ∙ t) in
              let c = count_yes (λ k. has_other v (f k)) k ks (ap (has_other v) e ∙ ap not t) in
              omega (arith, ih, a, b, c)
        ]

all_same : (a b o : ℕ) → a ≡ b + o → (b == a) ≡ (o == 0)
all_same a b o e =
    elim (cases_eq o 0) [
      | inl z ↦ eq-eqb b a (omega (arith, e, z)) ∙ sym (eq-eqb o 0 z)
      | inr z ↦ ne_eqb b a (λ x. z (omega (arith, e, x))) ∙ sym (ne_eqb o 0 z)
    ]

module _ (n support : ℕ) (init vect : ℕ → Option (List ℕ)) (small : n ≤ 31) (some : 1 ≤ support) (t : Table) (is : IsTable n support init vect t) where
  abbrev g : ℕ → Option (List ℕ)
  g k = valid_value n support init (vect k)

  g_inside : (k : ℕ) → n ≤ k → valid_value n support init (vect k) ≡ None
  g_inside k l = ap (λ (o : Option (List ℕ)). valid_value n support init o) (is.vects_inside k l)

  backs_are : (i : ℕ) (e : Entry) → slice_get t.entries.items i ≡ Some e → (k : ℕ) → has_member e.backs k ≡ is_value e.value (valid_value n support init (vect k))
  backs_are i e q k = (is.entries.each i e q).backs k ∙ valid_is n support init e.value (vect k)

  all_valid : (v : List ℕ) (k : ℕ) → is_value v (valid_value n support init (vect k)) ≡ true → HasEntry t.entries.items v
  all_valid v k e = is.entries.claims v k (claimed_weaker v (passes n support init v) (vect k) (valid_is n support init v (vect k) ∙ e))

  pub common_is : (r : Option ℕ) → LeastTo (has_enough_backers t.support false) t.entries.items (length t.entries.items) r → ValueOf t.entries.items r (least_with n support init)
  common_is r h =
      value_of_least n support small some init is.inits_inside t.entries.items (λ e. e.inits) (λ i e q. (is.entries.each i e q).inits) is.entries.proposed r
      (subst (λ (s : ℕ). LeastTo (has_enough_backers s false) t.entries.items (length t.entries.items) r) is.support_is h)

  pub supported_is : (r : Option ℕ) → LeastTo (has_enough_backers t.support true) t.entries.items (length t.entries.items) r
      → ValueOf t.entries.items r (least_with n support (λ k. valid_value n support init (vect k)))
  supported_is r h =
      value_of_least n support small some g g_inside t.entries.items (λ e. e.backs) backs_are all_valid r
      (subst (λ (s : ℕ). LeastTo (has_enough_backers s true) t.entries.items (length t.entries.items) r) is.support_is h)

  abbrev clear : List ℕ → Bool
  clear v = nat_le support (count_by (λ k. is_value v (g k)) (replicas n)) && (count_by (λ k. has_other v (g k)) (replicas n) == 0)

  clear_is : (i : ℕ) (e : Entry) → slice_get t.entries.items i ≡ Some e → is_clear t.support t.valued e ≡ clear e.value
  clear_is i e q =
      let backs = count_of_set e.backs n (λ k. is_value e.value (g k)) small (backs_are i e q) (λ k l. ap (is_value e.value) (g_inside k l)) in
      let valued = count_of_set t.valued n (λ k. is_some (g k)) small (λ k. is.valued k ∙ some_is n support init (vect k)) (λ k l. ap is_some (g_inside k l)) in
      ap₂ (λ (s c : ℕ). nat_le s c && (c == member_count 32 t.valued)) is.support_is backs
      ∙ (ap (λ (c : ℕ). nat_le support (count_by (λ k. is_value e.value (g k)) (replicas n)) && (count_by (λ k. is_value e.value (g k)) (replicas n) == c)) valued
      ∙ ap (λ (b : Bool). nat_le support (count_by (λ k. is_value e.value (g k)) (replicas n)) && b) (all_same _ _ _ (count_parts g e.value (replicas n))))

  pub any_clear_is : list_any (λ e. is_clear t.support t.valued e) t.entries.items ≡ one_clear n support (λ k. valid_value n support init (vect k))
  any_clear_is = bool_same _ _ there back
    where
      there : list_any (λ e. is_clear t.support t.valued e) t.entries.items ≡ true → list_any clear (listed g (replicas n)) ≡ true
      there x =
          let r = any_entry (λ e. is_clear t.support t.valued e) t.entries.items x in
          let c : clear r.1.value ≡ true = sym (clear_is r.0 r.1 r.2) ∙ r.3 in
          in_any clear (listed g (replicas n)) r.1.value
          (listed_here n support small some g g_inside t.entries.items (λ e. e.backs) backs_are all_valid r.1.value (and_parts _ _ c).0) c

      back : list_any clear (listed g (replicas n)) ≡ true → list_any (λ e. is_clear t.support t.valued e) t.entries.items ≡ true
      back x =
          let r = any_in clear (listed g (replicas n)) x in
          let o = listed_out g (replicas n) r.0 r.1 in
          let h = all_valid r.0 o.0 o.1 in
          entry_any (λ e. is_clear t.support t.valued e) t.entries.items h.0 h.1.0 h.1.1 (clear_is h.0 h.1.0 h.1.1 ∙ (ap clear h.1.2 ∙ r.2))

  pub proposals_are : member_count 32 t.inits ≡ count_by (λ k. is_some (init k)) (replicas n)
  proposals_are = count_of_set t.inits n (λ k. is_some (init k)) small is.inits (λ k l. ap is_some (is.inits_inside k l))

  pub valids_are : member_count 32 t.valids ≡ count_by (λ k. is_valid_vect n support init true (vect k)) (replicas n)
  valids_are = count_of_set t.valids n (λ k. is_valid_vect n support init true (vect k)) small is.valids (λ k l. ap (is_valid_vect n support init true) (is.vects_inside k l))
