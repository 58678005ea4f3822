-- The entry of a value is found or made.
use Rattle.std.specs.Prelude.{◌≡◌, ◌⊎◌, ℕ, zero, suc, nat_lt, ◌<◌, Bool, true, false, List, [], ◌∷◌, ◌++◌, Option, Some, None, refl, length, position}
use Rattle.std.specs.List.{slice_get, AllByRecursion, position_or_len}
use Rattle.std.specs.Str.{bytes_eq}
use Rattle.std.proofs.Common.{sym, ◌∙◌, ap, subst, inl, inr, arith, get_or}
use Rattle.std.proofs.lemmas.List.Sums.{fails_before_first}
use Rattle.std.proofs.lemmas.List.Elements.{recursion_from_All}
use Rattle.std.proofs.lemmas.Option.{none-some, same_Some, slice_get-get_or}
use Rattle.std.proofs.lemmas.Bool.{ltb-false, both_ways, false_from_ne_true, cond-true}
use Rattle.std.proofs.lemmas.Slice.Eq.{bytes_eq-Decides}
use Rattle.std.proofs.lemmas.List.Quantifiers.{position-Some}
use Rattle.ritas_base.specs.Members.{has_member}
use Rattle.ritas_base.specs.History.{is_value}
use Rattle.multivalued.specs.Entries.{has_claim, passes, claimed, IsEntry, AreEntries, HasEntry, HasEntryPlace}
use Rattle.multivalued.specs.declared.entry.Entry.{Entry}
use Rattle.multivalued.proofs.EntryLaws.{claimed_weaker}

-- what is no place is none
pub is_none : (o : Option ℕ) → ((x : ℕ) → o ≡ Some x → ⊥) → o ≡ None
is_none None f = refl
is_none (Some x) f = absurd (f x refl)

-- no entry is of the value
abbrev pub IsNew : List ℕ → List Entry → Type 0
IsNew v es = (i : ℕ) (e : Entry) → slice_get es i ≡ Some e → e.value ≡ v → ⊥

pub found : (es : List Entry) (v : List ℕ) (i : ℕ) (e : Entry) → slice_get es i ≡ Some e → i < length es → bytes_eq e.value v ≡ true → HasEntryPlace v i es es
found es v i e is l t = record {
  here = (e, is, (bytes_eq-Decides e.value v).0 t);
  within = l;
  keeps = λ j d q. (d, q, refl);
  grows = λ n support init vect a. a;
}

push_old : (es : List Entry) (x : Entry) (i : ℕ) (e : Entry) → slice_get es i ≡ Some e → slice_get (es ++ x ∷ []) i ≡ Some e
push_old [] x i e q = absurd (no i q)
  where
    no : (i : ℕ) → slice_get [] i ≡ Some e → ⊥
    no i q = cc
push_old (d ∷ es) x zero e q = q
push_old (d ∷ es) x (suc i) e q = push_old es x i e q

push_last : (es : List Entry) (x : Entry) → slice_get (es ++ x ∷ []) (length es) ≡ Some x
push_last [] x = refl
push_last (d ∷ es) x = push_last es x

push_is : (es : List Entry) (x : Entry) (i : ℕ) (e : Entry) → slice_get (es ++ x ∷ []) i ≡ Some e → (slice_get es i ≡ Some e) ⊎ ((i ≡ length es) × (x ≡ e))
push_is [] x zero e q = inr (refl, same_Some x e q)
push_is [] x (suc i) e q = absurd cc
push_is (d ∷ es) x zero e q = inl q
push_is (d ∷ es) x (suc i) e q =
    elim (push_is es x i e q) [
      | inl a ↦ inl a
      | inr b ↦ inr (let m = b.0 in omega (arith, m), b.1)
    ]

push_length : (es : List Entry) (x : Entry) → length es < length (es ++ x ∷ [])
push_length [] x = omega arith
push_length (d ∷ es) x = let m = push_length es x in omega (arith, m)

pub made : (es : List Entry) (x : Entry) (v : List ℕ) → x.value ≡ v → ((j : ℕ) → has_member x.inits j ≡ false) → x.claims.items ≡ [] → ((j : ℕ) → has_member x.backs j ≡ false) → IsNew v es
    → HasEntryPlace v (length es) es (es ++ x ∷ [])
made es x v value inits claims backs fresh = record {
  here = (x, push_last es x, value);
  within = push_length es x;
  keeps = λ j e q. (e, push_old es x j e q, refl);
  grows = grows;
}
  where
    grows : (n support : ℕ) (init vect : ℕ → Option (List ℕ)) → AreEntries n support init vect es → AreEntries n support init vect (es ++ x ∷ [])
    grows n support init vect a = record {
      each = λ i e q. elim (push_is es x i e q) [ inl o ↦ a.each i e o | inr m ↦ subst (λ (y : Entry). IsEntry n support init vect y) m.1 one ];
      apart = apart;
      proposed = λ u k t. older u (a.proposed u k t);
      claims = λ u k t. older u (a.claims u k t);
    }
      where
        older : (u : List ℕ) → HasEntry es u → HasEntry (es ++ x ∷ []) u
        older u h = (h.0, (h.1.0, push_old es x h.0 h.1.0 h.1.1, h.1.2))

        unproposed : (j : ℕ) → is_value v (init j) ≡ false
        unproposed j = false_from_ne_true (is_value v (init j)) (λ t. let h = a.proposed v j t in fresh h.0 h.1.0 h.1.1 h.1.2)

        unclaimed : (p : ℕ → Bool) (j : ℕ) → claimed v p (vect j) ≡ false
        unclaimed p j = false_from_ne_true (claimed v p (vect j)) (λ t. let h = a.claims v j (claimed_weaker v p (vect j) t) in fresh h.0 h.1.0 h.1.1 h.1.2)

        one : IsEntry n support init vect x
        one = record {
          inits = λ j. inits j ∙ sym (ap (λ (u : List ℕ). is_value u (init j)) value ∙ unproposed j);
          claims = λ p j. ap (λ cs. has_claim p j cs) claims ∙ sym (ap (λ (u : List ℕ). claimed u p (vect j)) value ∙ unclaimed p j);
          backs = λ j. backs j ∙ sym (ap (λ (u : List ℕ). claimed u (passes n support init u) (vect j)) value ∙ unclaimed (passes n support init v) j);
        }

        apart : (i j : ℕ) (d e : Entry) → slice_get (es ++ x ∷ []) i ≡ Some d → slice_get (es ++ x ∷ []) j ≡ Some e → d.value ≡ e.value → i ≡ j
        apart i j d e q r same =
            elim (push_is es x i d q) [
              | inl o ↦ elim (push_is es x j e r) [
                | inl p ↦ a.apart i j d e o p same
                | inr p ↦ absurd (fresh i d o (same ∙ (ap (λ (y : Entry). y.value) (sym p.1) ∙ value)))
              ]
              | inr o ↦ elim (push_is es x j e r) [
                | inl p ↦ absurd (fresh j e p (sym same ∙ (ap (λ (y : Entry). y.value) (sym o.1) ∙ value)))
                | inr p ↦ o.0 ∙ sym p.0
              ]
            ]

-- where it is not found it is new
pub new_value : (es : List Entry) (v : List ℕ) → AllByRecursion (λ e. bytes_eq e.value v ≡ false) es → IsNew v es
new_value [] v all i e q same = absurd (no i q)
  where
    no : (i : ℕ) → slice_get [] i ≡ Some e → ⊥
    no i q = cc
new_value (d ∷ es) v all zero e q same = both_ways (bytes_eq e.value v) (ap (λ (x : Entry). bytes_eq x.value v) (sym (same_Some d e q)) ∙ all.0) ((bytes_eq-Decides e.value v).1 same)
new_value (d ∷ es) v all (suc i) e q same = new_value es v all.1 i e q same

pub none_found : (es : List Entry) (v : List ℕ) → position (λ e. bytes_eq e.value v) es ≡ None → IsNew v es
none_found es v e =
    let test : Entry → Bool = λ b. bytes_eq b.value v in
    let past : nat_lt (position_or_len test es) (length es) ≡ false =
    false_from_ne_true (nat_lt (position_or_len test es) (length es)) (λ t. none-some (position_or_len test es) (sym e ∙ cond-true (nat_lt (position_or_len test es) (length es)) (Some (position_or_len test es)) None t)) in
    let all = ltb-false (position_or_len test es) (length es) past in
    new_value es v (recursion_from_All (λ b. bytes_eq b.value v ≡ false) es (λ k d lt. let before : k < position_or_len test es = omega (arith, lt, all) in fails_before_first test es k d before))

some_at : (es : List Entry) (v : List ℕ) (i : ℕ) → position (λ e. bytes_eq e.value v) es ≡ Some i → (d : Entry) → HasEntryPlace v i es es
some_at es v i e d =
    let p = position-Some (λ (x : Entry). bytes_eq x.value v) es i d e in
    found es v i (get_or es i d) (slice_get-get_or es i d p.0) p.0 p.1

a_member : (es : List Entry) (v : List ℕ) (i : ℕ) → position (λ e. bytes_eq e.value v) es ≡ Some i → Entry
a_member [] v i e = absurd cc
a_member (d ∷ es) v i e = d

pub place_found : (es : List Entry) (v : List ℕ) (i : ℕ) → position (λ e. bytes_eq e.value v) es ≡ Some i → HasEntryPlace v i es es
place_found es v i e = some_at es v i e (a_member es v i e)
