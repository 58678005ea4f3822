-- How an INIT or a VECT changes what the entries tell.
use Rattle.std.specs.Prelude.{◌≡◌, ◌⊎◌, ℕ, ◌≤◌, ◌<◌, Bool, true, false, ◌&&◌, ◌||◌, ◌==◌, nat_le, List, [], ◌∷◌, drop, Option, Some, None, if◌then◌else◌, refl}
use Rattle.std.specs.List.{range_with_len}
use Rattle.std.specs.Str.{bytes_eq}
use Rattle.std.proofs.Math.Bool.{and-false, or-false, or-true}
use Rattle.std.proofs.Common.{sym, ◌∙◌, ap, ap₂, inl, inr, arith}
use Rattle.std.proofs.lemmas.Bool.{and_parts, cases_Bool, both_ways, eqb-true, false_from_ne_true, leb-true, le-leb}
use Rattle.std.proofs.lemmas.Slice.Eq.{bytes_eq-Decides}
use Rattle.ritas_base.specs.Members.{has_member}
use Rattle.ritas_base.specs.History.{replicas, is_value}
use Rattle.ritas_base.specs.Quorums.{count_same, count_more}
use Rattle.frame_codec.specs.Values.{mask_of}
use Rattle.multivalued.specs.Places.{are_places_backed, count_all}
use Rattle.multivalued.specs.Entries.{has_claim, Proposed, Claims, put, passes, claimed, is_valid_vect, IsEntry}
use Rattle.multivalued.specs.declared.entry.Entry.{Entry}

pub same_value : (v : List ℕ) → bytes_eq v v ≡ true
same_value v = (bytes_eq-Decides v v).1 refl

pub other_value : (u v : List ℕ) → (u ≡ v → ⊥) → bytes_eq u v ≡ false
other_value u v ne = false_from_ne_true (bytes_eq u v) (λ t. ne ((bytes_eq-Decides u v).0 t))

-- ---- VECTs

pub claimed_same : (v : List ℕ) (p q : ℕ → Bool) → ((m : ℕ) → p m ≡ q m) → (o : Option (List ℕ)) → claimed v p o ≡ claimed v q o
claimed_same v p q same None = refl
claimed_same v p q same (Some []) = refl
claimed_same v p q same (Some (b ∷ bs)) = ap (λ (x : Bool). bytes_eq (drop 4 (b ∷ bs)) v && x) (same (mask_of (b ∷ bs)))

-- whose VECT has the value, and its places pass, has it
pub claimed_weaker : (v : List ℕ) (p : ℕ → Bool) (o : Option (List ℕ)) → claimed v p o ≡ true → claimed v (λ m. true) o ≡ true
claimed_weaker v p None t = absurd cc
claimed_weaker v p (Some []) t = absurd cc
claimed_weaker v p (Some (b ∷ bs)) t = ap (λ (x : Bool). x && true) (and_parts (bytes_eq (drop 4 (b ∷ bs)) v) (p (mask_of (b ∷ bs))) t).0

or_more : (t a b : Bool) → (a ≡ true → b ≡ true) → ((t && a) || (t && b)) ≡ (t && b)
or_more false a b m = refl
or_more true false b m = refl
or_more true true b m = sym (m refl)

claimed_more : (v : List ℕ) (p q : ℕ → Bool) → ((m : ℕ) → p m ≡ true → q m ≡ true) → (o : Option (List ℕ)) → (claimed v p o || claimed v q o) ≡ claimed v q o
claimed_more v p q more None = refl
claimed_more v p q more (Some []) = refl
claimed_more v p q more (Some (b ∷ bs)) = or_more (bytes_eq (drop 4 (b ∷ bs)) v) (p (mask_of (b ∷ bs))) (q (mask_of (b ∷ bs))) (more (mask_of (b ∷ bs)))

module _ (n support : ℕ) (small : n ≤ 31) (init vect : ℕ → Option (List ℕ)) (inside : (k : ℕ) → n ≤ k → init k ≡ None) where
  -- by the set of those who proposed
  pub passes_is : (v : List ℕ) (inits : ℕ) → ((k : ℕ) → has_member inits k ≡ is_value v (init k)) → (m : ℕ) → are_places_backed support m inits ≡ passes n support init v m
  passes_is v inits same m =
      ap (nat_le support) (count_same (λ k. has_member m k && has_member inits k) (λ k. has_member m k && is_value v (init k)) (λ k. ap (λ (b : Bool). has_member m k && b) (same k)) (range_with_len 0 32)
      ∙ count_all (λ k. has_member m k && is_value v (init k)) n small (λ k le. ap (λ (o : Option (List ℕ)). has_member m k && is_value v o) (inside k le) ∙ and-false (has_member m k)))

-- ---- a proposal

module _ (n support : ℕ) (small : n ≤ 31) (init vect : ℕ → Option (List ℕ)) (inside : (k : ℕ) → n ≤ k → init k ≡ None)
    (k : ℕ) (v : List ℕ) (within : k < n) (nothing : init k ≡ None) where
  pub inside_put : (j : ℕ) → n ≤ j → put init k v j ≡ None
  inside_put j le = ap (λ (b : Bool). if b then Some v else init j) (false_from_ne_true (j == k) (λ t. let e = eqb-true j k t in absurd (omega (arith, e, le, within)))) ∙ inside j le

  -- who has another value is as before
  pub value_other : (u : List ℕ) → (u ≡ v → ⊥) → (j : ℕ) → is_value u (put init k v j) ≡ is_value u (init j)
  value_other u ne j = go (j == k) refl
    where
      go : (b : Bool) → (j == k) ≡ b → is_value u (if b then Some v else init j) ≡ is_value u (init j)
      go false e = refl
      go true e = other_value v u (λ z. ne (sym z)) ∙ sym (ap (λ (x : ℕ). is_value u (init x)) (eqb-true j k e) ∙ ap (is_value u) nothing)

  pub value_same : (j : ℕ) → is_value v (put init k v j) ≡ (is_value v (init j) || (j == k))
  value_same j = go (j == k) refl
    where
      go : (b : Bool) → (j == k) ≡ b → is_value v (if b then Some v else init j) ≡ (is_value v (init j) || b)
      go false e = sym (or-false (is_value v (init j)))
      go true e = same_value v ∙ sym (or-true (is_value v (init j)))

  pub passes_other : (u : List ℕ) → (u ≡ v → ⊥) → (m : ℕ) → passes n support (put init k v) u m ≡ passes n support init u m
  passes_other u ne m =
      ap (nat_le support) (count_same (λ j. has_member m j && is_value u (put init k v j)) (λ j. has_member m j && is_value u (init j))
      (λ j. ap (λ (b : Bool). has_member m j && b) (value_other u ne j)) (replicas n))

  pub passes_more : (m : ℕ) → passes n support init v m ≡ true → passes n support (put init k v) v m ≡ true
  passes_more m e =
      let more = count_more (λ j. has_member m j && is_value v (init j)) (λ j. has_member m j && is_value v (put init k v j)) still (replicas n) in
      let l = leb-true support _ e in
      le-leb support _ (omega (arith, l, more))
    where
      still : (j : ℕ) → (has_member m j && is_value v (init j)) ≡ true → (has_member m j && is_value v (put init k v j)) ≡ true
      still j t = go (has_member m j) (is_value v (init j)) (is_value v (put init k v j)) (value_same j) t
        where
          go : (a b c : Bool) → c ≡ (b || (j == k)) → (a && b) ≡ true → (a && c) ≡ true
          go true true c e t = e
          go true false c e t = absurd cc
          go false b c e t = absurd cc

  pub entry_other : (d : Entry) → (d.value ≡ v → ⊥) → IsEntry n support init vect d → IsEntry n support (put init k v) vect d
  entry_other d ne is = record {
    inits = λ j. is.inits j ∙ sym (value_other d.value ne j);
    claims = is.claims;
    backs = λ j. is.backs j ∙ claimed_same d.value _ _ (λ m. sym (passes_other d.value ne m)) (vect j);
  }

  pub entry_proposed : (who : ℕ) (old new : Entry) → ((j : ℕ) → has_member who j ≡ (j == k)) → old.value ≡ v → IsEntry n support init vect old → Proposed support who old new
      → IsEntry n support (put init k v) vect new
  entry_proposed who old new one value is p =
      let new_value : new.value ≡ v = p.value ∙ value in
      let inits : (j : ℕ) → has_member new.inits j ≡ is_value v (put init k v j) =
      λ j. p.inits j ∙ (ap₂ (λ (a b : Bool). a || b) (is.inits j ∙ ap (λ (u : List ℕ). is_value u (init j)) value) (one j) ∙ sym (value_same j)) in
      record {
        inits = λ j. inits j ∙ ap (λ (u : List ℕ). is_value u (put init k v j)) (sym new_value);
        claims = λ q j. ap (λ cs. has_claim q j cs.items) p.claims ∙ (is.claims q j ∙ ap (λ (u : List ℕ). claimed u q (vect j)) (sym p.value));
        backs = λ j.
            p.backs j
            ∙ (ap₂ (λ (a b : Bool). a || b)
            (is.backs j ∙ ap (λ (u : List ℕ). claimed u (passes n support init u) (vect j)) value)
            (is.claims (λ places. are_places_backed support places new.inits) j
            ∙ (ap (λ (u : List ℕ). claimed u (λ places. are_places_backed support places new.inits) (vect j)) value
            ∙ claimed_same v _ _ (passes_is n support small (put init k v) vect inside_put v new.inits inits) (vect j)))
            ∙ (claimed_more v (passes n support init v) (passes n support (put init k v) v) passes_more (vect j)
            ∙ ap (λ (u : List ℕ). claimed u (passes n support (put init k v) u) (vect j)) (sym new_value)));
      }

  -- what was valid is, and so are those that the value's new place makes so
  pub holds_more : (q : Bool) (o : Option (List ℕ)) → is_valid_vect n support (put init k v) q o ≡ (is_valid_vect n support init q o || claimed v (passes n support (put init k v) v) o)
  holds_more q None = refl
  holds_more q (Some []) = sym (or-false q)
  holds_more q (Some (b ∷ bs)) = go (drop 4 (b ∷ bs)) (mask_of (b ∷ bs)) (cases_Bool (bytes_eq (drop 4 (b ∷ bs)) v))
    where
      by_more : (a b : Bool) → (a ≡ true → b ≡ true) → b ≡ (a || b)
      by_more true b m = m refl
      by_more false b m = refl

      go : (u : List ℕ) (m : ℕ) → (bytes_eq u v ≡ true) ⊎ (bytes_eq u v ≡ false)
          → passes n support (put init k v) u m ≡ (passes n support init u m || (bytes_eq u v && passes n support (put init k v) v m))
      go u m (inl t) =
          let e = (bytes_eq-Decides u v).0 t in
          ap (λ (x : List ℕ). passes n support (put init k v) x m) e
          ∙ (by_more _ _ (passes_more m) ∙ ap₂ (λ (a b : Bool). a || b) (ap (λ (x : List ℕ). passes n support init x m) (sym e)) (ap (λ (x : Bool). x && passes n support (put init k v) v m) (sym t)))
      go u m (inr f) =
          passes_other u (λ z. both_ways (bytes_eq u v) f ((bytes_eq-Decides u v).1 z)) m
          ∙ (sym (or-false (passes n support init u m)) ∙ ap (λ (x : Bool). passes n support init u m || (x && passes n support (put init k v) v m)) (sym f))

-- ---- a VECT

module _ (n support : ℕ) (small : n ≤ 31) (init vect : ℕ → Option (List ℕ)) (inside : (k : ℕ) → n ≤ k → init k ≡ None)
    (k : ℕ) (x : List ℕ) (nothing : vect k ≡ None) where
  pub claimed_put : (v : List ℕ) (p : ℕ → Bool) (j : ℕ) → claimed v p (put vect k x j) ≡ (claimed v p (vect j) || ((j == k) && claimed v p (Some x)))
  claimed_put v p j = go (j == k) refl
    where
      go : (b : Bool) → (j == k) ≡ b → claimed v p (if b then Some x else vect j) ≡ (claimed v p (vect j) || (b && claimed v p (Some x)))
      go false e = sym (or-false (claimed v p (vect j)))
      go true e = ap (λ (b : Bool). b || claimed v p (Some x)) (sym (ap (λ (i : ℕ). claimed v p (vect i)) (eqb-true j k e) ∙ ap (claimed v p) nothing))

  pub holds_put : (q : Bool) (j : ℕ) → is_valid_vect n support init q (put vect k x j) ≡ (is_valid_vect n support init q (vect j) || ((j == k) && is_valid_vect n support init q (Some x)))
  holds_put q j = go (j == k) refl
    where
      go : (b : Bool) → (j == k) ≡ b → is_valid_vect n support init q (if b then Some x else vect j) ≡ (is_valid_vect n support init q (vect j) || (b && is_valid_vect n support init q (Some x)))
      go false e = sym (or-false (is_valid_vect n support init q (vect j)))
      go true e = ap (λ (b : Bool). b || is_valid_vect n support init q (Some x)) (sym (ap (λ (i : ℕ). is_valid_vect n support init q (vect i)) (eqb-true j k e) ∙ ap (is_valid_vect n support init q) nothing))

  -- an entry of another value
  pub entry_unclaimed : (d : Entry) → ((p : ℕ → Bool) → claimed d.value p (Some x) ≡ false) → IsEntry n support init vect d → IsEntry n support init (put vect k x) d
  entry_unclaimed d none is = record {
    inits = is.inits;
    claims = λ p j. is.claims p j ∙ still p j;
    backs = λ j. is.backs j ∙ still (passes n support init d.value) j;
  }
    where
      still : (p : ℕ → Bool) (j : ℕ) → claimed d.value p (vect j) ≡ claimed d.value p (put vect k x j)
      still p j = sym (claimed_put d.value p j ∙ (ap (λ (b : Bool). claimed d.value p (vect j) || ((j == k) && b)) (none p) ∙ (ap (λ (b : Bool). claimed d.value p (vect j) || b) (and-false (j == k)) ∙ or-false (claimed d.value p (vect j)))))

  pub entry_claimed : (who places : ℕ) (old new : Entry) → ((j : ℕ) → has_member who j ≡ (j == k)) → ((p : ℕ → Bool) → claimed old.value p (Some x) ≡ p places)
      → IsEntry n support init vect old → Claims support who places old new → IsEntry n support init (put vect k x) new
  entry_claimed who places old new one here is c = record {
    inits = λ j. ap (λ (m : ℕ). has_member m j) c.inits ∙ (is.inits j ∙ ap (λ (u : List ℕ). is_value u (init j)) (sym c.value));
    claims = λ p j. c.claims p j ∙ (ap₂ (λ (a b : Bool). a || b) (is.claims p j) (ap₂ (λ (a b : Bool). a && b) (one j) (sym (here p))) ∙ (sym (claimed_put old.value p j) ∙ ap (λ (u : List ℕ). claimed u p (put vect k x j)) (sym c.value)));
    backs = λ j.
        c.backs j
        ∙ (ap₂ (λ (a b : Bool). a || b) (is.backs j)
        (ap₂ (λ (a b : Bool). a && b) (one j) (passes_is n support small init vect inside old.value old.inits is.inits places ∙ sym (here (passes n support init old.value))))
        ∙ (sym (claimed_put old.value (passes n support init old.value) j) ∙ ap (λ (u : List ℕ). claimed u (passes n support init u) (put vect k x j)) (sym c.value)));
  }
