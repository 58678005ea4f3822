-- What the table answers is what the words tell.
use Rattle.std.specs.Prelude.{◌≡◌, ℕ, ◌≤◌, ◌<◌, Bool, true, false, ◌==◌, ◌&&◌, ◌||◌, nat_le, List, [], ◌∷◌, count_by, drop, Option, Some, None, if◌then◌else◌, refl, is_some}
use Rattle.std.specs.List.{list_any}
use Rattle.std.specs.Option.{option_or, option_flatten}
use Rattle.std.proofs.Common.{sym, ◌∙◌, ap, ap₂}
use Rattle.std.proofs.lemmas.Bool.{both_ways, eqb-true, eq-eqb, false_from_ne_true}
use Rattle.ritas_base.specs.declared.slot.Slot.{Slot}
use Rattle.ritas_base.specs.Numbers.{support_of}
use Rattle.ritas_base.specs.SlotOrder.{is_slot, same_slot, slot_itself}
use Rattle.ritas_base.specs.Shortest.{option_or_none}
use Rattle.ritas_base.specs.Members.{has_member}
use Rattle.ritas_base.specs.History.{replicas, is_value}
use Rattle.ritas_base.specs.Quorums.{count_same}
use Rattle.frame_codec.specs.Values.{mask_of}
use Rattle.layer_api.specs.Words.{Word, Hear, value_at}
use Rattle.layer_api.specs.Multi.{Scope}
use Rattle.ritas_base.specs.Places.{push, listed}
use Rattle.multivalued.specs.Consensus.{lesser, least, init_slot, vect_slot, init, count_passing, common, vect_told, valid_of, valid, is_of, is_other, vect_backers, candidates, is_clear, supported}
use Rattle.multivalued.specs.Entries.{put, passes, claimed, is_valid_vect, IsEntry}
use Rattle.multivalued.specs.Tables.{IsTable, valid_value, least_with, has_other, one_clear, table_told_by, HearsProposal, HearsVect}
use Rattle.multivalued.specs.Known.{vect_of, IsKnown}
use Rattle.multivalued.specs.declared.entry.Entry.{Entry}
use Rattle.multivalued.specs.declared.table.Table.{Table}
use Rattle.multivalued.proofs.EntryLaws.{claimed_same}

-- ---- functions that agree

module _ (n support : ℕ) (init init' vect vect' : ℕ → Option (List ℕ)) (same : (k : ℕ) → init k ≡ init' k) (alike : (k : ℕ) → vect k ≡ vect' k) where
  pub passes_same : (v : List ℕ) (m : ℕ) → passes n support init v m ≡ passes n support init' v m
  passes_same v m = ap (nat_le support) (count_same (λ k. has_member m k && is_value v (init k)) (λ k. has_member m k && is_value v (init' k)) (λ k. ap (λ (o : Option (List ℕ)). has_member m k && is_value v o) (same k)) (replicas n))

  pub holds_same : (q : Bool) (o : Option (List ℕ)) → is_valid_vect n support init q o ≡ is_valid_vect n support init' q o
  holds_same q None = refl
  holds_same q (Some []) = refl
  holds_same q (Some (b ∷ bs)) = passes_same (drop 4 (b ∷ bs)) (mask_of (b ∷ bs))

  entry_same : (e : Entry) → IsEntry n support init vect e → IsEntry n support init' vect' e
  entry_same e is = record {
    inits = λ k. is.inits k ∙ ap (is_value e.value) (same k);
    claims = λ p k. is.claims p k ∙ ap (claimed e.value p) (alike k);
    backs = λ k. is.backs k ∙ (claimed_same e.value _ _ (passes_same e.value) (vect k) ∙ ap (claimed e.value (passes n support init' e.value)) (alike k));
  }

  pub table_same : (t : Table) → IsTable n support init vect t → IsTable n support init' vect' t
  table_same t is = record {
    support_is = is.support_is;
    inits_inside = λ k l. sym (same k) ∙ is.inits_inside k l;
    vects_inside = λ k l. sym (alike k) ∙ is.vects_inside k l;
    entries = record {
      each = λ i e q. entry_same e (is.entries.each i e q);
      apart = is.entries.apart;
      proposed = λ v k t. is.entries.proposed v k (ap (is_value v) (same k) ∙ t);
      claims = λ v k t. is.entries.claims v k (ap (claimed v (λ m. true)) (alike k) ∙ t);
    };
    inits = λ j. is.inits j ∙ ap is_some (same j);
    valids = λ j. is.valids j ∙ (holds_same true (vect j) ∙ ap (is_valid_vect n support init' true) (alike j));
    valued = λ j. is.valued j ∙ (holds_same false (vect j) ∙ ap (is_valid_vect n support init' false) (alike j));
  }

-- ---- a word is heard

-- at another slot
pub heard_other : (w : List Word) (s q : Slot) (v : List ℕ) → (s ≡ q → ⊥) → value_at (Hear s v ∷ w) q ≡ value_at w q
heard_other w s q v ne =
    ap (λ (b : Bool). option_or (value_at w q) (if b then Some v else None)) (false_from_ne_true (is_slot s q) (λ t. ne (same_slot s q t))) ∙ option_or_none (value_at w q)

pub heard_here : (w : List Word) (s : Slot) (v : List ℕ) → value_at w s ≡ None → value_at (Hear s v ∷ w) s ≡ Some v
heard_here w s v none = ap₂ (λ (o : Option (List ℕ)) (b : Bool). option_or o (if b then Some v else None)) none (slot_itself s)

module _ (at : Scope) (w : List Word) (k : ℕ) (v : List ℕ) where
  pub init_put : value_at w (init_slot at k) ≡ None → (j : ℕ) → put (init at w) k v j ≡ init at (Hear (init_slot at k) v ∷ w) j
  init_put none j = go (j == k) refl
    where
      go : (b : Bool) → (j == k) ≡ b → (if b then Some v else init at w j) ≡ init at (Hear (init_slot at k) v ∷ w) j
      go true e = sym (heard_here w (init_slot at k) v none) ∙ ap (λ (i : ℕ). init at (Hear (init_slot at k) v ∷ w) i) (sym (eqb-true j k e))
      go false e = sym (heard_other w (init_slot at k) (init_slot at j) v (λ s. both_ways (j == k) e (eq-eqb j k (sym (ap (λ (q : Slot). q.origin) s)))))

  pub vect_put : value_at w (vect_slot at k) ≡ None → (j : ℕ) → put (vect_of at w) k v j ≡ vect_of at (Hear (vect_slot at k) v ∷ w) j
  vect_put none j = go (j == k) refl
    where
      go : (b : Bool) → (j == k) ≡ b → (if b then Some v else vect_of at w j) ≡ vect_of at (Hear (vect_slot at k) v ∷ w) j
      go true e = sym (heard_here w (vect_slot at k) v none) ∙ ap (λ (i : ℕ). vect_of at (Hear (vect_slot at k) v ∷ w) i) (sym (eqb-true j k e))
      go false e = sym (heard_other w (vect_slot at k) (vect_slot at j) v (λ s. both_ways (j == k) e (eq-eqb j k (sym (ap (λ (q : Slot). q.origin) s)))))

  init_unheard : (j : ℕ) → vect_of at w j ≡ vect_of at (Hear (init_slot at k) v ∷ w) j
  init_unheard j = sym (heard_other w (init_slot at k) (vect_slot at j) v (λ s. classes (ap (λ (q : Slot). q.class) s)))
    where
      classes : ◌≡◌ {A = ℕ} 3 4 → ⊥
      classes e = cc

  vect_unheard : (j : ℕ) → init at w j ≡ init at (Hear (vect_slot at k) v ∷ w) j
  vect_unheard j = sym (heard_other w (vect_slot at k) (init_slot at j) v (λ s. classes (ap (λ (q : Slot). q.class) s)))
    where
      classes : ◌≡◌ {A = ℕ} 4 3 → ⊥
      classes e = cc

  -- the table after a proposal is heard
  pub known_init : (old new : Table) → at.numbers.n ≤ 31 → k < at.numbers.n → value_at w (init_slot at k) ≡ None → HearsProposal k v old new → IsKnown at w old
      → IsKnown at (Hear (init_slot at k) v ∷ w) new
  known_init old new small within none hears known =
      table_same at.numbers.n (support_of at.numbers) (put (init at w) k v) (init at (Hear (init_slot at k) v ∷ w)) (vect_of at w) (vect_of at (Hear (init_slot at k) v ∷ w)) (init_put none) init_unheard new
      (hears at.numbers.n (support_of at.numbers) (init at w) (vect_of at w) small within none known)

  -- and after a VECT is
  pub known_vect : (old new : Table) → at.numbers.n ≤ 31 → k < at.numbers.n → value_at w (vect_slot at k) ≡ None → HearsVect k v old new → IsKnown at w old
      → IsKnown at (Hear (vect_slot at k) v ∷ w) new
  known_vect old new small within none hears known =
      table_same at.numbers.n (support_of at.numbers) (init at w) (init at (Hear (vect_slot at k) v ∷ w)) (put (vect_of at w) k v) (vect_of at (Hear (vect_slot at k) v ∷ w)) vect_unheard (vect_put none) new
      (hears at.numbers.n (support_of at.numbers) (init at w) (vect_of at w) small within none known)

-- a step or a proposal of its own changes nothing
pub known_step : (at : Scope) (w : List Word) (s : Slot) (v : List ℕ) (t : Table) → s.class ≡ 5 → IsKnown at w t → IsKnown at (Hear s v ∷ w) t
known_step at w s v t five known =
    table_same at.numbers.n (support_of at.numbers) (init at w) (init at (Hear s v ∷ w)) (vect_of at w) (vect_of at (Hear s v ∷ w))
    (λ j. sym (heard_other w s (init_slot at j) v (λ e. no3 (sym five ∙ ap (λ (q : Slot). q.class) e)))) (λ j. sym (heard_other w s (vect_slot at j) v (λ e. no4 (sym five ∙ ap (λ (q : Slot). q.class) e)))) t known
  where
    no3 : ◌≡◌ {A = ℕ} 5 3 → ⊥
    no3 e = cc

    no4 : ◌≡◌ {A = ℕ} 5 4 → ⊥
    no4 e = cc

-- ---- answers

pub told_is : (at : Scope) (h : List Word) (o : Option (List ℕ)) → table_told_by at.numbers.n (init at h) o ≡ vect_told at h o
told_is at h None = refl
told_is at h (Some v) = refl

pub common_at : (at : Scope) (h : List Word) → least_with at.numbers.n (support_of at.numbers) (init at h) ≡ common at h
common_at at h = refl

module _ (at : Scope) (h : List Word) where
  abbrev got : ℕ → Option (List ℕ)
  got k = valid_value at.numbers.n (support_of at.numbers) (init at h) (vect_of at h k)

  valued_of : (o : Option (List ℕ)) → valid_value at.numbers.n (support_of at.numbers) (init at h) o ≡ option_flatten (valid_of at h o)
  valued_of None = refl
  valued_of (Some []) = refl
  valued_of (Some (b ∷ bs)) = go (passes at.numbers.n (support_of at.numbers) (init at h) (drop 4 (b ∷ bs)) (mask_of (b ∷ bs)))
    where
      go : (p : Bool) → (if p then Some (drop 4 (b ∷ bs)) else None) ≡ option_flatten (if p then Some (Some (drop 4 (b ∷ bs))) else None)
      go true = refl
      go false = refl

  holds_of : (o : Option (List ℕ)) → is_valid_vect at.numbers.n (support_of at.numbers) (init at h) true o ≡ is_some (valid_of at h o)
  holds_of None = refl
  holds_of (Some []) = refl
  holds_of (Some (b ∷ bs)) = go (passes at.numbers.n (support_of at.numbers) (init at h) (drop 4 (b ∷ bs)) (mask_of (b ∷ bs)))
    where
      go : (p : Bool) → p ≡ is_some (if p then Some (Some (drop 4 (b ∷ bs))) else None)
      go true = refl
      go false = refl

  of_valued : (v : List ℕ) (x : Option (Option (List ℕ))) → is_value v (option_flatten x) ≡ is_of v x
  of_valued v None = refl
  of_valued v (Some o) = refl

  other_valued : (v : List ℕ) (x : Option (Option (List ℕ))) → has_other v (option_flatten x) ≡ is_other v x
  other_valued v None = refl
  other_valued v (Some None) = refl
  other_valued v (Some (Some u)) = refl

  pub listed_same : (f g : ℕ → Option (List ℕ)) → ((k : ℕ) → f k ≡ g k) → (ks : List ℕ) → listed f ks ≡ listed g ks
  listed_same f g same [] = refl
  listed_same f g same (k ∷ ks) = ap₂ (λ (o : Option (List ℕ)) (vs : List (List ℕ)). push o vs) (same k) (listed_same f g same ks)

  any_same : (p q : List ℕ → Bool) → ((v : List ℕ) → p v ≡ q v) → (vs : List (List ℕ)) → list_any p vs ≡ list_any q vs
  any_same p q same [] = refl
  any_same p q same (v ∷ vs) = ap₂ (λ (a b : Bool). a || b) (same v) (any_same p q same vs)

  pub least_same : (p q : List ℕ → Bool) → ((v : List ℕ) → p v ≡ q v) → (vs : List (List ℕ)) → least p vs ≡ least q vs
  least_same p q same [] = refl
  least_same p q same (v ∷ vs) = ap₂ (λ (b : Bool) (o : Option (List ℕ)). if b then Some (lesser v o) else o) (same v) (least_same p q same vs)

  values : listed got (replicas at.numbers.n) ≡ candidates at h
  values = listed_same got (λ k. option_flatten (valid at h k)) (λ k. valued_of (vect_of at h k)) (replicas at.numbers.n)

  backers_are : (v : List ℕ) → count_by (λ k. is_value v (got k)) (replicas at.numbers.n) ≡ vect_backers at h v
  backers_are v = count_same (λ k. is_value v (got k)) (λ k. is_of v (valid at h k)) (λ k. ap (is_value v) (valued_of (vect_of at h k)) ∙ of_valued v (valid at h k)) (replicas at.numbers.n)

  others_are : (v : List ℕ) → count_by (λ k. has_other v (got k)) (replicas at.numbers.n) ≡ count_passing at (λ k. is_other v (valid at h k))
  others_are v = count_same (λ k. has_other v (got k)) (λ k. is_other v (valid at h k)) (λ k. ap (has_other v) (valued_of (vect_of at h k)) ∙ other_valued v (valid at h k)) (replicas at.numbers.n)

  pub clear_at : one_clear at.numbers.n (support_of at.numbers) (λ k. valid_value at.numbers.n (support_of at.numbers) (init at h) (vect_of at h k)) ≡ list_any (is_clear at h) (candidates at h)
  clear_at =
      any_same _ (is_clear at h) (λ v. ap₂ (λ (a b : ℕ). nat_le (support_of at.numbers) a && (b == 0)) (backers_are v) (others_are v)) (listed got (replicas at.numbers.n))
      ∙ ap (list_any (is_clear at h)) values

  pub supported_is : least_with at.numbers.n (support_of at.numbers) (λ k. valid_value at.numbers.n (support_of at.numbers) (init at h) (vect_of at h k)) ≡ supported at h
  supported_is =
      least_same _ (λ v. nat_le (support_of at.numbers) (vect_backers at h v)) (λ v. ap (nat_le (support_of at.numbers)) (backers_are v)) (listed got (replicas at.numbers.n))
      ∙ ap (least (λ v. nat_le (support_of at.numbers) (vect_backers at h v))) values

  pub valids_at : count_by (λ k. is_valid_vect at.numbers.n (support_of at.numbers) (init at h) true (vect_of at h k)) (replicas at.numbers.n) ≡ count_passing at (λ k. is_some (valid at h k))
  valids_at = count_same _ (λ k. is_some (valid at h k)) (λ k. holds_of (vect_of at h k)) (replicas at.numbers.n)
