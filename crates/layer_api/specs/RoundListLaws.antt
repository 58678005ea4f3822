-- The proposals of a round that are there, and what a word does to them.
use Rattle.std.specs.Prelude.{◌≡◌, ℕ, Bool, true, false, ◌==◌, nat_le, if◌then◌else◌, List, [], ◌∷◌, map, length, count_by, Option, Some, None, is_some, refl}
use Rattle.std.specs.List.{AllByRecursion}
use Rattle.std.specs.Option.{option_or}
use Rattle.std.proofs.Common.{sym, ◌∙◌, ap, ap₂, subst, inl, inr, arith}
use Rattle.std.proofs.lemmas.Bool.{and_parts, both_ways, cases_Bool, eqb-true, eq-eqb}
use Rattle.ritas_base.specs.declared.slot.Slot.{Slot}
use Rattle.ritas_base.specs.Numbers.{Numbers}
use Rattle.ritas_base.specs.History.{replicas}
use Rattle.ritas_base.specs.Quorums.{map_same, count_yes, count_no}
use Rattle.ritas_base.specs.Shortest.{option_or_none}
use Rattle.ritas_base.specs.Slots.{within, has_count}
use Rattle.ritas_base.specs.SlotOrder.{is_slot, same_slot, slot_itself}
use Rattle.frame_codec.specs.Grammar.{class2, value}
use Rattle.frame_codec.specs.Values.{is_passed}
use Rattle.layer_api.specs.Words.{Word, Hear, value_at}
use Rattle.layer_api.specs.Multi.{Scope}
use Rattle.layer_api.specs.Vectors.{is_slot_in}
use Rattle.layer_api.specs.RoundLists.{prop_slot, props, present}

-- as many entries as places
pub present_length : (os : List (Option (List ℕ))) → length (present os) ≡ count_by is_some os
present_length [] = refl
present_length (None ∷ os) = present_length os ∙ sym (count_no is_some None os refl)
present_length (Some v ∷ os) = let e = count_yes is_some (Some v) os refl in let ih = present_length os in omega (arith, e, ih)

-- each entry was proposed
pub present_all : (P : List ℕ → Type 0) (f : ℕ → Option (List ℕ)) → ((k : ℕ) (v : List ℕ) → f k ≡ Some v → P v) → (ks : List ℕ) → AllByRecursion P (present (map f ks))
present_all P f all [] = tt
present_all P f all (k ∷ ks) = go (f k) refl (present_all P f all ks)
  where
    go : (o : Option (List ℕ)) → f k ≡ o → AllByRecursion P (present (map f ks)) → AllByRecursion P (present (o ∷ map f ks))
    go None e rest = rest
    go (Some v) e rest = (all k v e, rest)

-- as many of them pass a test as replicas have one that does
pub present_counted : (test : List ℕ → Bool) (f : ℕ → Option (List ℕ)) (ks : List ℕ)
    → count_by test (present (map f ks)) ≡ count_by (λ k. is_passed test (f k)) ks
present_counted test f [] = refl
present_counted test f (k ∷ ks) = go (f k) refl (present_counted test f ks)
  where
    mine : ℕ → Bool
    mine j = is_passed test (f j)

    go : (o : Option (List ℕ)) → f k ≡ o → count_by test (present (map f ks)) ≡ count_by mine ks → count_by test (present (o ∷ map f ks)) ≡ count_by mine (k ∷ ks)
    go None e ih = ih ∙ sym (count_no mine k ks (passes e))
      where
        passes : f k ≡ None → mine k ≡ false
        passes e = rw e refl
    go (Some v) e ih = by_test (test v) refl
      where
        by_test : (b : Bool) → test v ≡ b → count_by test (v ∷ present (map f ks)) ≡ count_by mine (k ∷ ks)
        by_test true t = let a = count_yes test v (present (map f ks)) t in let c = count_yes mine k ks (rw e t) in omega (arith, a, c, ih)
        by_test false t = let a = count_no test v (present (map f ks)) t in let c = count_no mine k ks (rw e t) in omega (arith, a, c, ih)

-- the value of a proposal's slot is of class 2
pub prop_value : (p : Numbers) (root : ℕ) (at : Scope) (k : ℕ) → value p root (prop_slot at k) ≡ class2 p root
unfolding value
prop_value p root at k = refl

-- ---- the slot of a proposal

-- a slot of class 2 of a round is that of a proposal
pub prop_slot_is : (f : ℕ) (at : Scope) (s : Slot) → is_slot_in f at.a s ≡ true → s.class ≡ 2 → s ≡ prop_slot at s.origin
prop_slot_is f at s e two =
    let x = and_parts (within 2 5 s.class) _ e in
    let y = and_parts (s.a == at.a) _ x.1 in
    let z = and_parts (if s.class == 2 then s.attempt == 0 else nat_le s.attempt f) _ y.1 in
    let u = and_parts (has_count 200 s.class s.bround) _ z.1 in
    let attempt : (s.attempt == 0) ≡ true =
    subst (λ (k : ℕ). (if k == 2 then s.attempt == 0 else nat_le s.attempt f) ≡ true) two z.0 in
    let bround : (s.bround == 0) ≡ true = subst (λ (k : ℕ). has_count 200 k s.bround ≡ true) two u.0 in
    let step : (s.step == 0) ≡ true = subst (λ (k : ℕ). has_count 3 k s.step ≡ true) two u.1 in
    fields two (eqb-true s.a at.a y.0) (eqb-true s.attempt 0 attempt) (eqb-true s.bround 0 bround) (eqb-true s.step 0 step)
  where
    fields : s.class ≡ 2 → s.a ≡ at.a → s.attempt ≡ 0 → s.bround ≡ 0 → s.step ≡ 0 → s ≡ prop_slot at s.origin
    fields c a t b p = rw (c, a, t, b, p) refl

-- ---- what a word does to the proposals

module _ (at : Scope) (w : List Word) where
  -- what is at another slot stays
  off_value : (s q : Slot) (v : List ℕ) → is_slot s q ≡ false → value_at (Hear s v ∷ w) q ≡ value_at w q
  off_value s q v off =
      ap (λ (b : Bool). option_or (value_at w q) (if b then Some v else None)) off ∙ option_or_none (value_at w q)

  -- by a slot that isn't of a proposal, the proposals stay
  pub same_value : (s : Slot) (v : List ℕ) → (s.class == 2) ≡ false → (k : ℕ)
      → value_at (Hear s v ∷ w) (prop_slot at k) ≡ value_at w (prop_slot at k)
  same_value s v e k =
      elim (cases_Bool (is_slot s (prop_slot at k))) [
        | inl is ↦
            absurd (both_ways (s.class == 2) e
            (eq-eqb s.class 2 (ap (λ (q : Slot). q.class) (same_slot s (prop_slot at k) is))))
        | inr isnt ↦ off_value s (prop_slot at k) v isnt
      ]

  pub same_props : (s : Slot) (v : List ℕ) → (s.class == 2) ≡ false → props at (Hear s v ∷ w) ≡ props at w
  same_props s v e =
      map_same (λ k. value_at (Hear s v ∷ w) (prop_slot at k)) (λ k. value_at w (prop_slot at k)) (same_value s v e)
      (replicas at.numbers.n)

  -- that of another replica stays
  pub other_value : (k : ℕ) (v : List ℕ) (j : ℕ) → (j ≡ k → ⊥)
      → value_at (Hear (prop_slot at k) v ∷ w) (prop_slot at j) ≡ value_at w (prop_slot at j)
  other_value k v j other =
      elim (cases_Bool (is_slot (prop_slot at k) (prop_slot at j))) [
        | inl is ↦ absurd (other (sym (ap (λ (q : Slot). q.origin) (same_slot (prop_slot at k) (prop_slot at j) is))))
        | inr isnt ↦ off_value (prop_slot at k) (prop_slot at j) v isnt
      ]

  -- and where the replica had none this is its proposal
  pub its_value : (k : ℕ) (v : List ℕ) → value_at w (prop_slot at k) ≡ None
      → value_at (Hear (prop_slot at k) v ∷ w) (prop_slot at k) ≡ Some v
  its_value k v none =
      ap₂ (λ (o : Option (List ℕ)) (b : Bool). option_or o (if b then Some v else None)) none (slot_itself (prop_slot at k))
