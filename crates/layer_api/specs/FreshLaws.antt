-- What is said is new: for lists of broadcasts that are said one after the other, by a layer and by the instances inside.
use Rattle.std.specs.Prelude.{◌≡◌, ℕ, Bool, true, false, ◌||◌, List, [], ◌∷◌, ◌++◌, Option, Some, None, refl}
use Rattle.std.proofs.Common.{ap, subst, inl, inr}
use Rattle.std.proofs.lemmas.Bool.{cases_Bool, or_cases, or_from, or_left, or_right, both_ways}
use Rattle.ritas_base.specs.declared.slot.Slot.{Slot}
use Rattle.ritas_base.specs.declared.item.Say.{Say}
use Rattle.ritas_base.specs.SlotOrder.{is_slot, same_slot, slot_itself}
use Rattle.layer_api.specs.Words.{Word, AllMet, HasSay, is_said, all_said, AreFresh}
use Rattle.layer_api.specs.Part.{newly, says_in}
use Rattle.layer_api.specs.FedLaws.{say_append}
use Rattle.layer_api.specs.PartLaws.{says_in_all}

-- ---- whether something is said at a slot

or_parts : (a b : Bool) → (a || b) ≡ false → (a ≡ false) × (b ≡ false)
or_parts true b e = absurd cc
or_parts false b e = (refl, e)

pub said_parts : (xs ys : List Say) (s : Slot) → is_said (xs ++ ys) s ≡ false → (is_said xs s ≡ false) × (is_said ys s ≡ false)
said_parts [] ys s e = (refl, e)
said_parts (x ∷ xs) ys s e =
    let h = or_parts (is_slot x.slot s) (is_said (xs ++ ys) s) e in
    let r = said_parts xs ys s h.1 in
    (or_from (is_slot x.slot s) (is_said xs s) h.0 r.0, r.1)

pub said_append : (xs ys : List Say) (s : Slot) → is_said xs s ≡ false → is_said ys s ≡ false → is_said (xs ++ ys) s ≡ false
said_append [] ys s e f = f
said_append (x ∷ xs) ys s e f =
    let h = or_parts (is_slot x.slot s) (is_said xs s) e in
    or_from (is_slot x.slot s) (is_said (xs ++ ys) s) h.0 (said_append xs ys s h.1 f)

pub has_said : (xs : List Say) (y : Say) → HasSay xs y → is_said xs y.slot ≡ true
has_said [] y h = absurd h
has_said (x ∷ xs) y (inl e) = or_left (is_slot x.slot y.slot) (is_said xs y.slot) (subst (λ (s : Slot). is_slot x.slot s ≡ true) (ap (λ (z : Say). z.slot) e) (slot_itself x.slot))
has_said (x ∷ xs) y (inr h) = or_right (is_slot x.slot y.slot) (is_said xs y.slot) (has_said xs y h)

-- what is said at a slot
pub said_has : (xs : List Say) (s : Slot) → is_said xs s ≡ true → (v : List ℕ) × HasSay xs (record { slot = s; value = v })
said_has [] s e = absurd cc
said_has (x ∷ xs) s e =
    elim (or_cases (is_slot x.slot s) (is_said xs s) e) [
      | inl here ↦ (x.value, inl (ap (λ (q : Slot). record { slot = q; value = x.value }) (same_slot x.slot s here)))
      | inr there ↦ let r = said_has xs s there in (r.0, inr r.1)
    ]

-- nothing is said at a slot at which nothing can be
pub unsaid : (xs : List Say) (s : Slot) → ((v : List ℕ) → HasSay xs (record { slot = s; value = v }) → ⊥) → is_said xs s ≡ false
unsaid xs s none =
    elim (cases_Bool (is_said xs s)) [ inl e ↦ let h = said_has xs s e in absurd (none h.0 h.1) | inr e ↦ e ]

-- ---- fresh broadcasts

pub fresh_each : (P : Say → Type 0) (before ys : List Say) (y : Say) → AreFresh P before ys → HasSay ys y → P y
fresh_each P before [] y all h = absurd h
fresh_each P before (x ∷ ys) y all (inl e) = subst P e all.0
fresh_each P before (x ∷ ys) y all (inr h) = fresh_each P before ys y all.3 h

pub fresh_append : (P : Say → Type 0) (before xs ys : List Say) → AreFresh P before xs → AreFresh P before ys
    → ((y : Say) → HasSay xs y → is_said ys y.slot ≡ false) → AreFresh P before (xs ++ ys)
fresh_append P before [] ys a b apart = b
fresh_append P before (x ∷ xs) ys a b apart =
    (a.0, a.1, said_append xs ys x.slot a.2 (apart x (inl refl)), fresh_append P before xs ys a.3 b (λ y h. apart y (inr h)))

-- seen otherwise, and after other broadcasts
pub fresh_other : (P Q : Say → Type 0) (before after ys : List Say) → ((y : Say) → P y → Q y)
    → ((y : Say) → P y → is_said before y.slot ≡ false → is_said after y.slot ≡ false) → AreFresh P before ys → AreFresh Q after ys
fresh_other P Q before after [] wider unsaid all = tt
fresh_other P Q before after (y ∷ ys) wider unsaid all =
    (wider y all.0, unsaid y all.0 all.1, all.2, fresh_other P Q before after ys wider unsaid all.3)

pub fresh_newly : (P : Say → Type 0) (before : List Say) (s : Slot) (o u : Option (List ℕ))
    → ((v : List ℕ) → o ≡ None → u ≡ Some v → P (record { slot = s; value = v }) × (is_said before s ≡ false)) → AreFresh P before (newly s o u)
fresh_newly P before s o None h = tt
fresh_newly P before s None (Some v) h = let x = h v refl refl in (x.0, x.1, refl, tt)
fresh_newly P before s (Some x) (Some v) h = tt

-- where something was said before, nothing fresh is said
pub fresh_apart : (P : Say → Type 0) (before ys : List Say) (s : Slot) → AreFresh P before ys → is_said before s ≡ true → is_said ys s ≡ false
fresh_apart P before [] s all e = refl
fresh_apart P before (y ∷ ys) s all e =
    elim (cases_Bool (is_slot y.slot s)) [
      | inl here ↦ absurd (both_ways (is_said before s) (subst (λ (q : Slot). is_said before q ≡ false) (same_slot y.slot s here) all.1) e)
      | inr off ↦ or_from (is_slot y.slot s) (is_said ys s) off (fresh_apart P before ys s all.3 e)
    ]

-- ---- an instance inside

module _ (says : List Word → Word → List Say) (may : List Word → Word → Type 0) (P : Say → Type 0)
    (law : (c : Word) (w : List Word) → AllMet may (c ∷ w) → AreFresh P (all_said says w) (says w c)) where
  said_before : (ds before : List Word) (s : Slot) → is_said (all_said says (ds ++ before)) s ≡ false → is_said (all_said says before) s ≡ false
  said_before [] before s e = e
  said_before (d ∷ ds) before s e = said_before ds before s (said_parts (says (ds ++ before) d) (all_said says (ds ++ before)) s e).1

  -- what it says in some words is fresh
  pub fresh_in : (ds before : List Word) → AllMet may (ds ++ before) → AreFresh P (all_said says before) (says_in says ds before)
  fresh_in [] before m = tt
  fresh_in (d ∷ ds) before m =
      let new = law d (ds ++ before) m in
      fresh_append P (all_said says before) (says_in says ds before) (says (ds ++ before) d) (fresh_in ds before m.1)
      (fresh_other P P (all_said says (ds ++ before)) (all_said says before) (says (ds ++ before) d) (λ y h. h) (λ y h e. said_before ds before y.slot e) new)
      (λ y h. fresh_apart P (all_said says (ds ++ before)) (says (ds ++ before) d) y.slot new (has_said (all_said says (ds ++ before)) y (says_in_all says ds before y h)))

  -- each thing that it says is as it must be
  pub said_each : (w : List Word) (y : Say) → AllMet may w → HasSay (all_said says w) y → P y
  said_each [] y m h = absurd h
  said_each (c ∷ w) y m h =
      elim (say_append (says w c) (all_said says w) y h) [
        | inl a ↦ fresh_each P (all_said says w) (says w c) y (law c w m) a
        | inr b ↦ said_each w y m.1 b
      ]
