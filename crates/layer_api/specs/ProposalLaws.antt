-- What an instance inside says, the layer says; what is said at a slot is the one value that is said there; and decisions that come
-- from one kind of proposals come from another, where each of the one is one of the other.
use Rattle.std.specs.Prelude.{◌≡◌, ℕ, Bool, true, false, ◌||◌, if◌then◌else◌, List, [], ◌∷◌, ◌++◌, Option, Some, refl, ◌⊎◌}
use Rattle.std.proofs.Common.{◌∙◌, ap, subst, inl, inr}
use Rattle.std.proofs.lemmas.Bool.{cases_Bool, both_ways}
use Rattle.ritas_base.specs.declared.slot.Slot.{Slot}
use Rattle.ritas_base.specs.declared.item.Say.{Say}
use Rattle.ritas_base.specs.declared.id.Id.{Id}
use Rattle.ritas_base.specs.Numbers.{Numbers}
use Rattle.ritas_base.specs.SlotOrder.{is_slot, same_slot, slot_itself}
use Rattle.layer_api.specs.Words.{Word, AllMet, HasSay, is_said, said_value, all_said, AreFresh}
use Rattle.layer_api.specs.Part.{part_of, part_words, says_in}
use Rattle.layer_api.specs.FedLaws.{say_append, say_earlier, say_later}
use Rattle.layer_api.specs.FreshLaws.{has_said, fresh_apart}
use Rattle.layer_api.specs.Service.{Instance, Decision, Purpose, Carries, Decides, Orders}
use Rattle.layer_api.specs.Proposals.{Proposal, SomeProposed, IsProposed, Listing, IsAppended}

-- ---- what an instance inside says

-- what is said in some words is newly said in them, or before
pub said_in : (says : List Word → Word → List Say) (ds before : List Word) (y : Say) → HasSay (all_said says (ds ++ before)) y
    → HasSay (says_in says ds before) y ⊎ HasSay (all_said says before) y
said_in says [] before y h = inr h
said_in says (d ∷ ds) before y h =
    elim (say_append (says (ds ++ before) d) (all_said says (ds ++ before)) y h) [
      | inl a ↦ inl (say_later (says_in says ds before) (says (ds ++ before) d) y a)
      | inr b ↦ elim (said_in says ds before y b) [
        | inl x ↦ inl (say_earlier (says_in says ds before) (says (ds ++ before) d) y x)
        | inr x ↦ inr x
      ]
    ]

-- where the layer says what the instance newly says, it said all that the instance said
pub part_said : (ask : List Word → Option (List ℕ)) (takes : Slot → Bool) (outer says : List Word → Word → List Say)
    → ((c : Word) (w : List Word) (y : Say) → HasSay (says_in says (part_of ask takes w c) (part_words ask takes w)) y → HasSay (outer w c) y)
    → (w : List Word) (y : Say) → HasSay (all_said says (part_words ask takes w)) y → HasSay (all_said outer w) y
part_said ask takes outer says passes [] y h = absurd h
part_said ask takes outer says passes (c ∷ w) y h =
    elim (said_in says (part_of ask takes w c) (part_words ask takes w) y h) [
      | inl a ↦ say_earlier (outer w c) (all_said outer w) y (passes c w y a)
      | inr b ↦ say_later (outer w c) (all_said outer w) y (part_said ask takes outer says passes w y b)
    ]

-- ---- what is said at a slot

-- of fresh broadcasts that at a slot is its value
fresh_value : (P : Say → Type 0) (before ys : List Say) (y : Say) → AreFresh P before ys → HasSay ys y → said_value ys y.slot ≡ Some y.value
fresh_value P before [] y all h = absurd h
fresh_value P before (x ∷ ys) y all (inl e) =
    ap (λ (b : Bool). if b then Some x.value else said_value ys y.slot)
    (subst (λ (s : Slot). is_slot x.slot s ≡ true) (ap (λ (z : Say). z.slot) e) (slot_itself x.slot))
    ∙ ap (λ (z : Say). Some z.value) e
fresh_value P before (x ∷ ys) y all (inr h) =
    elim (cases_Bool (is_slot x.slot y.slot)) [
      | inl here ↦
          absurd (both_ways (is_said ys y.slot)
          (subst (λ (s : Slot). is_said ys s ≡ false) (same_slot x.slot y.slot here) all.2) (has_said ys y h))
      | inr off ↦ ap (λ (b : Bool). if b then Some x.value else said_value ys y.slot) off ∙ fresh_value P before ys y all.3 h
    ]

-- with others behind, it is that of the first
value_first : (xs ys : List Say) (s : Slot) (v : List ℕ) → said_value xs s ≡ Some v → said_value (xs ++ ys) s ≡ Some v
value_first [] ys s v q = absurd cc
value_first (x ∷ xs) ys s v q = go (is_slot x.slot s) q (λ e. value_first xs ys s v e)
  where
    go : (b : Bool) → (if b then Some x.value else said_value xs s) ≡ Some v → (said_value xs s ≡ Some v → said_value (xs ++ ys) s ≡ Some v)
        → (if b then Some x.value else said_value (xs ++ ys) s) ≡ Some v
    go true e later = e
    go false e later = later e

-- with nothing at the slot in front, that of those behind
value_behind : (xs ys : List Say) (s : Slot) → is_said xs s ≡ false → said_value (xs ++ ys) s ≡ said_value ys s
value_behind [] ys s none = refl
value_behind (x ∷ xs) ys s none = go (is_slot x.slot s) none (λ out. value_behind xs ys s out)
  where
    go : (b : Bool) → (b || is_said xs s) ≡ false → (is_said xs s ≡ false → said_value (xs ++ ys) s ≡ said_value ys s)
        → (if b then Some x.value else said_value (xs ++ ys) s) ≡ said_value ys s
    go true out later = absurd cc
    go false out later = later out

-- where all that is said is fresh, that of a slot is what is said there
pub said_is_value : (says : List Word → Word → List Say) (may : List Word → Word → Type 0) (P : Say → Type 0)
    → ((c : Word) (w : List Word) → AllMet may (c ∷ w) → AreFresh P (all_said says w) (says w c))
    → (w : List Word) (y : Say) → AllMet may w → HasSay (all_said says w) y → said_value (all_said says w) y.slot ≡ Some y.value
said_is_value says may P law [] y met h = absurd h
said_is_value says may P law (c ∷ w) y met h =
    elim (say_append (says w c) (all_said says w) y h) [
      | inl a ↦ value_first (says w c) (all_said says w) y.slot y.value (fresh_value P (all_said says w) (says w c) y (law c w met) a)
      | inr b ↦
          value_behind (says w c) (all_said says w) y.slot
          (fresh_apart P (all_said says w) (says w c) y.slot (law c w met) (has_said (all_said says w) y b))
          ∙ said_is_value says may P law w y met.1 b
    ]

-- ---- kinds of proposals

module _ (is_correct : ℕ → Bool) (one other : Proposal) (is : (k : ℕ) (x : Instance) (v : List ℕ) → is_correct k ≡ true → one k x v → other k x v) where
  pub proposed_as : (decided : Instance → Option Decision) → IsProposed is_correct one decided → IsProposed is_correct other decided
  proposed_as decided h = record {
    bits = λ a attempt b q. some_as _ _ (h.bits a attempt b q);
    values = λ a attempt v q. some_as _ _ (h.values a attempt v q);
    entries = λ a k v e ck q r. is k _ e ck (h.entries a k v e ck q r);
  }
    where
      some_as : (x : Instance) (v : List ℕ) → SomeProposed is_correct one x v → SomeProposed is_correct other x v
      some_as x v s = (s.0, s.1, is s.0 x v s.1 s.2)

module _ (is_correct : ℕ → Bool) (one other : Listing) (is : (k a : ℕ) (v : List ℕ) → is_correct k ≡ true → one k a v → other k a v) where
  pub appended_as : (purpose : Purpose) (p : Numbers) (decided : Instance → Option Decision) (completed : ℕ) (x : Id)
      → IsAppended purpose p is_correct one decided completed x → IsAppended purpose p is_correct other decided completed x
  appended_as Carries p decided completed x h = h
  appended_as (Decides y) p decided completed x h = h
  appended_as (Orders rounds) p decided completed x h = record {
    round = h.round;
    decision = h.decision;
    complete = h.complete;
    decides = h.decides;
    wanted = h.wanted;
    first = h.first;
    who = h.who;
    list = h.list;
    correct = h.correct;
    asked = is h.who h.round h.list h.correct h.asked;
    stands = h.stands;
  }
