-- The first number that passes a test, and what stays heard.
use Rattle.std.specs.Prelude.{◌≡◌, ℕ, ◌+◌, ◌<◌, ◌≤◌, Bool, true, false, List, ◌∷◌, Option, Some, None, MatchOption}
use Rattle.std.proofs.Common.{sym, ◌∙◌, ap, inl, inr, arith, zero, suc}
use Rattle.std.specs.List.{find, range_with_len}
use Rattle.std.proofs.lemmas.Bool.{cases_Bool, cases_order, or_right, cond-true, cond-false}
use Rattle.ritas_base.specs.declared.slot.Slot.{Slot}
use Rattle.ritas_base.specs.SlotOrder.{is_slot}
use Rattle.layer_api.specs.Words.{Word, Ask, Hear, is_heard}

-- b is the least number from a on that passes
pub record IsLeastFrom (p : ℕ → Bool) (a b : ℕ) : Type 0 where
  pub passes : p b ≡ true
  pub «from» : a ≤ b
  pub none_before : (k : ℕ) → a ≤ k → k < b → p k ≡ false

-- no number of these passes
abbrev pub NonePasses : (ℕ → Bool) → ℕ → ℕ → Type 0
NonePasses p a n = (k : ℕ) → a ≤ k → k < a + n → p k ≡ false

at_or_after : (p : ℕ → Bool) (a k : ℕ) → p a ≡ false → a ≤ k → (a + 1 ≤ k → p k ≡ false) → p k ≡ false
at_or_after p a k fails here later =
    elim (cases_order a k) [
      | inl same ↦ ap p (sym same) ∙ fails
      | inr (inl less) ↦ later (omega arith)
      | inr (inr more) ↦ absurd (omega arith)
    ]

find_later : (p : ℕ → Bool) (a n : ℕ) (o : Option ℕ) → p a ≡ false → MatchOption o (NonePasses p (a + 1) n) (IsLeastFrom p (a + 1))
    → MatchOption o (NonePasses p a (suc n)) (IsLeastFrom p a)
find_later p a n None fails later = λ k here within. at_or_after p a k fails here (λ after. later k after (omega arith))
find_later p a n (Some b) fails later = record {
  passes = later.passes;
  «from» = let g : a + 1 ≤ b = later.«from» in omega arith;
  none_before = λ k here before. at_or_after p a k fails here (λ after. later.none_before k after before);
}

pub find_is : (p : ℕ → Bool) (a n : ℕ) → MatchOption (find p (range_with_len a n)) (NonePasses p a n) (IsLeastFrom p a)
find_is p a zero = λ k here within. absurd (omega arith)
find_is p a (suc n) =
    elim (cases_Bool (p a)) [
      | inl passes ↦
          rw (cond-true (p a) (Some a) (find p (range_with_len (a + 1) n)) passes)
          (record { passes = passes; «from» = omega arith; none_before = λ k here before. absurd (omega arith) })
      | inr fails ↦
          rw (cond-false (p a) (Some a) (find p (range_with_len (a + 1) n)) fails) (find_later p a n _ fails (find_is p (a + 1) n))
    ]

-- what was heard stays heard
pub heard_stays : (c : Word) (w : List Word) (s : Slot) → is_heard w s ≡ true → is_heard (c ∷ w) s ≡ true
heard_stays (Ask v) w s h = h
heard_stays (Hear q v) w s h = or_right (is_slot q s) (is_heard w s) h
