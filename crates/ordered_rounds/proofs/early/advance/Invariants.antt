use Rattle.std.proofs.Common.{◌-◌, ◌≡◌, ℕ, true}
use Rattle.ordered_rounds.specs.Early.{has_early, is_known}
use Rattle.ordered_rounds.proofs.early.advance.Given as goal

abbrev pub invariant-loop-base : goal.invariant-loop-base
invariant-loop-base l = record {
  known : (k : ℕ) → is_known l.base l.early l.origin k ≡ is_known l.initial.base l.initial.early l.origin k;
  others : (o k : ℕ) → (o ≡ l.origin → ⊥) → has_early l.early o k ≡ has_early l.initial.early o k;
  fewer : (o k : ℕ) → has_early l.early o k ≡ true → has_early l.initial.early o k ≡ true;
}

abbrev pub decreases-loop-base : goal.decreases-loop-base
decreases-loop-base l = 1000000 - l.base
