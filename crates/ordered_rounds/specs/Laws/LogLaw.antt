-- The law of one log of atomic broadcast, over any rounds with their laws.
use Rattle.std.specs.Prelude.{◌≡◌, ℕ, Bool, true, false, if◌then◌else◌, List, refl}
use Rattle.std.proofs.Common.{sym, ◌∙◌}
use Rattle.layer_api.specs.Runs.{calls_of}
use Rattle.layer_api.specs.Service.{Decision, Bit, Value, Spent, Undecided, Decided}
use Rattle.layer_api.specs.OneLog.{seat_at, OneLog}
use Rattle.ordered_rounds.specs.Box.{RoundRules, RoundLaws, OneRound}
use Rattle.ordered_rounds.specs.Rounds.{complete_of, rounds, ordered}
use Rattle.ordered_rounds.specs.Laws.OneLog.{logs, unspent, decisions, one_last}
use Rattle.ordered_rounds.specs.Laws.Proposed.{decisions_proposed}
use Rattle.ordered_rounds.specs.Laws.Appending.{was_appended}

-- the one outcome is that a round is spent
ending_is : (b : Bool) (d : Decision) → (if b then Decided Spent else Undecided) ≡ Decided d → d ≡ Spent
ending_is true d q = cc
ending_is false d q = absurd cc

spent_is : (b : Bool) → (if b then Decided Spent else Undecided) ≡ Decided Spent → b ≡ true
spent_is true q = refl
spent_is false q = absurd cc

no_bit : (b : Bool) → Bit b ≡ Spent → ⊥
no_bit b e = cc

no_value : (b : Bool) (v : List ℕ) → (if b then Decided Spent else Undecided) ≡ Decided (Value v) → ⊥
no_value true v q = cc
no_value false v q = cc

-- over every run, of two logs one is a part of the other, and what instances decided is equal and was proposed
pub one_log_law : (v : RoundRules) → RoundLaws v → OneRound v → OneLog (ordered v)
one_log_law v laws one = record {
  logs = λ p mode is_correct coins steps run i j ci cj. logs v laws one p mode is_correct coins run.enough steps run.fed i j ci cj;
  outcomes = λ p mode is_correct coins steps run i j d e ci cj q r. ending_is _ d q ∙ sym (ending_is _ e r);
  decisions = λ p mode is_correct coins steps run i j x d e ci cj q r. decisions v laws one p mode is_correct coins run.enough steps run.fed i j x d e ci cj q r;
  bits = λ p mode is_correct coins steps run i b ci q. absurd (no_bit b (ending_is _ (Bit b) q));
  proposals = λ p mode is_correct coins steps run a attempt purpose i u ci q. absurd (no_value _ u q);
  unspent = λ p mode is_correct coins steps run i ci q.
      unspent v laws one p mode is_correct coins run.enough steps run.fed (complete_of v (seat_at (record { rules = ordered v; numbers = p; mode = mode; is_correct = is_correct; coins = coins }) i) rounds (calls_of i steps)) i ci
      (spent_is _ q);
  last_vectors = λ p mode is_correct coins steps run i j x y ci cj q r same. one_last v laws one p mode is_correct coins run.enough steps run.fed i j x y ci cj q r same;
  proposed = λ p mode is_correct coins steps run i ci. decisions_proposed v laws one p mode is_correct coins run.enough steps run.fed i ci;
  entries = λ p mode is_correct coins steps run a purpose i k u e ci ck q r. absurd (no_value _ u q);
  appended = λ p mode is_correct coins steps run i x ci here. was_appended v laws one p mode is_correct coins run.enough steps run.fed i x ci here;
}
