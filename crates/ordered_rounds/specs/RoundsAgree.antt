-- What two correct replicas decided in one round is equal.
use Rattle.std.specs.Prelude.{◌≡◌, ℕ, Bool, true, List, Some}
use Rattle.ritas_base.specs.declared.slot.Slot.{Slot}
use Rattle.ritas_base.specs.declared.mode.Mode.{Mode}
use Rattle.ritas_base.specs.Numbers.{Numbers}
use Rattle.layer_api.specs.Runs.{ReplicaStep, calls_of}
use Rattle.layer_api.specs.Words.{Word}
use Rattle.layer_api.specs.OneLog.{Session, seat_at, IsRunOf}
use Rattle.ordered_rounds.specs.Box.{RoundRules}
use Rattle.ordered_rounds.specs.Rounds.{round_decides, ordered}

-- over every run
abbrev pub RoundDecisionsAgree : RoundRules → Type 0
RoundDecisionsAgree v = (p : Numbers) (mode : Mode) (is_correct : ℕ → Bool) (coins : ℕ → Slot → Bool) (steps : List (ReplicaStep Word)) →
    let g : Session = record { rules = ordered v; numbers = p; mode = mode; is_correct = is_correct; coins = coins } in
    IsRunOf g steps → (a i j : ℕ) (x y : List ℕ) → is_correct i ≡ true → is_correct j ≡ true
    → round_decides v (seat_at g i) a (calls_of i steps) ≡ Some x → round_decides v (seat_at g j) a (calls_of j steps) ≡ Some y → x ≡ y
