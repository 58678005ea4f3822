-- Each identifier that a round appends was in the list that some correct replica proposed in the round.
use Rattle.std.specs.Prelude.{◌≡◌, ℕ, suc, Bool, true, false, List, Some}
use Rattle.ritas_base.specs.declared.slot.Slot.{Slot}
use Rattle.ritas_base.specs.declared.id.Id.{Id}
use Rattle.ritas_base.specs.declared.mode.Mode.{Mode}
use Rattle.ritas_base.specs.Numbers.{Numbers}
use Rattle.frame_codec.specs.Values.{ids_of}
use Rattle.layer_api.specs.Runs.{ReplicaStep, calls_of}
use Rattle.layer_api.specs.Words.{Word}
use Rattle.layer_api.specs.Service.{has_id}
use Rattle.layer_api.specs.OneLog.{Session, seat_at, IsRunOf}
use Rattle.ordered_rounds.specs.Box.{RoundRules}
use Rattle.ordered_rounds.specs.Rounds.{log_below, round_ask, ordered}

-- a correct replica that proposed a list with the identifier in a round
pub record WasProposed (v : RoundRules) (g : Session) (steps : List (ReplicaStep Word)) (a : ℕ) (x : Id) : Type 0 where
  pub who : ℕ
  pub list : List ℕ
  pub correct : g.is_correct who ≡ true
  pub asked : round_ask v (seat_at g who) a (calls_of who steps) ≡ Some list
  pub stands : has_id (ids_of list) x ≡ true

abbrev pub AppendsProposed : RoundRules → Type 0
AppendsProposed v = (p : Numbers) (mode : Mode) (is_correct : ℕ → Bool) (coins : ℕ → Slot → Bool) (steps : List (ReplicaStep Word)) →
    let g : Session = record { rules = ordered v; numbers = p; mode = mode; is_correct = is_correct; coins = coins } in
    IsRunOf g steps → (a i : ℕ) (before after : List Id) (x : Id) → is_correct i ≡ true
    → log_below v (seat_at g i) a (calls_of i steps) ≡ Some before → log_below v (seat_at g i) (suc a) (calls_of i steps) ≡ Some after
    → has_id after x ≡ true → has_id before x ≡ false → WasProposed v g steps a x
